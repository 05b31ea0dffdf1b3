-- What holds of the findings of an entry holds of those of all files.
use Rattle.std.proofs.Common.{◌≡◌, ◌∙◌, ℕ, zero, suc, ◌<◌, Bool, true, false, if◌then◌else◌, List, [], ◌∷◌, ◌++◌, length, map, filter, Option, Some, None, refl, sym, ap, subst, arith, append-nil, Contains}
use Rattle.std.specs.Prelude.{is_some}
use Rattle.std.specs.List.{All, flat_map, slice_index_or}
use Rattle.std.proofs.lemmas.Bool.{false≢true}
use Rattle.std.proofs.lemmas.Grind.{flat_map-append}
use Rattle.std.proofs.lemmas.List.{map-append}
use Rattle.std.proofs.lemmas.List.Elements.{All-nil, All-cons, All-head, All-tail, All-append, All-weaker, Contains-append_left, Contains-append_right, filter-append}
use Rattle.fluent_grammar.specs.Words.{Text, is_among}
use Rattle.fluent_grammar.specs.Refusal.{Refusal}
use Rattle.fluent_grammar.specs.Tree as t
use Rattle.fluent_grammar.specs.Tree.{Inline, MaybeArguments}
use Rattle.fluent_grammar.specs.Tiling.{errors}
use Rattle.fluent_meaning.specs.Ids.{Ids, find}
use Rattle.fluent_tidy_laws.specs.Joined.{lists}
use Rattle.lint_findings.specs.Tiles.{Tile, entry_tile, junk_tile, tiles}
use Rattle.lint_findings.specs.Comparison.{Difference, missing_message, obsolete_message, missing_value, obsolete_value, missing_attribute, obsolete_attribute, unknown_variable, missing_variable, unused_variable, untranslated, differences, variables_of, as_message}
use Rattle.lint_findings.specs.ComparisonFindings.{difference_finding, difference_findings, loss_finding, loss_findings, message_findings, missing_findings, spotted_finding, texts_beside, texts_findings}
use Rattle.lint_findings.specs.Doubts.{Doubt, Spotted, broken_entity, broken_tag, changed_number, changed_style, changed_url, double_space, doubled_word, edge_space, empty_text, empty_variant, long_access_key, long_key, long_text, lost_key, lost_placeholder, lost_sign, missing_element, missing_name, new_placeholder, straight_quote, three_dots, unclosed, unknown_element, unknown_name, unopened, unpaired_quote}
use Rattle.lint_findings.specs.Occurrences.{PatternPlace, entry_places}
use Rattle.lint_findings.specs.Pairs.{on_texts}
use Rattle.fluent_meaning.specs.Fallback.{with_attribute}
use Rattle.lint_findings.specs.Losses.{Loss, lacking_variant, dropped_plural, written_term, losses}
use Rattle.fluent_plurals.specs.declared.plurals.LanguagePlurals.{LanguagePlurals}
use Rattle.lint_findings.specs.Finding.{Finding}
use Rattle.lint_findings.specs.SyntaxFindings.{begins_marked, mark_finding, refusal_finding, syntax_finding}
use Rattle.lint_findings.specs.Files.{File}
use Rattle.lint_findings.specs.DuplicateIds.{Declaration}
use Rattle.lint_findings.specs.Findings.{Options, Rules, FileFinding, FileTile, sources, findings_in, tiles_in, findings_of_tile, findings_of_tiles, declarations_of_tile, catalog_rules, translation_rules, known_ids, missing_messages}
use Rattle.lint_findings.specs.PlaceLaws.{tile_errors}
use Rattle.lint_findings.specs.FindingLaws.{OfCatalogs, OfTranslations, syntax_codes, is_syntax, syntax_files, error_files, HasErrors, HasReferences, source_selects, HasLostVariants, IsReferredIn, IsOfLoneTerm, is_unused, HasLoneTerms}
use Rattle.lint_findings.specs.Flaws.{Owner, entry_patterns}
use Rattle.lint_findings.specs.References.{elements_references}
use Rattle.lint_findings.specs.UnusedTerms.{referred_term, referred_terms, is_referred_in}
use Rattle.lint_findings.proofs.EachFinding.{Keeps, IsSound, none, one, mapped, plain, of_entry_tile}
use Rattle.lint_findings.proofs.NearNamesAreThere.{is_among_it}
use Rattle.lint_findings.proofs.SourcePlaces.{IsReadTile, tiles_are_read, IsTileAmong, tiles_are_among}
use Rattle.lint_findings.proofs.TilesAreTheList.{tiles_have_the_errors}

-- ---- comparisons

module _ (S : Type 0) (rules : Rules) (file : File) where
  of_difference : (id s : Text) (known : List Text) (d : Difference) → IsSound S rules file (difference_finding file.source id s known d)
  of_difference id s known missing_message = plain S rules file _ refl refl refl
  of_difference id s known obsolete_message = plain S rules file _ refl refl refl
  of_difference id s known missing_value = plain S rules file _ refl refl refl
  of_difference id s known obsolete_value = plain S rules file _ refl refl refl
  of_difference id s known (missing_attribute a) = plain S rules file _ refl refl refl
  of_difference id s known (obsolete_attribute a) = plain S rules file _ refl refl refl
  of_difference id s known (unknown_variable x) = plain S rules file _ refl refl refl
  of_difference id s known (missing_variable x) = plain S rules file _ refl refl refl
  of_difference id s known (unused_variable x) = plain S rules file _ refl refl refl
  of_difference id s known untranslated = plain S rules file _ refl refl refl

  of_loss : (id s : Text) (loss : Loss) → IsSound S rules file (loss_finding file.source id s loss)
  of_loss id s (lacking_variant k x) = plain S rules file _ refl refl refl
  of_loss id s (dropped_plural v) = plain S rules file _ refl refl refl
  of_loss id s (written_term term text) = plain S rules file _ refl refl refl

  of_doubt : (owner at p : Text) (d : Doubt) → IsSound S rules file (spotted_finding file.source owner at (record { doubt = d; piece = p }))
  of_doubt owner at p broken_tag = plain S rules file _ refl refl refl
  of_doubt owner at p (unknown_element known x) = plain S rules file _ refl refl refl
  of_doubt owner at p (unclosed x) = plain S rules file _ refl refl refl
  of_doubt owner at p (unopened x) = plain S rules file _ refl refl refl
  of_doubt owner at p (missing_element x) = plain S rules file _ refl refl refl
  of_doubt owner at p (unknown_name known n) = plain S rules file _ refl refl refl
  of_doubt owner at p (missing_name n) = plain S rules file _ refl refl refl
  of_doubt owner at p (broken_entity known n) = plain S rules file _ refl refl refl
  of_doubt owner at p (long_access_key x) = plain S rules file _ refl refl refl
  of_doubt owner at p (long_key x) = plain S rules file _ refl refl refl
  of_doubt owner at p (changed_style x) = plain S rules file _ refl refl refl
  of_doubt owner at p (lost_key k) = plain S rules file _ refl refl refl
  of_doubt owner at p (changed_url x) = plain S rules file _ refl refl refl
  of_doubt owner at p (lost_placeholder x) = plain S rules file _ refl refl refl
  of_doubt owner at p (new_placeholder x) = plain S rules file _ refl refl refl
  of_doubt owner at p (changed_number x) = plain S rules file _ refl refl refl
  of_doubt owner at p (edge_space e) = plain S rules file _ refl refl refl
  of_doubt owner at p double_space = plain S rules file _ refl refl refl
  of_doubt owner at p doubled_word = plain S rules file _ refl refl refl
  of_doubt owner at p three_dots = plain S rules file _ refl refl refl
  of_doubt owner at p straight_quote = plain S rules file _ refl refl refl
  of_doubt owner at p (unpaired_quote x) = plain S rules file _ refl refl refl
  of_doubt owner at p (lost_sign x) = plain S rules file _ refl refl refl
  of_doubt owner at p empty_text = plain S rules file _ refl refl refl
  of_doubt owner at p empty_variant = plain S rules file _ refl refl refl
  of_doubt owner at p long_text = plain S rules file _ refl refl refl

  of_spotted : (owner at : Text) (x : Spotted) → IsSound S rules file (spotted_finding file.source owner at x)
  of_spotted owner at x = of_doubt owner at x.piece x.doubt

  of_texts : (id : Text) (ps : List PatternPlace) (said : List (List Spotted)) → All (IsSound S rules file) (texts_findings file.source id ps said)
  of_texts id [] said = none S rules file
  of_texts id (p ∷ ps) [] = none S rules file
  of_texts id (p ∷ ps) (xs ∷ said) =
      let owner = with_attribute id p.attribute in
      All-append (IsSound S rules file) (map (spotted_finding file.source owner p.pattern_at) xs) _
      (mapped S rules file (spotted_finding file.source owner p.pattern_at) (of_spotted owner p.pattern_at) xs) (of_texts id ps said)

  of_other : (m : t.Message) (s : Text) (o : Option t.Message) → All (IsSound S rules file) (texts_beside file.source m s o)
  of_other m s None = none S rules file
  of_other m s (Some o) = of_texts m.id (entry_places s) (on_texts m o)

  of_message : (ids reference : Ids (Unit {0})) (plurals : Option LanguagePlurals) (e : t.Entry) (s : Text) → All (IsSound S rules file) (message_findings ids reference plurals file.source e s)
  of_message ids reference plurals (t.message m) s =
      All-append (IsSound S rules file) (difference_findings ids reference file.source m s) _
      (mapped S rules file (difference_finding file.source m.id s (variables_of reference m.id)) (of_difference m.id s (variables_of reference m.id)) (differences ids reference m.id))
      (All-append (IsSound S rules file) (loss_findings reference plurals file.source m s) _
      (mapped S rules file (loss_finding file.source m.id s) (of_loss m.id s) (losses reference plurals m))
      (of_other m s (as_message (find reference m.id))))
  of_message ids reference plurals (t.term m) s = none S rules file
  of_message ids reference plurals (t.comment c) s = none S rules file
  of_message ids reference plurals (t.group_comment c) s = none S rules file
  of_message ids reference plurals (t.resource_comment c) s = none S rules file
  of_message ids reference plurals (t.junk x) s = none S rules file

  unless_there : (b : Bool) (f : Finding) → IsSound S rules file f → All (IsSound S rules file) (if b then [] else f ∷ [])
  unless_there true f h = none S rules file
  unless_there false f h = one S rules file f h

  of_missing : (ids : Ids (Unit {0})) (tile : Tile) → All (IsSound S rules file) (missing_findings ids file.source tile)
  of_missing ids (junk_tile at s refusal) = none S rules file
  of_missing ids (entry_tile at s (t.message m)) = unless_there (is_some (as_message (find ids m.id))) (difference_finding file.source m.id s [] missing_message) (of_difference m.id s [] missing_message)
  of_missing ids (entry_tile at s (t.term m)) = none S rules file
  of_missing ids (entry_tile at s (t.comment c)) = none S rules file
  of_missing ids (entry_tile at s (t.group_comment c)) = none S rules file
  of_missing ids (entry_tile at s (t.resource_comment c)) = none S rules file
  of_missing ids (entry_tile at s (t.junk x)) = none S rules file

-- ---- findings of tiles

syntax_files-++ : (fs gs : List FileFinding) → syntax_files (fs ++ gs) ≡ syntax_files fs ++ syntax_files gs
syntax_files-++ fs gs =
    ap (map (λ (f : FileFinding). f.file)) (filter-append is_syntax fs gs) ∙ map-append (λ (f : FileFinding). f.file) (filter is_syntax fs) (filter is_syntax gs)

-- the file of a tile that is junk
abbrev junk_file : File → Tile → List File
junk_file file (junk_tile at s refusal) = file ∷ []
junk_file file (entry_tile at s e) = []

module _ (S : Type 0) (rules : Rules) where
  abbrev Kept : FileFinding → Type 0
  Kept f = Keeps S rules.ids rules.is_referred f

  abbrev AreKept : List FileFinding → Type 0
  AreKept fs = All Kept fs

  kept_in : (file : File) (fs : List Finding) → All (IsSound S rules file) fs → AreKept (findings_in file fs)
  kept_in file [] h = All-nil Kept
  kept_in file (f ∷ fs) h =
      let here = All-head (IsSound S rules file) f fs h in
      All-cons Kept (record { file = file; finding = f }) (findings_in file fs) here.keeps (kept_in file fs (All-tail (IsSound S rules file) f fs h))

  -- a finding of junk, by whether the mark begins it
  abbrev of_junk : Bool → ℕ → Text → Refusal → Finding
  of_junk marked at s refusal = if marked then mark_finding else refusal_finding at s refusal

  junk_kept : (file : File) (marked : Bool) (at : ℕ) (s : Text) (refusal : Refusal) → Kept (record { file = file; finding = of_junk marked at s refusal })
  junk_kept file true at s refusal = record { reference = λ e. absurd (false≢true e); repeated = λ e. absurd (false≢true e); unused = λ e. absurd (false≢true e) }
  junk_kept file false at s refusal = record { reference = λ e. absurd (false≢true e); repeated = λ e. absurd (false≢true e); unused = λ e. absurd (false≢true e) }

  junk_syntax : (file : File) (marked : Bool) (at : ℕ) (s : Text) (refusal : Refusal) → syntax_files (findings_in file (of_junk marked at s refusal ∷ [])) ≡ file ∷ []
  junk_syntax file true at s refusal = refl
  junk_syntax file false at s refusal = refl

  no_syntax_step : (file : File) (f : Finding) (fs : List Finding) (b : Bool) → b ≡ false → syntax_files (findings_in file fs) ≡ [] →
      map (λ (g : FileFinding). g.file) (if b then record { file = file; finding = f } ∷ filter is_syntax (findings_in file fs) else filter is_syntax (findings_in file fs)) ≡ []
  no_syntax_step file f fs false e h = h
  no_syntax_step file f fs true e h = absurd (false≢true (sym e))

  no_syntax : (file : File) (fs : List Finding) → All (IsSound S rules file) fs → syntax_files (findings_in file fs) ≡ []
  no_syntax file [] h = refl
  no_syntax file (f ∷ fs) h =
      let here = All-head (IsSound S rules file) f fs h in
      no_syntax_step file f fs (is_among f.code syntax_codes) here.unlike_syntax (no_syntax file fs (All-tail (IsSound S rules file) f fs h))

  module _ (compares : (file : File) (e : t.Entry) (s : Text) → All (IsSound S rules file) (rules.compare file.source e s)) where
    -- what is known of a tile of a file
    abbrev IsTileOf : FileTile → Type 0
    IsTileOf x = IsReadTile x.file.source x.tile × IsTileAmong (source_selects x.file.source) x.tile

    tile_kept : (before : List Declaration) (file : File) (tile : Tile) → IsReadTile file.source tile → IsTileAmong (source_selects file.source) tile → AreKept (findings_in file (findings_of_tile rules before file tile))
    tile_kept before file (junk_tile at s refusal) read among =
        All-cons Kept (record { file = file; finding = syntax_finding at s refusal }) [] (junk_kept file (begins_marked at s) at s refusal) (All-nil Kept)
    tile_kept before file (entry_tile at s e) read among = kept_in file _ (of_entry_tile S rules file (compares file) before at s e read among)

    tiles_kept : (before : List Declaration) (ts : List FileTile) → All IsTileOf ts → AreKept (findings_of_tiles rules before ts)
    tiles_kept before [] h = All-nil Kept
    tiles_kept before (x ∷ xs) h =
        let here = All-head IsTileOf x xs h in
        All-append Kept (findings_in x.file (findings_of_tile rules before x.file x.tile)) _ (tile_kept before x.file x.tile here.0 here.1)
        (tiles_kept (before ++ declarations_of_tile rules x.file x.tile) xs (All-tail IsTileOf x xs h))

    tile_syntax : (before : List Declaration) (file : File) (tile : Tile) → IsReadTile file.source tile → IsTileAmong (source_selects file.source) tile → syntax_files (findings_in file (findings_of_tile rules before file tile)) ≡ junk_file file tile
    tile_syntax before file (junk_tile at s refusal) read among = junk_syntax file (begins_marked at s) at s refusal
    tile_syntax before file (entry_tile at s e) read among = no_syntax file _ (of_entry_tile S rules file (compares file) before at s e read among)

    tiles_syntax : (before : List Declaration) (ts : List FileTile) → All IsTileOf ts → syntax_files (findings_of_tiles rules before ts) ≡ flat_map (λ (x : FileTile). junk_file x.file x.tile) ts
    tiles_syntax before [] h = refl
    tiles_syntax before (x ∷ xs) h =
        let here = All-head IsTileOf x xs h in
        let own = findings_in x.file (findings_of_tile rules before x.file x.tile) in
        let others = findings_of_tiles rules (before ++ declarations_of_tile rules x.file x.tile) xs in
        syntax_files-++ own others ∙ ap (λ fs. fs ++ syntax_files others) (tile_syntax before x.file x.tile here.0 here.1)
        ∙ ap (λ fs. junk_file x.file x.tile ++ fs) (tiles_syntax (before ++ declarations_of_tile rules x.file x.tile) xs (All-tail IsTileOf x xs h))

    -- ---- files

    known_tiles : (file : File) (ts : List Tile) → All (IsReadTile file.source) ts → All (IsTileAmong (source_selects file.source)) ts → All IsTileOf (map (λ tile. record { file = file; tile = tile }) ts)
    known_tiles file [] h k = All-nil IsTileOf
    known_tiles file (tile ∷ ts) h k =
        All-cons IsTileOf (record { file = file; tile = tile }) _ (All-head (IsReadTile file.source) tile ts h, All-head (IsTileAmong (source_selects file.source)) tile ts k)
        (known_tiles file ts (All-tail (IsReadTile file.source) tile ts h) (All-tail (IsTileAmong (source_selects file.source)) tile ts k))

    all_tiles : (files : List File) → All IsTileOf (flat_map tiles_in files)
    all_tiles [] = All-nil IsTileOf
    all_tiles (file ∷ files) = All-append IsTileOf (tiles_in file) (flat_map tiles_in files) (known_tiles file (tiles file.source) (tiles_are_read file.source) (tiles_are_among file.source)) (all_tiles files)

    junk_in : (file : File) (ts : List Tile) → flat_map (λ (x : FileTile). junk_file x.file x.tile) (map (λ tile. record { file = file; tile = tile }) ts) ≡ map (λ e. file) (tile_errors ts)
    junk_in file [] = refl
    junk_in file (junk_tile at s refusal ∷ ts) = ap (λ fs. file ∷ fs) (junk_in file ts)
    junk_in file (entry_tile at s e ∷ ts) = junk_in file ts

    all_junk : (files : List File) → flat_map (λ (x : FileTile). junk_file x.file x.tile) (flat_map tiles_in files) ≡ error_files files
    all_junk [] = refl
    all_junk (file ∷ files) =
        flat_map-append (λ (x : FileTile). junk_file x.file x.tile) (tiles_in file) (flat_map tiles_in files)
        ∙ ap (λ fs. fs ++ flat_map (λ (x : FileTile). junk_file x.file x.tile) (flat_map tiles_in files)) (junk_in file (tiles file.source) ∙ ap (map (λ e. file)) (tiles_have_the_errors file.source))
        ∙ ap (λ fs. map (λ e. file) (errors file.source) ++ fs) (all_junk files)

    files_kept : (files : List File) → AreKept (findings_of_tiles rules [] (flat_map tiles_in files))
    files_kept files = tiles_kept [] (flat_map tiles_in files) (all_tiles files)

    files_syntax : (files : List File) → syntax_files (findings_of_tiles rules [] (flat_map tiles_in files)) ≡ error_files files
    files_syntax files = tiles_syntax [] (flat_map tiles_in files) (all_tiles files) ∙ all_junk files

  -- ---- missing messages

  missing_kept : (ids : Ids (Unit {0})) (ts : List FileTile) → AreKept (flat_map (λ (x : FileTile). findings_in x.file (missing_findings ids x.file.source x.tile)) ts)
  missing_kept ids [] = All-nil Kept
  missing_kept ids (x ∷ xs) = All-append Kept (findings_in x.file (missing_findings ids x.file.source x.tile)) _ (kept_in x.file _ (of_missing S rules x.file ids x.tile)) (missing_kept ids xs)

  missing_syntax : (ids : Ids (Unit {0})) (ts : List FileTile) → syntax_files (flat_map (λ (x : FileTile). findings_in x.file (missing_findings ids x.file.source x.tile)) ts) ≡ []
  missing_syntax ids [] = refl
  missing_syntax ids (x ∷ xs) =
      let own = findings_in x.file (missing_findings ids x.file.source x.tile) in
      let others = flat_map (λ (y : FileTile). findings_in y.file (missing_findings ids y.file.source y.tile)) xs in
      syntax_files-++ own others ∙ ap (λ fs. fs ++ syntax_files others) (no_syntax x.file _ (of_missing S rules x.file ids x.tile)) ∙ missing_syntax ids xs

-- ---- the laws

module _ (S : Type 0) (options : Options) (files : List File) where
  abbrev own_rules : Rules
  own_rules = catalog_rules options files

  compares_nothing : (file : File) (e : t.Entry) (s : Text) → All (IsSound S own_rules file) (own_rules.compare file.source e s)
  compares_nothing file e s = none S own_rules file

  pub catalog_kept : All (Keeps S own_rules.ids own_rules.is_referred) (findings_of_tiles own_rules [] (flat_map tiles_in files))
  catalog_kept = files_kept S own_rules compares_nothing files

  pub catalog_syntax : syntax_files (findings_of_tiles own_rules [] (flat_map tiles_in files)) ≡ error_files files
  catalog_syntax = files_syntax S own_rules compares_nothing files

module _ (S : Type 0) (options : Options) (references files : List File) where
  abbrev both_rules : Rules
  both_rules = translation_rules options references files

  compares_messages : (file : File) (e : t.Entry) (s : Text) → All (IsSound S both_rules file) (both_rules.compare file.source e s)
  compares_messages file e s = of_message S both_rules file (known_ids options references files) (known_ids options references references) options.plurals e s

  pub translation_kept : All (Keeps S both_rules.ids both_rules.is_referred) (findings_of_tiles both_rules [] (flat_map tiles_in files) ++ missing_messages options references files)
  translation_kept =
      All-append (Keeps S both_rules.ids both_rules.is_referred) (findings_of_tiles both_rules [] (flat_map tiles_in files)) (missing_messages options references files) (files_kept S both_rules compares_messages files)
      (missing_kept S both_rules (known_ids options references files) (flat_map tiles_in references))

  pub translation_syntax : syntax_files (findings_of_tiles both_rules [] (flat_map tiles_in files) ++ missing_messages options references files) ≡ error_files files
  translation_syntax =
      let own = findings_of_tiles both_rules [] (flat_map tiles_in files) in
      syntax_files-++ own (missing_messages options references files)
      ∙ ap (λ fs. syntax_files own ++ fs) (missing_syntax S both_rules (known_ids options references files) (flat_map tiles_in references))
      ∙ append-nil (syntax_files own) ∙ files_syntax S both_rules compares_messages files

pub catalog_errors : OfCatalogs HasErrors
catalog_errors options files = catalog_syntax (Unit {0}) options files

pub translation_errors : OfTranslations HasErrors
translation_errors options references files = translation_syntax (Unit {0}) options references files

pub catalog_references : OfCatalogs HasReferences
catalog_references options files = All-weaker (Keeps (Unit {0}) _ _) _ (λ f h. h.reference) _ (catalog_kept (Unit {0}) options files)

pub translation_references : OfTranslations HasReferences
translation_references options references files = All-weaker (Keeps (Unit {0}) _ _) _ (λ f h. h.reference) _ (translation_kept (Unit {0}) options references files)

pub catalog_variants : {S : Type 0} → OfCatalogs (HasLostVariants S)
catalog_variants {S} options files = All-weaker (Keeps S _ _) _ (λ f h. h.repeated) _ (catalog_kept S options files)

pub translation_variants : {S : Type 0} → OfTranslations (HasLostVariants S)
translation_variants {S} options references files = All-weaker (Keeps S _ _) _ (λ f h. h.repeated) _ (translation_kept S options references files)

-- ---- terms

in_parts : {X Y : Type 0} (f : X → List Y) (xs : List X) (x : X) (y : Y) (k : ℕ) → k < length xs → slice_index_or xs k x ≡ x → Contains (f x) y → Contains (flat_map f xs) y
in_parts f [] x y k inside is at = absurd (omega (arith, inside))
in_parts f (z ∷ zs) x y zero inside is at = Contains-append_left (f z) (flat_map f zs) y (subst (λ w. Contains (f w) y) (sym is) at)
in_parts f (z ∷ zs) x y (suc k) inside is at = Contains-append_right (f z) (flat_map f zs) y (in_parts f zs x y k (omega (arith, inside)) is at)

Contains-flat_map : {X Y : Type 0} (f : X → List Y) (xs : List X) (x : X) (y : Y) → Contains xs x → Contains (f x) y → Contains (flat_map f xs) y
Contains-flat_map f xs x y there at = in_parts f xs x y there.0 there.1 there.2 at

referred_there : (id : Text) (is : List Inline) (a : Option Text) (c : MaybeArguments) → Contains is (t.term_reference id a c) → Contains (flat_map referred_term is) id
referred_there id is a c at = Contains-flat_map referred_term is (t.term_reference id a c) id at (0, omega arith, refl)

-- what a text refers to is among the terms that are referred to
is_referred : (texts : List Text) (id : Text) → IsReferredIn texts id → is_referred_in texts id ≡ true
is_referred texts id at =
    is_among_it (referred_terms texts) id
    (Contains-flat_map (λ (p : Owner × t.Elements). flat_map referred_term (elements_references p.1)) (flat_map entry_patterns (lists texts)) at.0 id at.1
    (referred_there id (elements_references at.0.1) at.2 at.3 at.4))

lone : (texts : List Text) (f : FileFinding) → IsOfLoneTerm (λ id. is_referred_in texts id ≡ true) f → IsOfLoneTerm (IsReferredIn texts) f
lone texts f h = record {
  term = h.term;
  at = h.at;
  rest = h.rest;
  place = h.place;
  read = h.read;
  label = h.label;
  unused = λ at. h.unused (is_referred texts h.term.id at);
}

abbrev IsLoneIn : List Text → FileFinding → Type 0
IsLoneIn texts f = is_unused f ≡ true → IsOfLoneTerm (IsReferredIn texts) f

pub catalog_terms : OfCatalogs HasLoneTerms
catalog_terms options files = All-weaker (Keeps (Unit {0}) _ _) (IsLoneIn (sources files)) (λ f h e. lone (sources files) f (h.unused e)) _ (catalog_kept (Unit {0}) options files)

pub translation_terms : OfTranslations HasLoneTerms
translation_terms options references files = All-weaker (Keeps (Unit {0}) _ _) (IsLoneIn (sources files)) (λ f h e. lone (sources files) f (h.unused e)) _ (translation_kept (Unit {0}) options references files)
