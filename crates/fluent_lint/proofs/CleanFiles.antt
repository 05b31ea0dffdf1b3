-- Files that are clean, each by itself, are clean as a catalog with a reference.
use Rattle.std.proofs.Common.{Bool, true, false, if◌then◌else◌, List, [], ◌∷◌, ◌++◌, map, ℕ, Option, Some, None, refl, ◌||◌}
use Rattle.std.specs.Prelude.{◌==◌, is_some, length}
use Rattle.std.specs.List.{All, flat_map}
use Rattle.std.proofs.lemmas.List.Elements.{All-nil, All-cons, All-head, All-tail, All-append}
use Rattle.fluent_grammar.specs.Words.{Text}
use Rattle.fluent_grammar.specs.Tree as t
use Rattle.fluent_meaning.specs.Ids.{Ids, find}
use Rattle.lint_findings.specs.Comparison.{Difference, missing_message, obsolete_message, missing_value, obsolete_value, missing_attribute, obsolete_attribute, unknown_variable, missing_variable, unused_variable, untranslated, as_message, differences, variables_of}
use Rattle.fluent_meaning.specs.Fallback.{with_attribute}
use Rattle.fluent_plurals.specs.declared.plurals.LanguagePlurals.{LanguagePlurals}
use Rattle.lint_findings.specs.ComparisonFindings.{difference_finding, difference_findings, loss_finding, loss_findings, message_findings, missing_findings, spotted_finding, texts_beside, texts_findings}
use Rattle.lint_findings.specs.Doubts.{Doubt, Spotted, broken_entity, broken_tag, changed_number, changed_style, changed_url, double_space, doubled_word, edge_space, empty_text, empty_variant, long_access_key, long_key, long_text, lost_key, lost_placeholder, lost_sign, missing_element, missing_name, new_placeholder, straight_quote, three_dots, unclosed, unknown_element, unknown_name, unopened, unpaired_quote}
use Rattle.lint_findings.specs.Losses.{Loss, dropped_plural, lacking_variant, losses, written_term}
use Rattle.lint_findings.specs.Occurrences.{PatternPlace, entry_places}
use Rattle.lint_findings.specs.Pairs.{on_texts}
use Rattle.lint_findings.specs.DuplicateIds.{Declaration, duplicate_findings, duplicate_remark, first_declaration, id_of, label_of}
use Rattle.lint_findings.specs.Files.{File}
use Rattle.lint_findings.specs.Finding.{Finding, finding_at}
use Rattle.lint_findings.specs.Findings.{FileFinding, FileTile, Options, Rules, declarations_of_tile, findings_if_first, findings_in, findings_of_entry, findings_of_tile, findings_of_tiles, findings_with_reference, known_ids, missing_messages, own_findings, tiles_in, translation_rules}
use Rattle.lint_findings.specs.ReportLaws.{HasHarmlessCode, IsClean}
use Rattle.lint_findings.specs.SyntaxFindings.{syntax_finding}
use Rattle.lint_findings.specs.Tiles.{Tile, entry_tile, junk_tile}
use Rattle.lint_findings.specs.UnusedTerms.{unused_findings, unused_remark}
use Rattle.lint_findings.proofs.Lists.{all_left, all_right}

abbrev pub Clean : List Finding → Type 0
Clean fs = All HasHarmlessCode fs

abbrev OfFile : FileFinding → Type 0
OfFile f = HasHarmlessCode f.finding

pub with_file : (file : File) (fs : List Finding) → Clean fs → IsClean (findings_in file fs)
with_file file [] h = All-nil OfFile
with_file file (f ∷ fs) h =
    All-cons OfFile (record { file = file; finding = f }) (findings_in file fs) (All-head HasHarmlessCode f fs h) (with_file file fs (All-tail HasHarmlessCode f fs h))

pub without_file : (file : File) (fs : List Finding) → IsClean (findings_in file fs) → Clean fs
without_file file [] h = All-nil HasHarmlessCode
without_file file (f ∷ fs) h =
    All-cons HasHarmlessCode f fs (All-head OfFile (record { file = file; finding = f }) (findings_in file fs) h) (without_file file fs (All-tail OfFile (record { file = file; finding = f }) (findings_in file fs) h))

one_clean : (f : Finding) → HasHarmlessCode f → Clean (f ∷ [])
one_clean f h = All-cons HasHarmlessCode f [] h (All-nil HasHarmlessCode)

one_if : (b : Bool) (f : Finding) → HasHarmlessCode f → Clean (if b then f ∷ [] else [])
one_if true f h = one_clean f h
one_if false f h = All-nil HasHarmlessCode

none_if : (b : Bool) (f : Finding) → HasHarmlessCode f → Clean (if b then [] else f ∷ [])
none_if true f h = All-nil HasHarmlessCode
none_if false f h = one_clean f h

-- ---- findings that have none of the codes

duplicates_clean : (functions : Ids (Unit {0})) (before : List Declaration) (e : t.Entry) (at : ℕ) (id : Text) → Clean (duplicate_findings functions before e at id)
duplicates_clean functions before e at id =
    one_if (is_some (first_declaration id before) || is_some (find functions id)) (finding_at at (label_of e) (duplicate_remark id (first_declaration id before))) refl

unused_clean : (is_referred : Text → Bool) (e : t.Entry) (at : ℕ) → Clean (unused_findings is_referred e at)
unused_clean is_referred (t.term m) at = none_if (is_referred m.id) (finding_at at (label_of (t.term m)) unused_remark) refl
unused_clean is_referred (t.message m) at = All-nil HasHarmlessCode
unused_clean is_referred (t.comment c) at = All-nil HasHarmlessCode
unused_clean is_referred (t.group_comment c) at = All-nil HasHarmlessCode
unused_clean is_referred (t.resource_comment c) at = All-nil HasHarmlessCode
unused_clean is_referred (t.junk s) at = All-nil HasHarmlessCode

difference_clean : (source id s : Text) (known : List Text) (d : Difference) → HasHarmlessCode (difference_finding source id s known d)
difference_clean source id s known missing_message = refl
difference_clean source id s known obsolete_message = refl
difference_clean source id s known missing_value = refl
difference_clean source id s known obsolete_value = refl
difference_clean source id s known (missing_attribute a) = refl
difference_clean source id s known (obsolete_attribute a) = refl
difference_clean source id s known (unknown_variable x) = refl
difference_clean source id s known (missing_variable x) = refl
difference_clean source id s known (unused_variable x) = refl
difference_clean source id s known untranslated = refl

differences_clean : (source id s : Text) (known : List Text) (ds : List Difference) → Clean (map (difference_finding source id s known) ds)
differences_clean source id s known [] = All-nil HasHarmlessCode
differences_clean source id s known (d ∷ ds) =
    All-cons HasHarmlessCode (difference_finding source id s known d) (map (difference_finding source id s known) ds) (difference_clean source id s known d) (differences_clean source id s known ds)

loss_clean : (source id s : Text) (loss : Loss) → HasHarmlessCode (loss_finding source id s loss)
loss_clean source id s (lacking_variant k x) = refl
loss_clean source id s (dropped_plural v) = refl
loss_clean source id s (written_term term text) = refl

losses_clean : (source id s : Text) (ls : List Loss) → Clean (map (loss_finding source id s) ls)
losses_clean source id s [] = All-nil HasHarmlessCode
losses_clean source id s (l ∷ ls) =
    All-cons HasHarmlessCode (loss_finding source id s l) (map (loss_finding source id s) ls) (loss_clean source id s l) (losses_clean source id s ls)

doubt_clean : (source owner at p : Text) (d : Doubt) → HasHarmlessCode (spotted_finding source owner at (record { doubt = d; piece = p }))
doubt_clean source owner at p broken_tag = refl
doubt_clean source owner at p (unknown_element known x) = refl
doubt_clean source owner at p (unclosed x) = refl
doubt_clean source owner at p (unopened x) = refl
doubt_clean source owner at p (missing_element x) = refl
doubt_clean source owner at p (unknown_name known n) = refl
doubt_clean source owner at p (missing_name n) = refl
doubt_clean source owner at p (broken_entity known n) = refl
doubt_clean source owner at p (long_access_key x) = refl
doubt_clean source owner at p (long_key x) = refl
doubt_clean source owner at p (changed_style x) = refl
doubt_clean source owner at p (lost_key k) = refl
doubt_clean source owner at p (changed_url x) = refl
doubt_clean source owner at p (lost_placeholder x) = refl
doubt_clean source owner at p (new_placeholder x) = refl
doubt_clean source owner at p (changed_number x) = refl
doubt_clean source owner at p (edge_space e) = refl
doubt_clean source owner at p double_space = refl
doubt_clean source owner at p doubled_word = refl
doubt_clean source owner at p three_dots = refl
doubt_clean source owner at p straight_quote = refl
doubt_clean source owner at p (unpaired_quote x) = refl
doubt_clean source owner at p (lost_sign x) = refl
doubt_clean source owner at p empty_text = refl
doubt_clean source owner at p empty_variant = refl
doubt_clean source owner at p long_text = refl

spotted_clean : (source owner at : Text) (xs : List Spotted) → Clean (map (spotted_finding source owner at) xs)
spotted_clean source owner at [] = All-nil HasHarmlessCode
spotted_clean source owner at (x ∷ xs) =
    All-cons HasHarmlessCode (spotted_finding source owner at x) (map (spotted_finding source owner at) xs) (doubt_clean source owner at x.piece x.doubt) (spotted_clean source owner at xs)

texts_clean : (source id : Text) (ps : List PatternPlace) (said : List (List Spotted)) → Clean (texts_findings source id ps said)
texts_clean source id [] said = All-nil HasHarmlessCode
texts_clean source id (p ∷ ps) [] = All-nil HasHarmlessCode
texts_clean source id (p ∷ ps) (xs ∷ said) =
    let owner = with_attribute id p.attribute in
    All-append HasHarmlessCode (map (spotted_finding source owner p.pattern_at) xs) _ (spotted_clean source owner p.pattern_at xs) (texts_clean source id ps said)

beside_clean : (source : Text) (m : t.Message) (s : Text) (o : Option t.Message) → Clean (texts_beside source m s o)
beside_clean source m s None = All-nil HasHarmlessCode
beside_clean source m s (Some o) = texts_clean source m.id (entry_places s) (on_texts m o)

pub compared_clean : (ids reference : Ids (Unit {0})) (plurals : Option LanguagePlurals) (source : Text) (e : t.Entry) (s : Text) → Clean (message_findings ids reference plurals source e s)
compared_clean ids reference plurals source (t.message m) s =
    All-append HasHarmlessCode (difference_findings ids reference source m s) _
    (differences_clean source m.id s (variables_of reference m.id) (differences ids reference m.id))
    (All-append HasHarmlessCode (loss_findings reference plurals source m s) _
    (losses_clean source m.id s (losses reference plurals m)) (beside_clean source m s (as_message (find reference m.id))))
compared_clean ids reference plurals source (t.term m) s = All-nil HasHarmlessCode
compared_clean ids reference plurals source (t.comment c) s = All-nil HasHarmlessCode
compared_clean ids reference plurals source (t.group_comment c) s = All-nil HasHarmlessCode
compared_clean ids reference plurals source (t.resource_comment c) s = All-nil HasHarmlessCode
compared_clean ids reference plurals source (t.junk x) s = All-nil HasHarmlessCode

missing_clean : (ids : Ids (Unit {0})) (source : Text) (tile : Tile) → Clean (missing_findings ids source tile)
missing_clean ids source (entry_tile at s (t.message m)) =
    none_if (is_some (as_message (find ids m.id))) (difference_finding source m.id s [] missing_message) refl
missing_clean ids source (entry_tile at s (t.term m)) = All-nil HasHarmlessCode
missing_clean ids source (entry_tile at s (t.comment c)) = All-nil HasHarmlessCode
missing_clean ids source (entry_tile at s (t.group_comment c)) = All-nil HasHarmlessCode
missing_clean ids source (entry_tile at s (t.resource_comment c)) = All-nil HasHarmlessCode
missing_clean ids source (entry_tile at s (t.junk x)) = All-nil HasHarmlessCode
missing_clean ids source (junk_tile at s refusal) = All-nil HasHarmlessCode

all_missing_clean : (ids : Ids (Unit {0})) (ts : List FileTile) → IsClean (flat_map (λ (x : FileTile). findings_in x.file (missing_findings ids x.file.source x.tile)) ts)
all_missing_clean ids [] = All-nil OfFile
all_missing_clean ids (x ∷ xs) =
    All-append OfFile (findings_in x.file (missing_findings ids x.file.source x.tile)) _
    (with_file x.file (missing_findings ids x.file.source x.tile) (missing_clean ids x.file.source x.tile)) (all_missing_clean ids xs)

-- ---- what a tile has by itself

-- These rules differ at most in what they compare with.
module _ (rules : Rules) where
  abbrev own_of_entry : Text → t.Entry → Text → Option Text → List Finding
  own_of_entry source e s None = []
  own_of_entry source e s (Some id) = own_findings rules source e s

  abbrev own_of : File → Tile → List Finding
  own_of file (junk_tile at s refusal) = syntax_finding at s refusal ∷ []
  own_of file (entry_tile at s e) = own_of_entry file.source e s (id_of e)

  abbrev pub OwnClean : FileTile → Type 0
  OwnClean x = Clean (own_of x.file x.tile)

  abbrev Compare : Type 0
  Compare = Text → t.Entry → Text → List Finding

  abbrev with : Compare → Rules
  with compare = record rules { compare = compare }

  entry_own : (compare : Compare) (before : List Declaration) (source : Text) (e : t.Entry) (at : ℕ) (s : Text) (o : Option Text) →
      Clean (findings_of_entry (with compare) before source e at s o) → Clean (own_of_entry source e s o)
  entry_own compare before source e at s None h = h
  entry_own compare before source e at s (Some id) h =
      let own = own_findings rules source e s in
      all_left HasHarmlessCode own _ (all_right HasHarmlessCode (duplicate_findings rules.functions before e at id) _ h)

  tile_own : (compare : Compare) (before : List Declaration) (file : File) (tile : Tile) → Clean (findings_of_tile (with compare) before file tile) → Clean (own_of file tile)
  tile_own compare before file (junk_tile at s refusal) h = h
  tile_own compare before file (entry_tile at s e) h = entry_own compare before file.source e at s (id_of e) h

  pub tiles_own : (compare : Compare) (before : List Declaration) (ts : List FileTile) → IsClean (findings_of_tiles (with compare) before ts) → All OwnClean ts
  tiles_own compare before [] h = All-nil OwnClean
  tiles_own compare before (x ∷ xs) h =
      let here = findings_of_tile (with compare) before x.file x.tile in
      All-cons OwnClean x xs (tile_own compare before x.file x.tile (without_file x.file here (all_left OfFile (findings_in x.file here) _ h)))
      (tiles_own compare (before ++ declarations_of_tile (with compare) x.file x.tile) xs (all_right OfFile (findings_in x.file here) _ h))

  module _ (compare : Compare) (clean : (source : Text) (e : t.Entry) (s : Text) → Clean (compare source e s)) where
    first_if : (b : Bool) (source : Text) (e : t.Entry) (at : ℕ) (s : Text) → Clean (if b then findings_if_first (with compare) source e at s else [])
    first_if true source e at s = All-append HasHarmlessCode (unused_findings rules.is_referred e at) (compare source e s) (unused_clean rules.is_referred e at) (clean source e s)
    first_if false source e at s = All-nil HasHarmlessCode

    entry_clean : (before : List Declaration) (source : Text) (e : t.Entry) (at : ℕ) (s : Text) (o : Option Text) → Clean (own_of_entry source e s o) → Clean (findings_of_entry (with compare) before source e at s o)
    entry_clean before source e at s None h = h
    entry_clean before source e at s (Some id) h =
        let duplicates = duplicate_findings rules.functions before e at id in
        All-append HasHarmlessCode duplicates _ (duplicates_clean rules.functions before e at id)
        (All-append HasHarmlessCode (own_findings rules source e s) _ h (first_if (length duplicates == 0) source e at s))

    tile_clean : (before : List Declaration) (file : File) (tile : Tile) → Clean (own_of file tile) → Clean (findings_of_tile (with compare) before file tile)
    tile_clean before file (junk_tile at s refusal) h = h
    tile_clean before file (entry_tile at s e) h = entry_clean before file.source e at s (id_of e) h

    pub tiles_clean : (before : List Declaration) (ts : List FileTile) → All OwnClean ts → IsClean (findings_of_tiles (with compare) before ts)
    tiles_clean before [] h = All-nil OfFile
    tiles_clean before (x ∷ xs) h =
        let here = findings_of_tile (with compare) before x.file x.tile in
        All-append OfFile (findings_in x.file here) _ (with_file x.file here (tile_clean before x.file x.tile (All-head OwnClean x xs h)))
        (tiles_clean (before ++ declarations_of_tile (with compare) x.file x.tile) xs (All-tail OwnClean x xs h))

-- ---- a catalog with its reference

pub translation_clean : (options : Options) (references files : List File) →
    All (OwnClean (translation_rules options references files)) (flat_map tiles_in files) → IsClean (findings_with_reference options references files)
translation_clean options references files h =
    let rules = translation_rules options references files in
    let compare = message_findings (known_ids options references files) (known_ids options references references) options.plurals in
    All-append OfFile (findings_of_tiles rules [] (flat_map tiles_in files)) (missing_messages options references files)
    (tiles_clean rules compare (compared_clean (known_ids options references files) (known_ids options references references) options.plurals) [] (flat_map tiles_in files) h)
    (all_missing_clean (known_ids options references files) (flat_map tiles_in references))
