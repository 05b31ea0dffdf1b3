-- If no finding says that an id is taken, the first entry of an id is the last.
use Rattle.std.proofs.Common.{◌≡◌, ◌∙◌, ℕ, Bool, true, false, cond, if◌then◌else◌, List, [], ◌∷◌, ◌++◌, Option, Some, None, refl, sym, ap, subst}
use Rattle.std.specs.Prelude.{◌&&◌, ◌||◌, not, is_some, codes}
use Rattle.std.specs.List.{All, flat_map}
use Rattle.std.specs.Str.{bytes_eq}
use Rattle.std.specs.BTreeMap.{insert_entry, is_at}
use Rattle.std.proofs.lemmas.Bool.{false≢true}
use Rattle.std.proofs.lemmas.Slice.Eq.{bytes_eq-Decides}
use Rattle.std.proofs.lemmas.List.Elements.{All-nil, All-cons, All-head, All-tail}
use Rattle.fluent_grammar.specs.Words.{Text}
use Rattle.fluent_grammar.specs.Tree as t
use Rattle.fluent_grammar.specs.Tiling.{listed}
use Rattle.fluent_value.specs.Args.{order}
use Rattle.fluent_meaning.specs.Ids.{Ids, Meaning, message, term, find, with_id, with_ids, entries_by_id}
use Rattle.fluent_meaning.proofs.Stays.{find-inserted}
use Rattle.lint_findings.specs.Tiles.{Tile, entry_tile, junk_tile}
use Rattle.lint_findings.specs.Flaws.{catalog_ids}
use Rattle.lint_findings.specs.Finding.{Finding}
use Rattle.lint_findings.specs.Files.{File}
use Rattle.lint_findings.specs.DuplicateIds.{Declaration, first_declaration, duplicate_findings}
use Rattle.lint_findings.specs.Findings.{Rules, FileFinding, FileTile, findings_in, tiles_in, sources, findings_of_tile, findings_of_tiles, declarations_of_tile, catalog_rules, translation_rules, known_functions, missing_messages}
use Rattle.lint_findings.specs.ReportLaws.{program_ids, AreFunctions, HasOwnIds, CatalogsOverrideNothing, TranslationsOverrideNothing}
use Rattle.lint_findings.proofs.Lists.{all_left, all_right}
use Rattle.lint_findings.proofs.NothingMissing.{key_is}
use Rattle.lint_findings.proofs.ProgramIds.{is_there, ids_same}
use Rattle.lint_findings.proofs.Translations.{file_entries, and_entry, all_listed}

abbrev IsOwn : Finding → Type 0
IsOwn f = bytes_eq f.code (codes "duplicate-id") ≡ false

abbrev IsOwnIn : FileFinding → Type 0
IsOwnIn f = IsOwn f.finding

without_file : (file : File) (fs : List Finding) → HasOwnIds (findings_in file fs) → All IsOwn fs
without_file file [] h = All-nil IsOwn
without_file file (f ∷ fs) h =
    All-cons IsOwn f fs (All-head IsOwnIn (record { file = file; finding = f }) (findings_in file fs) h) (without_file file fs (All-tail IsOwnIn (record { file = file; finding = f }) (findings_in file fs) h))

-- ---- declarations

some_first : (b : Bool) (d : Declaration) (o p : Option Declaration) → (is_some o ≡ true → is_some p ≡ true) → is_some (if b then Some d else o) ≡ true → is_some (if b then Some d else p) ≡ true
some_first true d o p later h = refl
some_first false d o p later h = later h

declared_before : (id : Text) (ds es : List Declaration) → is_some (first_declaration id ds) ≡ true → is_some (first_declaration id (ds ++ es)) ≡ true
declared_before id [] es h = absurd (false≢true h)
declared_before id (d ∷ ds) es h = some_first (bytes_eq d.id id) d (first_declaration id ds) (first_declaration id (ds ++ es)) (declared_before id ds es) h

some_later : (b : Bool) (d : Declaration) (o : Option Declaration) → is_some o ≡ true → is_some (if b then Some d else o) ≡ true
some_later true d o h = refl
some_later false d o h = h

declared_last : (id : Text) (ds : List Declaration) (d : Declaration) → bytes_eq d.id id ≡ true → is_some (first_declaration id (ds ++ d ∷ [])) ≡ true
declared_last id [] d h = ap (λ b. is_some (if b then Some d else None)) h
declared_last id (e ∷ ds) d h = some_later (bytes_eq e.id id) e (first_declaration id (ds ++ d ∷ [])) (declared_last id ds d h)

either_left : (a b c : Bool) → (a || b) ≡ true → (a ≡ true → c ≡ true) → (c || b) ≡ true
either_left true b true h k = refl
either_left true b false h k = absurd (false≢true (k refl))
either_left false b true h k = refl
either_left false b false h k = h

-- ---- entries

untaken : (b : Bool) (f : Finding) → bytes_eq f.code (codes "duplicate-id") ≡ true → All IsOwn (if b then f ∷ [] else []) → b ≡ false
untaken true f code h = absurd (false≢true (sym (All-head IsOwn f [] h) ∙ code))
untaken false f code h = refl

contrary : (b c : Bool) → (b ≡ true → c ≡ true) → c ≡ false → b ≡ false
contrary true c h e = absurd (false≢true (sym e ∙ h refl))
contrary false c h e = refl

none_more : (before : List Declaration) → before ++ [] ≡ before
none_more [] = refl
none_more (d ∷ ds) = ap (λ es. d ∷ es) (none_more ds)

-- an entry with an id of its own is put in, whichever counts
put_in : {F : Type 0} (ids : Ids F) (id : Text) (m : Meaning F) → is_some (find ids id) ≡ false → (overriding : Bool) → with_id overriding ids (id, m) ≡ insert_entry order ids id m
put_in ids id m none overriding = ap (λ b. cond (b && not overriding) ids (insert_entry order ids id m)) none

-- the ids with what is left of the tiles, whichever entry counts
abbrev SameWith : {F : Type 0} → Ids F → List t.Entry → Type 0
SameWith ids es = with_ids true ids (entries_by_id es) ≡ with_ids false ids (entries_by_id es)

module _ (rules : Rules) where
  abbrev is_taken : List Declaration → Text → Bool
  is_taken before id = is_some (first_declaration id before) || is_some (find rules.functions id)

  -- each id that is there is declared, or is that of a function
  AreDeclared : {F : Type 0} → Ids F → List Declaration → Type 0
  AreDeclared ids before = (id : Text) → is_some (find ids id) ≡ true → is_taken before id ≡ true

  one_declared : {F : Type 0} (ids : Ids F) (before : List Declaration) (file : File) (at : ℕ) (id : Text) (m : Meaning F) → AreDeclared ids before →
      AreDeclared (insert_entry order ids id m) (before ++ record { file = file; offset = at; id = id } ∷ [])
  unfolding AreDeclared
  one_declared ids before file at id m h other found = by (is_at (order other) id) refl (ap is_some (sym (find-inserted ids id other m)) ∙ found)
    where
      by : (b : Bool) → is_at (order other) id ≡ b → is_some (cond b (Some m) (find ids other)) ≡ true → is_taken (before ++ record { file = file; offset = at; id = id } ∷ []) other ≡ true
      by true same k =
          let is : other ≡ id = key_is other id same in
          ap (λ b. b || is_some (find rules.functions other)) (declared_last other before (record { file = file; offset = at; id = id }) ((bytes_eq-Decides id other).1 (sym is)))
      by false apart k =
          either_left (is_some (first_declaration other before)) (is_some (find rules.functions other)) (is_some (first_declaration other (before ++ record { file = file; offset = at; id = id } ∷ []))) (h other k)
          (declared_before other before (record { file = file; offset = at; id = id } ∷ []))

  module _ {F : Type 0} (x : FileTile) (before : List Declaration) (ts : List FileTile) (ids : Ids F) (declared : AreDeclared ids before)
      (later : (more : List Declaration) (others : Ids F) → AreDeclared others (before ++ more) → HasOwnIds (findings_of_tiles rules (before ++ more) ts) → SameWith others (listed (file_entries ts))) where
    passed : HasOwnIds (findings_of_tiles rules (before ++ []) ts) → SameWith ids (listed (file_entries ts))
    passed h = later [] ids (subst (AreDeclared ids) (sym (none_more before)) declared) h

    put_first : (e : t.Entry) (at : ℕ) (s : Text) (id : Text) (m : Meaning F) → All IsOwn (duplicate_findings rules.functions before e at id) →
        HasOwnIds (findings_of_tiles rules (before ++ record { file = x.file; offset = at; id = id } ∷ []) ts) →
        with_ids true (with_id true ids (id, m)) (entries_by_id (listed (file_entries ts))) ≡ with_ids false (with_id false ids (id, m)) (entries_by_id (listed (file_entries ts)))
    unfolding AreDeclared
    put_first e at s id m own rest =
        let none : is_some (find ids id) ≡ false = contrary (is_some (find ids id)) (is_taken before id) (declared id) (untaken (is_taken before id) _ refl own) in
        let put = put_in ids id m none in
        let es = entries_by_id (listed (file_entries ts)) in
        ap (λ xs. with_ids true xs es) (put true)
        ∙ later (record { file = x.file; offset = at; id = id } ∷ []) (insert_entry order ids id m) (one_declared ids before x.file at id m declared) rest
        ∙ ap (λ xs. with_ids false xs es) (sym (put false))

    by_tile : (tile : Tile) → All IsOwn (findings_of_tile rules before x.file tile) → HasOwnIds (findings_of_tiles rules (before ++ declarations_of_tile rules x.file tile) ts) →
        SameWith ids (listed (and_entry tile (file_entries ts)))
    by_tile (junk_tile at s refusal) own rest = passed rest
    by_tile (entry_tile at s (t.message m)) own rest =
        put_first (t.message m) at s m.id (message (record m { comment = None })) (all_left IsOwn (duplicate_findings rules.functions before (t.message m) at m.id) _ own) rest
    by_tile (entry_tile at s (t.term m)) own rest =
        put_first (t.term m) at s m.id (term (record m { comment = None })) (all_left IsOwn (duplicate_findings rules.functions before (t.term m) at m.id) _ own) rest
    by_tile (entry_tile at s (t.comment c)) own rest = passed rest
    by_tile (entry_tile at s (t.group_comment c)) own rest = passed rest
    by_tile (entry_tile at s (t.resource_comment c)) own rest = passed rest
    by_tile (entry_tile at s (t.junk y)) own rest = passed rest

  all_own : {F : Type 0} (ts : List FileTile) (before : List Declaration) (ids : Ids F) → AreDeclared ids before → HasOwnIds (findings_of_tiles rules before ts) → SameWith ids (listed (file_entries ts))
  all_own [] before ids declared h = refl
  all_own (x ∷ ts) before ids declared h =
      let own = findings_in x.file (findings_of_tile rules before x.file x.tile) in
      by_tile x before ts ids declared (λ more others k rest. all_own ts (before ++ more) others k rest) x.tile (without_file x.file (findings_of_tile rules before x.file x.tile) (all_left IsOwnIn own _ h)) (all_right IsOwnIn own _ h)

  -- the functions of a program that are known
  module _ {F : Type 0} (known : List Text) (functions : List (Text × F)) (are : AreFunctions known functions) (is : rules.functions ≡ catalog_ids known []) where
    functions_declared : AreDeclared (program_ids false functions []) []
    unfolding AreDeclared
    functions_declared id h = ap (λ ids. is_some (find ids id)) (is ∙ sym (ids_same known functions are [])) ∙ is_there (program_ids false functions []) id ∙ h

    overrides_nothing : (files : List File) → HasOwnIds (findings_of_tiles rules [] (flat_map tiles_in files)) → program_ids true functions (sources files) ≡ program_ids false functions (sources files)
    overrides_nothing files h =
        subst (SameWith (program_ids false functions [])) (all_listed files) (all_own (flat_map tiles_in files) [] (program_ids false functions []) functions_declared h)

pub catalogs_override_nothing : {F : Type 0} → CatalogsOverrideNothing F
catalogs_override_nothing options files functions are h = overrides_nothing (catalog_rules options files) options.functions functions are refl files h

pub translations_override_nothing : {F : Type 0} → TranslationsOverrideNothing F
translations_override_nothing options references files functions are h =
    let rules = translation_rules options references files in
    overrides_nothing rules (known_functions options references) functions are refl files
    (all_left (λ (f : FileFinding). bytes_eq f.finding.code (codes "duplicate-id") ≡ false) (findings_of_tiles rules [] (flat_map tiles_in files)) (missing_messages options references files) h)
