-- A catalog whose report lacks nothing of its reference has a pattern for each request that the reference has one for.
use Rattle.std.proofs.Common.{◌≡◌, ◌∙◌, ℕ, Bool, true, false, cond, if◌then◌else◌, List, [], ◌∷◌, ◌++◌, map, length, Option, Some, None, refl, sym, ap, subst}
use Rattle.std.specs.Prelude.{◌==◌, is_some}
use Rattle.std.specs.List.{All, flat_map}
use Rattle.std.specs.Str.{bytes_eq}
use Rattle.std.specs.BTreeMap.{is_at}
use Rattle.std.specs.Cmp.Lexicographic.{same_text, texts_ties}
use Rattle.std.proofs.lemmas.List.Elements.{All-nil, All-cons, All-head, All-tail}
use Rattle.fluent_grammar.specs.Words.{Text, is_among}
use Rattle.fluent_grammar.specs.Tree as t
use Rattle.fluent_grammar.specs.Tree.{Elements}
use Rattle.fluent_grammar.specs.Tiling.{listed, list}
use Rattle.fluent_tidy_laws.specs.Joined.{lists}
use Rattle.fluent_value.specs.Args.{order}
use Rattle.fluent_meaning.specs.Choice.{or_else}
use Rattle.fluent_meaning.specs.Ids.{Ids, Meaning, number_function, function, message, term, find, number_pair, entries_by_id}
use Rattle.fluent_meaning.specs.Substitution.{message_target, there}
use Rattle.fluent_meaning.proofs.Stays.{first_stays, find-++}
use Rattle.lint_findings.specs.Tiles.{Tile, entry_tile, junk_tile, tiles}
use Rattle.lint_findings.specs.Flaws.{catalog_ids}
use Rattle.lint_findings.specs.Comparison.{Difference, missing_message, obsolete_message, missing_value, obsolete_value, missing_attribute, obsolete_attribute, unknown_variable, missing_variable, unused_variable, untranslated, differences, differences_between, variables_of, as_message}
use Rattle.lint_findings.specs.Finding.{Finding}
use Rattle.lint_findings.specs.Files.{File}
use Rattle.lint_findings.specs.DuplicateIds.{Declaration, first_declaration, duplicate_findings}
use Rattle.lint_findings.specs.ComparisonFindings.{difference_words, difference_finding, difference_findings, loss_findings, message_findings, missing_findings, text_findings}
use Rattle.lint_findings.specs.Findings.{Options, Rules, FileFinding, FileTile, findings_in, tiles_in, sources, findings_of_tile, findings_of_tiles, declarations_of_tile, known_functions, known_ids, translation_rules, missing_messages, findings_with_reference, own_findings}
use Rattle.lint_findings.specs.PlaceLaws.{tile_entries}
use Rattle.lint_findings.specs.ReportLaws.{program_ids, AreFunctions, HasTarget, missing_codes, LacksNothing, TranslationsAnswerAll}
use Rattle.lint_findings.proofs.Lists.{all_left, all_right}
use Rattle.lint_findings.proofs.NothingMissing.{key_is, NotMissing, Fine, by_meanings}
use Rattle.lint_findings.proofs.ProgramIds.{ids_same, target_same}
use Rattle.lint_findings.proofs.TilesAreTheList.{tiles_are_the_list}

-- ---- findings without missing codes

abbrev Present : Finding → Type 0
Present f = is_among f.code missing_codes ≡ false

abbrev PresentIn : FileFinding → Type 0
PresentIn f = Present f.finding

without_file : (file : File) (fs : List Finding) → LacksNothing (findings_in file fs) → All Present fs
without_file file [] h = All-nil Present
without_file file (f ∷ fs) h =
    All-cons Present f fs (All-head PresentIn (record { file = file; finding = f }) (findings_in file fs) h)
    (without_file file fs (All-tail PresentIn (record { file = file; finding = f }) (findings_in file fs) h))

not_missing : (id : Text) (d : Difference) → is_among ((difference_words d).code) missing_codes ≡ false → NotMissing (id, d)
not_missing id missing_message h = absurd cc
not_missing id missing_value h = absurd cc
not_missing id (missing_attribute a) h = absurd cc
not_missing id obsolete_message h = λ k. k
not_missing id obsolete_value h = λ k. k
not_missing id (obsolete_attribute a) h = λ k. k
not_missing id (unknown_variable x) h = λ k. k
not_missing id (missing_variable x) h = λ k. k
not_missing id (unused_variable x) h = λ k. k
not_missing id untranslated h = λ k. k

fine : (source id s : Text) (known : List Text) (ds : List Difference) → All Present (map (difference_finding source id s known) ds) → Fine id ds
fine source id s known [] h = All-nil NotMissing
fine source id s known (d ∷ ds) h =
    All-cons NotMissing (id, d) (map (λ x. (id, x)) ds) (not_missing id d (All-head Present (difference_finding source id s known d) (map (difference_finding source id s known) ds) h))
    (fine source id s known ds (All-tail Present (difference_finding source id s known d) (map (difference_finding source id s known) ds) h))

-- ---- what holds of the pairs of a map holds of what is found

module _ (P : Text → Meaning (Unit {0}) → Type 0) (id : Text) (v : Meaning (Unit {0})) where
  found_step : (k : Text) (m : Meaning (Unit {0})) (o : Option (Meaning (Unit {0}))) → P k m → (o ≡ Some v → P id v) → (b : Bool) → is_at (order id) k ≡ b → cond b (Some m) o ≡ Some v → P id v
  found_step k m o here later true same found = let is : m ≡ v = cc in rw (← is, key_is id k same) here
  found_step k m o here later false apart found = later found

  found_holds : (ps : Ids (Unit {0})) → All (λ pair. P pair.0 pair.1) ps → find ps id ≡ Some v → P id v
  found_holds [] h found = absurd cc
  found_holds (e ∷ es) h found =
      found_step e.0 e.1 (find es id) (All-head (λ pair. P pair.0 pair.1) e es h) (found_holds es (All-tail (λ pair. P pair.0 pair.1) e es h)) (is_at (order id) e.0) refl found

-- the pairs of functions
abbrev function_pairs : List Text → Ids (Unit {0})
function_pairs names = map (λ name. (name, function tt)) names

abbrev IsFunction : Text → Meaning (Unit {0}) → Type 0
IsFunction k number_function = Unit {0}
IsFunction k (function f) = Unit {0}
IsFunction k (message m) = ⊥
IsFunction k (term m) = ⊥

are_functions : (names : List Text) → All (λ pair. IsFunction pair.0 pair.1) (function_pairs names)
are_functions [] = All-nil (λ pair. IsFunction pair.0 pair.1)
are_functions (name ∷ names) = All-cons (λ pair. IsFunction pair.0 pair.1) (name, function tt) (function_pairs names) tt (are_functions names)

abbrev functions_first : List Text → Ids (Unit {0})
functions_first names = number_pair ∷ function_pairs names

all_functions : (names : List Text) → All (λ pair. IsFunction pair.0 pair.1) (functions_first names)
all_functions names = All-cons (λ pair. IsFunction pair.0 pair.1) number_pair (function_pairs names) tt (are_functions names)

found_in : (names : List Text) (ss : List Text) (id : Text) → find (catalog_ids names ss) id ≡ or_else (find (functions_first names) id) (find (entries_by_id (lists ss)) id)
found_in names ss id = first_stays (number_pair ∷ []) (function_pairs names ++ entries_by_id (lists ss)) id ∙ find-++ (functions_first names) (entries_by_id (lists ss)) id

-- a message that is found is among the entries, and no function has its id
split_found : (names : List Text) (id : Text) (m : t.Message) (o : Option (Meaning (Unit {0}))) → find (functions_first names) id ≡ o → (entries : Option (Meaning (Unit {0}))) → or_else o entries ≡ Some (message m) →
    (o ≡ None) × (entries ≡ Some (message m))
split_found names id m None is entries found = (refl, found)
split_found names id m (Some v) is entries found =
    let same : v ≡ message m = cc in absurd (rw same at (found_holds IsFunction id v (functions_first names) (all_functions names) is))

-- ---- the entries of tiles

abbrev pub and_entry : Tile → List t.Entry → List t.Entry
and_entry (entry_tile at s e) es = e ∷ es
and_entry (junk_tile at s refusal) es = es

abbrev pub file_entries : List FileTile → List t.Entry
file_entries [] = []
file_entries (x ∷ xs) = and_entry x.tile (file_entries xs)

in_file : (file : File) (ts : List Tile) (rest : List FileTile) → listed (file_entries (map (λ tile. record { file = file; tile = tile }) ts ++ rest)) ≡ listed (tile_entries ts) ++ listed (file_entries rest)
in_file file [] rest = refl
in_file file (junk_tile at s refusal ∷ ts) rest = in_file file ts rest
in_file file (entry_tile at s (t.message m) ∷ ts) rest = ap (λ es. t.message (record m { comment = None }) ∷ es) (in_file file ts rest)
in_file file (entry_tile at s (t.term m) ∷ ts) rest = ap (λ es. t.term (record m { comment = None }) ∷ es) (in_file file ts rest)
in_file file (entry_tile at s (t.comment c) ∷ ts) rest = in_file file ts rest
in_file file (entry_tile at s (t.group_comment c) ∷ ts) rest = in_file file ts rest
in_file file (entry_tile at s (t.resource_comment c) ∷ ts) rest = in_file file ts rest
in_file file (entry_tile at s (t.junk x) ∷ ts) rest = in_file file ts rest

pub all_listed : (files : List File) → listed (file_entries (flat_map tiles_in files)) ≡ lists (sources files)
all_listed [] = refl
all_listed (file ∷ files) =
    in_file file (tiles file.source) (flat_map tiles_in files) ∙ ap (λ es. es ++ listed (file_entries (flat_map tiles_in files))) (tiles_are_the_list file.source)
    ∙ ap (λ es. list file.source ++ es) (all_listed files)

-- the entry of an id, in tiles
abbrev entry_found : List FileTile → Text → Option (Meaning (Unit {0}))
entry_found ts id = find (entries_by_id (listed (file_entries ts))) id

-- the same, with a tile more in front
abbrev found_with : Tile → List FileTile → Text → Option (Meaning (Unit {0}))
found_with tile ts id = find (entries_by_id (listed (and_entry tile (file_entries ts)))) id

-- what is found first, or after it
first_or : {Goal : Type 0} (id k : Text) (m : Meaning (Unit {0})) (o : Option (Meaning (Unit {0}))) (v : Meaning (Unit {0})) → (id ≡ k → m ≡ v → Goal) → (is_at (order id) k ≡ false → o ≡ Some v → Goal) →
    (b : Bool) → is_at (order id) k ≡ b → cond b (Some m) o ≡ Some v → Goal
first_or id k m o v here later true same found = here (key_is id k same) cc
first_or id k m o v here later false apart found = later apart found

-- ---- missing messages

present_step : (b : Bool) (f : Finding) → is_among f.code missing_codes ≡ true → All Present (if b then [] else f ∷ []) → b ≡ true
present_step true f code h = refl
present_step false f code h = let clean : is_among f.code missing_codes ≡ false = All-head Present f [] h in absurd cc

module _ (ids : Ids (Unit {0})) (id : Text) (o : t.Message) where
  abbrev missing_in : List FileTile → List FileFinding
  missing_in ts = flat_map (λ (x : FileTile). findings_in x.file (missing_findings ids x.file.source x.tile)) ts

  IsThere : Type 0
  IsThere = is_some (as_message (find ids id)) ≡ true

  translated_step : (x : FileTile) (ts : List FileTile) → LacksNothing (findings_in x.file (missing_findings ids x.file.source x.tile)) → (entry_found ts id ≡ Some (message o) → IsThere) → (tile : Tile) → x.tile ≡ tile →
      found_with tile ts id ≡ Some (message o) → IsThere
  unfolding IsThere
  translated_step x ts here later (junk_tile at s refusal) is found = later found
  translated_step x ts here later (entry_tile at s (t.message m)) is found =
      first_or id m.id (message (record m { comment = None })) (entry_found ts id) (message o)
      (λ same e. rw same (present_step (is_some (as_message (find ids m.id))) (difference_finding x.file.source m.id s [] missing_message) refl
      (without_file x.file (missing_findings ids x.file.source (entry_tile at s (t.message m))) (rw is at here))))
      (λ apart. later) (is_at (order id) m.id) refl found
  translated_step x ts here later (entry_tile at s (t.term m)) is found =
      first_or id m.id (term (record m { comment = None })) (entry_found ts id) (message o) (λ same e. absurd cc) (λ apart. later) (is_at (order id) m.id) refl found
  translated_step x ts here later (entry_tile at s (t.comment c)) is found = later found
  translated_step x ts here later (entry_tile at s (t.group_comment c)) is found = later found
  translated_step x ts here later (entry_tile at s (t.resource_comment c)) is found = later found
  translated_step x ts here later (entry_tile at s (t.junk y)) is found = later found

  is_translated : (ts : List FileTile) → LacksNothing (missing_in ts) → entry_found ts id ≡ Some (message o) → IsThere
  is_translated [] h found = absurd cc
  is_translated (x ∷ ts) h found =
      let own = findings_in x.file (missing_findings ids x.file.source x.tile) in
      translated_step x ts (all_left PresentIn own (missing_in ts) h) (λ later. is_translated ts (all_right PresentIn own (missing_in ts) h) later) x.tile refl found

-- ---- differences

first_step : (b : Bool) (d : Declaration) (o p : Option Declaration) → (if b then Some d else o) ≡ None → (o ≡ None → p ≡ None) → (if b then Some d else p) ≡ None
first_step true d o p h later = absurd cc
first_step false d o p h later = later h

none_declared : (id : Text) (ds es : List Declaration) → first_declaration id ds ≡ None → first_declaration id es ≡ None → first_declaration id (ds ++ es) ≡ None
none_declared id [] es h k = k
none_declared id (d ∷ ds) es h k = first_step (bytes_eq d.id id) d (first_declaration id ds) (first_declaration id (ds ++ es)) h (λ none. none_declared id ds es none k)

unequal : (id k : Text) → is_at (order id) k ≡ false → (b : Bool) → bytes_eq k id ≡ b → b ≡ false
unequal id k h false e = refl
unequal id k h true e =
    let same : k ≡ id = same_text k id (sym e) in
    let yes : bytes_eq id id ≡ true = rw same at e in
    let no : bytes_eq id id ≡ false = rw same at (texts_ties id k ∙ h) in absurd cc

-- an id is declared by no entry of another one
other_declared : (id k : Text) (d : Declaration) → d.id ≡ k → is_at (order id) k ≡ false → first_declaration id (d ∷ []) ≡ None
other_declared id k d is h = ap (λ b. if b then Some d else None) (ap (λ x. bytes_eq x id) is ∙ unequal id k h (bytes_eq k id) refl)

compared : (duplicates xs ys : List Finding) → duplicates ≡ [] → All Present (duplicates ++ (xs ++ (if length duplicates == 0 then ys else []))) → All Present ys
compared [] xs ys e h = all_right Present xs ys h
compared (d ∷ ds) xs ys e h = absurd cc

module _ (options : Options) (references files : List File) (id : Text) (v : t.Message) where
  abbrev rules : Rules
  rules = translation_rules options references files

  abbrev ids : Ids (Unit {0})
  ids = known_ids options references files

  abbrev reference : Ids (Unit {0})
  reference = known_ids options references references

  abbrev Reported : Type 0
  Reported = Fine id (differences ids reference id)

  no_duplicates : (before : List Declaration) (e : t.Entry) (at : ℕ) → first_declaration id before ≡ None → find rules.functions id ≡ None → duplicate_findings rules.functions before e at id ≡ []
  no_duplicates before e at h k = rw (h, k) refl

  here_reported : (file : File) (before : List Declaration) (at : ℕ) (s : Text) (m : t.Message) → id ≡ m.id → first_declaration id before ≡ None → find rules.functions id ≡ None →
      All Present (findings_of_tile rules before file (entry_tile at s (t.message m))) → Reported
  here_reported file before at s m same h k clean =
      let none : duplicate_findings rules.functions before (t.message m) at m.id ≡ [] = subst (λ x. duplicate_findings rules.functions before (t.message m) at x ≡ []) same (no_duplicates before (t.message m) at h k) in
      let both : All Present (message_findings ids reference options.plurals file.source (t.message m) s) = compared (duplicate_findings rules.functions before (t.message m) at m.id) (own_findings rules file.source (t.message m) s) _ none clean in
      let own = all_left Present (difference_findings ids reference file.source m s) (loss_findings reference options.plurals file.source m s ++ text_findings reference file.source m s) both in
      rw same (fine file.source m.id s (variables_of reference m.id) (differences ids reference m.id) own)

  reported_step : (x : FileTile) (before : List Declaration) (ts : List FileTile) → first_declaration id before ≡ None → find rules.functions id ≡ None →
      ((more : List Declaration) → first_declaration id more ≡ None → entry_found ts id ≡ Some (message v) → LacksNothing (findings_of_tiles rules (before ++ more) ts) → Reported) →
      (tile : Tile) → found_with tile ts id ≡ Some (message v) → All Present (findings_of_tile rules before x.file tile) →
      LacksNothing (findings_of_tiles rules (before ++ declarations_of_tile rules x.file tile) ts) → Reported
  reported_step x before ts h k later (junk_tile at s refusal) found here rest = later [] refl found rest
  reported_step x before ts h k later (entry_tile at s (t.message m)) found here rest =
      first_or id m.id (message (record m { comment = None })) (entry_found ts id) (message v) (λ same e. here_reported x.file before at s m same h k here)
      (λ apart more. later (record { file = x.file; offset = at; id = m.id } ∷ []) (other_declared id m.id (record { file = x.file; offset = at; id = m.id }) refl apart) more rest) (is_at (order id) m.id) refl found
  reported_step x before ts h k later (entry_tile at s (t.term m)) found here rest =
      first_or id m.id (term (record m { comment = None })) (entry_found ts id) (message v) (λ same e. absurd cc)
      (λ apart more. later (record { file = x.file; offset = at; id = m.id } ∷ []) (other_declared id m.id (record { file = x.file; offset = at; id = m.id }) refl apart) more rest) (is_at (order id) m.id) refl found
  reported_step x before ts h k later (entry_tile at s (t.comment c)) found here rest = later [] refl found rest
  reported_step x before ts h k later (entry_tile at s (t.group_comment c)) found here rest = later [] refl found rest
  reported_step x before ts h k later (entry_tile at s (t.resource_comment c)) found here rest = later [] refl found rest
  reported_step x before ts h k later (entry_tile at s (t.junk y)) found here rest = later [] refl found rest

  reported : (ts : List FileTile) (before : List Declaration) → first_declaration id before ≡ None → find rules.functions id ≡ None → entry_found ts id ≡ Some (message v) →
      LacksNothing (findings_of_tiles rules before ts) → Reported
  reported [] before h k found clean = absurd cc
  reported (x ∷ ts) before h k found clean =
      let own = findings_in x.file (findings_of_tile rules before x.file x.tile) in
      reported_step x before ts h k (λ more none later rest. reported ts (before ++ more) (none_declared id before more h none) k later rest) x.tile found
      (without_file x.file (findings_of_tile rules before x.file x.tile) (all_left PresentIn own _ clean)) (all_right PresentIn own _ clean)

-- ---- all of it

module _ (options : Options) (references files : List File) (clean : LacksNothing (findings_with_reference options references files)) (id : Text) (attr : Option Text) (es : Elements) where
  abbrev names : List Text
  names = known_functions options references

  abbrev in_catalog : Ids (Unit {0})
  in_catalog = known_ids options references files

  abbrev in_reference : Ids (Unit {0})
  in_reference = known_ids options references references

  abbrev own : List FileFinding
  own = findings_of_tiles (translation_rules options references files) [] (flat_map tiles_in files)

  -- if an id is that of a message, its entry is in the tiles, and no function has it
  entry_of : (fs : List File) (m : t.Message) → find (known_ids options references fs) id ≡ Some (message m) → (find (functions_first names) id ≡ None) × (entry_found (flat_map tiles_in fs) id ≡ Some (message m))
  entry_of fs m found =
      let split = split_found names id m (find (functions_first names) id) refl (find (entries_by_id (lists (sources fs))) id) (sym (found_in names (sources fs) id) ∙ found) in
      (split.0, ap (λ xs. find (entries_by_id xs) id) (all_listed fs) ∙ split.1)

  absent : (o : t.Message) (m : Option (Meaning (Unit {0}))) → find in_catalog id ≡ m → find in_reference id ≡ Some (message o) → is_some (as_message m) ≡ false → Fine id (missing_message ∷ [])
  unfolding IsThere
  absent o m mine theirs without =
      let entry = entry_of references o theirs in
      let yes : is_some (as_message (find in_catalog id)) ≡ true = is_translated in_catalog id o (flat_map tiles_in references) (all_right PresentIn own (missing_messages options references files) clean) entry.1 in
      let yes_too : is_some (as_message m) ≡ true = ap (λ x. is_some (as_message x)) (sym mine) ∙ yes in absurd cc

  by_both : (m o : Option (Meaning (Unit {0}))) → find in_catalog id ≡ m → find in_reference id ≡ o → message_target id attr o ≡ there es → Fine id (differences_between in_catalog in_reference id (as_message m) (as_message o))
  by_both m None mine theirs target = absurd cc
  by_both m (Some number_function) mine theirs target = absurd cc
  by_both m (Some (function f)) mine theirs target = absurd cc
  by_both m (Some (term o)) mine theirs target = absurd cc
  by_both (Some (message m)) (Some (message o)) mine theirs target =
      let entry = entry_of files m mine in
      let none : find (known_ids options references []) id ≡ None = found_in names [] id ∙ ap (λ x. or_else x None) entry.0 in
      let fine_all = reported options references files id m (flat_map tiles_in files) [] refl none entry.1 (all_left PresentIn own _ clean) in
      subst (λ x. Fine id (differences_between in_catalog in_reference id (Some m) (as_message x))) theirs
      (subst (λ x. Fine id (differences_between in_catalog in_reference id (as_message x) (as_message (find in_reference id)))) mine fine_all)
  by_both None (Some (message o)) mine theirs target = absent o None mine theirs refl
  by_both (Some number_function) (Some (message o)) mine theirs target = absent o (Some number_function) mine theirs refl
  by_both (Some (function f)) (Some (message o)) mine theirs target = absent o (Some (function f)) mine theirs refl
  by_both (Some (term m)) (Some (message o)) mine theirs target = absent o (Some (term m)) mine theirs refl

known_target : (options : Options) (references files : List File) → LacksNothing (findings_with_reference options references files) → (id : Text) (attr : Option Text) →
    HasTarget (known_ids options references references) id attr → HasTarget (known_ids options references files) id attr
known_target options references files clean id attr target =
    let ids = known_ids options references files in
    let reference = known_ids options references references in
    by_meanings ids reference id attr (find ids id) (find reference id) (by_both options references files clean id attr target.0 (find ids id) (find reference id) refl refl target.1) target.0 target.1

-- in a program that has these functions
module _ {F : Type 0} (known : List Text) (functions : List (Text × F)) (are : AreFunctions known functions) (ss : List Text) (id : Text) (attr : Option Text) where
  targets_same : message_target id attr (find (catalog_ids known ss) id) ≡ message_target id attr (find (program_ids false functions ss) id)
  targets_same = ap (λ ids. message_target id attr (find ids id)) (sym (ids_same known functions are ss)) ∙ target_same (program_ids false functions ss) id attr

pub translations_answer_all : {F : Type 0} → TranslationsAnswerAll F
translations_answer_all options references files functions are clean id attr target =
    let known = known_functions options references in
    let found = known_target options references files clean id attr (target.0, targets_same known functions are (sources references) id attr ∙ target.1) in
    (found.0, sym (targets_same known functions are (sources files) id attr) ∙ found.1)
