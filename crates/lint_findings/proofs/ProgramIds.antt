-- The ids of a program are those of the catalog, whatever its functions do.
use Rattle.std.proofs.Common.{◌≡◌, ◌∙◌, ℕ, zero, suc, Bool, true, false, cond, List, [], ◌∷◌, ◌++◌, map, filter, length, Option, Some, None, refl, sym, ap, subst}
use Rattle.std.specs.Prelude.{◌&&◌, ◌||◌, not, is_some, if◌then◌else◌, codes}
use Rattle.std.specs.Option.{option_map, option_to_list}
use Rattle.std.specs.List.{All, flat_map, list_any}
use Rattle.std.specs.Str.{bytes_eq}
use Rattle.std.specs.declared.cmp.Ordering.{Ordering}
use Rattle.std.specs.declared.cmp.Ordering.TheVariants.{Less, Equal, Greater}
use Rattle.std.specs.Ordering.{match_ordering}
use Rattle.std.specs.BTreeMap.{insert_entry, is_at}
use Rattle.std.proofs.lemmas.Slice.Eq.{bytes_eq-Decides}
use Rattle.std.proofs.lemmas.List.Elements.{All-weaker}
use Rattle.fluent_grammar.specs.Words.{Text, is_among}
use Rattle.fluent_grammar.specs.Tree as t
use Rattle.fluent_grammar.specs.Tree.{Elements, Inline}
use Rattle.fluent_tidy_laws.specs.Joined.{lists}
use Rattle.fluent_errors.specs.Errors.{cyclic}
use Rattle.fluent_value.specs.Args.{order}
use Rattle.fluent_meaning.specs.Ids.{Ids, Meaning, number_function, function, message, term, find, with_id, with_ids, number_pair, entries_by_id}
use Rattle.fluent_meaning.specs.Substitution.{message_target, term_target}
use Rattle.fluent_meaning.proofs.Stays.{find-inserted}
use Rattle.lint_findings.specs.References.{reference_error, function_error, target_error, reference_patterns, target_patterns, next_patterns, pattern_errors, elements_references}
use Rattle.lint_findings.specs.Endless.{meaning_patterns, all_patterns, is_pattern_among, referring_patterns, patterns_left, endless_patterns}
use Rattle.lint_findings.specs.Flaws.{unresolved, select_flaws, elements_selects, pattern_flaws, catalog_ids}
use Rattle.lint_findings.specs.Comparison.{without}
use Rattle.lint_findings.specs.ReportLaws.{program_ids, AreFunctions, IsHarmless, IsFlawless}

-- ---- lists

pub with_ids-++ : {F : Type 0} (overriding : Bool) (ids xs ys : Ids F) → with_ids overriding ids (xs ++ ys) ≡ with_ids overriding (with_ids overriding ids xs) ys
with_ids-++ overriding ids [] ys = refl
with_ids-++ overriding ids (x ∷ xs) ys = with_ids-++ overriding (with_id overriding ids x) xs ys

by_order : {A B : Type 0} (f : A → B) (o : Ordering) (a b c : A) → f (match_ordering o a b c) ≡ match_ordering o (f a) (f b) (f c)
by_order f Less a b c = refl
by_order f Equal a b c = refl
by_order f Greater a b c = refl

by_test : {A B : Type 0} (f : A → B) (b : Bool) (x y : A) → f (cond b x y) ≡ cond b (f x) (f y)
by_test f true x y = refl
by_test f false x y = refl

same_filter : {X : Type 0} (p q : X → Bool) → ((x : X) → p x ≡ q x) → (xs : List X) → filter p xs ≡ filter q xs
same_filter p q h [] = refl
same_filter p q h (x ∷ xs) = ap (λ b. cond b (x ∷ filter p xs) (filter p xs)) (h x) ∙ ap (λ ys. cond (q x) (x ∷ ys) ys) (same_filter p q h xs)

same_flat_map : {X A : Type 0} (f g : X → List A) → ((x : X) → f x ≡ g x) → (xs : List X) → flat_map f xs ≡ flat_map g xs
same_flat_map f g h [] = refl
same_flat_map f g h (x ∷ xs) = ap (λ ys. ys ++ flat_map f xs) (h x) ∙ ap (λ ys. g x ++ ys) (same_flat_map f g h xs)

-- ---- without what functions do

module _ {F : Type 0} where
  abbrev pub forget : Meaning F → Meaning (Unit {0})
  forget number_function = number_function
  forget (function f) = function tt
  forget (message m) = message m
  forget (term m) = term m

  abbrev pub forget_pair : Text × Meaning F → Text × Meaning (Unit {0})
  forget_pair p = (p.0, forget p.1)

  abbrev pub forgotten : Ids F → Ids (Unit {0})
  forgotten ids = map forget_pair ids

  found_step : (b : Bool) (m : Meaning F) (o : Option (Meaning F)) (p : Option (Meaning (Unit {0}))) → p ≡ option_map forget o → cond b (Some (forget m)) p ≡ option_map forget (cond b (Some m) o)
  found_step true m o p h = refl
  found_step false m o p h = h

  pub find_forgotten : (ids : Ids F) (id : Text) → find (forgotten ids) id ≡ option_map forget (find ids id)
  find_forgotten [] id = refl
  find_forgotten (p ∷ ids) id = found_step (is_at (order id) p.0) p.1 (find ids id) (find (forgotten ids) id) (find_forgotten ids id)

  some_forgotten : (o : Option (Meaning F)) → is_some (option_map forget o) ≡ is_some o
  some_forgotten None = refl
  some_forgotten (Some m) = refl

  pub is_there : (ids : Ids F) (id : Text) → is_some (find (forgotten ids) id) ≡ is_some (find ids id)
  is_there ids id = ap is_some (find_forgotten ids id) ∙ some_forgotten (find ids id)

  inserted : (ids : Ids F) (id : Text) (m : Meaning F) → forgotten (insert_entry order ids id m) ≡ insert_entry order (forgotten ids) id (forget m)
  inserted [] id m = refl
  inserted (e ∷ es) id m =
      by_order forgotten (order id e.0) ((id, m) ∷ e ∷ es) ((e.0, m) ∷ es) (e ∷ insert_entry order es id m)
      ∙ ap (λ xs. match_ordering (order id e.0) ((id, forget m) ∷ forgotten (e ∷ es)) ((e.0, forget m) ∷ forgotten es) (forget_pair e ∷ xs)) (inserted es id m)

  one_more : (overriding : Bool) (ids : Ids F) (p : Text × Meaning F) → forgotten (with_id overriding ids p) ≡ with_id overriding (forgotten ids) (forget_pair p)
  one_more overriding ids p =
      by_test forgotten (is_some (find ids p.0) && not overriding) ids (insert_entry order ids p.0 p.1)
      ∙ ap (λ b. cond (b && not overriding) (forgotten ids) (forgotten (insert_entry order ids p.0 p.1))) (sym (is_there ids p.0))
      ∙ ap (cond (is_some (find (forgotten ids) p.0) && not overriding) (forgotten ids)) (inserted ids p.0 p.1)

  all_more : (overriding : Bool) (ids ps : Ids F) → forgotten (with_ids overriding ids ps) ≡ with_ids overriding (forgotten ids) (forgotten ps)
  all_more overriding ids [] = refl
  all_more overriding ids (p ∷ ps) = all_more overriding (with_id overriding ids p) ps ∙ ap (λ xs. with_ids overriding xs (forgotten ps)) (one_more overriding ids p)

entries_same : (F : Type 0) (es : List t.Entry) → forgotten {F = F} (entries_by_id es) ≡ entries_by_id es
entries_same F [] = refl
entries_same F (t.message m ∷ es) = ap (λ ps. (m.id, message m) ∷ ps) (entries_same F es)
entries_same F (t.term m ∷ es) = ap (λ ps. (m.id, term m) ∷ ps) (entries_same F es)
entries_same F (t.comment c ∷ es) = entries_same F es
entries_same F (t.group_comment c ∷ es) = entries_same F es
entries_same F (t.resource_comment c ∷ es) = entries_same F es
entries_same F (t.junk x ∷ es) = entries_same F es

-- ---- functions of names

abbrev pub named_functions : List Text → Ids (Unit {0})
named_functions names = map (λ name. (name, function tt)) names

functions_same : {F : Type 0} (functions : List (Text × F)) → forgotten (map (λ f. (f.0, function f.1)) functions) ≡ named_functions (map (λ f. f.0) functions)
functions_same [] = refl
functions_same (f ∷ fs) = ap (λ ps. (f.0, function tt) ∷ ps) (functions_same fs)

abbrev number : Text
number = codes "NUMBER"

HasNumber : Ids (Unit {0}) → Type 0
HasNumber ids = is_some (find ids number) ≡ true

number_passes : (name : Text) (b : Bool) → is_among name (number ∷ []) ≡ b → b ≡ true → number ≡ name
number_passes name b is e = (bytes_eq-Decides number name).0 (left (bytes_eq number name) (is ∙ e))
  where
    left : (c : Bool) → (c || false) ≡ true → c ≡ true
    left true h = refl
    left false h = h

still_there : (b : Bool) (m : Meaning (Unit {0})) (o : Option (Meaning (Unit {0}))) → is_some o ≡ true → is_some (cond b (Some m) o) ≡ true
still_there true m o h = refl
still_there false m o h = h

goes_on : (ids : Ids (Unit {0})) (p : Text × Meaning (Unit {0})) (b : Bool) → HasNumber ids → HasNumber (cond b ids (insert_entry order ids p.0 p.1))
unfolding HasNumber
goes_on ids p true h = h
goes_on ids p false h = ap is_some (find-inserted ids p.0 number p.1) ∙ still_there (is_at (order number) p.0) p.1 (find ids number) h

taken : (ids : Ids (Unit {0})) (name : Text) → HasNumber ids → number ≡ name → with_id false ids (name, function tt) ≡ ids
unfolding HasNumber
taken ids name h same = ap (λ b. cond (b && true) ids (insert_entry order ids name (function tt))) (ap (λ x. is_some (find ids x)) (sym same) ∙ h)

without_step : (ids : Ids (Unit {0})) (name : Text) (names : List Text) → HasNumber ids → ((others : Ids (Unit {0})) → HasNumber others → with_ids false others (named_functions names) ≡ with_ids false others (named_functions (without names (number ∷ [])))) →
    (b : Bool) → is_among name (number ∷ []) ≡ b →
    with_ids false (with_id false ids (name, function tt)) (named_functions names) ≡ with_ids false ids (named_functions (cond (not b) (name ∷ without names (number ∷ [])) (without names (number ∷ []))))
without_step ids name names h later true e = ap (λ xs. with_ids false xs (named_functions names)) (taken ids name h (number_passes name true e refl)) ∙ later ids h
without_step ids name names h later false e = later (with_id false ids (name, function tt)) (goes_on ids (name, function tt) (is_some (find ids name) && not false) h)

-- `NUMBER` is there, so another of its name changes nothing
without_number : (names : List Text) (ids : Ids (Unit {0})) → HasNumber ids → with_ids false ids (named_functions names) ≡ with_ids false ids (named_functions (without names (number ∷ [])))
without_number [] ids h = refl
without_number (name ∷ names) ids h = without_step ids name names h (without_number names) (is_among name (number ∷ [])) refl

number_is_there : HasNumber (number_pair ∷ [])
unfolding HasNumber
number_is_there = refl

-- ---- the ids of a program

module _ {F : Type 0} (known : List Text) (functions : List (Text × F)) (are : AreFunctions known functions) where
  abbrev before_entries : Ids F
  before_entries = with_ids false (number_pair ∷ []) (map (λ f. (f.0, function f.1)) functions)

  functions_known : forgotten before_entries ≡ with_ids false (number_pair ∷ []) (named_functions known)
  functions_known =
      all_more false (number_pair ∷ []) (map (λ f. (f.0, function f.1)) functions) ∙ ap (with_ids false (number_pair ∷ [])) (functions_same functions ∙ ap named_functions are)
      ∙ sym (without_number known (number_pair ∷ []) number_is_there)

  pub ids_same : (sources : List Text) → forgotten (program_ids false functions sources) ≡ catalog_ids known sources
  ids_same sources =
      all_more false before_entries (entries_by_id (lists sources)) ∙ ap (with_ids false (forgotten before_entries)) (entries_same F (lists sources))
      ∙ ap (λ ids. with_ids false ids (entries_by_id (lists sources))) functions_known ∙ sym (with_ids-++ false (number_pair ∷ []) (named_functions known) (entries_by_id (lists sources)))

-- ---- flaws

module _ {F : Type 0} where
  message_same : (id : Text) (attr : Option Text) (o : Option (Meaning F)) → message_target id attr (option_map forget o) ≡ message_target id attr o
  message_same id attr None = refl
  message_same id attr (Some number_function) = refl
  message_same id attr (Some (function f)) = refl
  message_same id attr (Some (message m)) = refl
  message_same id attr (Some (term m)) = refl

  term_same : (id : Text) (attr : Option Text) (o : Option (Meaning F)) → term_target id attr (option_map forget o) ≡ term_target id attr o
  term_same id attr None = refl
  term_same id attr (Some number_function) = refl
  term_same id attr (Some (function f)) = refl
  term_same id attr (Some (message m)) = refl
  term_same id attr (Some (term m)) = refl

  function_same : (id : Text) (o : Option (Meaning F)) → function_error id (option_map forget o) ≡ function_error id o
  function_same id None = refl
  function_same id (Some number_function) = refl
  function_same id (Some (function f)) = refl
  function_same id (Some (message m)) = refl
  function_same id (Some (term m)) = refl

  patterns_same : (m : Meaning F) → meaning_patterns (forget m) ≡ meaning_patterns m
  patterns_same number_function = refl
  patterns_same (function f) = refl
  patterns_same (message m) = refl
  patterns_same (term m) = refl

  module _ (ids : Ids F) where
    pub target_same : (id : Text) (attr : Option Text) → message_target id attr (find (forgotten ids) id) ≡ message_target id attr (find ids id)
    target_same id attr = ap (message_target id attr) (find_forgotten ids id) ∙ message_same id attr (find ids id)

    term_target_same : (id : Text) (attr : Option Text) → term_target id attr (find (forgotten ids) id) ≡ term_target id attr (find ids id)
    term_target_same id attr = ap (term_target id attr) (find_forgotten ids id) ∙ term_same id attr (find ids id)

    error_same : (i : Inline) → reference_error (find (forgotten ids)) i ≡ reference_error (find ids) i
    error_same (t.string_literal x) = refl
    error_same (t.number_literal x) = refl
    error_same (t.function_reference id a) = ap (function_error id) (find_forgotten ids id) ∙ function_same id (find ids id)
    error_same (t.message_reference id a) = ap target_error (target_same id a)
    error_same (t.term_reference id a c) = ap target_error (term_target_same id a)
    error_same (t.variable_reference x) = refl
    error_same (t.nested e) = refl

    entered_same : (i : Inline) → reference_patterns (find (forgotten ids)) i ≡ reference_patterns (find ids) i
    entered_same (t.string_literal x) = refl
    entered_same (t.number_literal x) = refl
    entered_same (t.function_reference id a) = refl
    entered_same (t.message_reference id a) = ap target_patterns (target_same id a)
    entered_same (t.term_reference id a c) = ap target_patterns (term_target_same id a)
    entered_same (t.variable_reference x) = refl
    entered_same (t.nested e) = refl

    next_same : (es : Elements) → next_patterns (find (forgotten ids)) es ≡ next_patterns (find ids) es
    next_same es = same_flat_map (reference_patterns (find (forgotten ids))) (reference_patterns (find ids)) entered_same (elements_references es)

    round_same : (ps : List Elements) → referring_patterns (find (forgotten ids)) ps ≡ referring_patterns (find ids) ps
    round_same ps =
        same_filter (λ es. list_any (λ next. is_pattern_among next ps) (next_patterns (find (forgotten ids)) es)) (λ es. list_any (λ next. is_pattern_among next ps) (next_patterns (find ids) es))
        (λ es. ap (list_any (λ next. is_pattern_among next ps)) (next_same es)) ps

    left_same : (n : ℕ) (ps : List Elements) → patterns_left n (find (forgotten ids)) ps ≡ patterns_left n (find ids) ps
    unfolding patterns_left
    left_same zero ps = refl
    left_same (suc n) ps = ap (patterns_left n (find (forgotten ids))) (round_same ps) ∙ left_same n (referring_patterns (find ids) ps)

  all_same : (ids : Ids F) → all_patterns (forgotten ids) ≡ all_patterns ids
  all_same [] = refl
  all_same (p ∷ ids) = ap (λ es. es ++ all_patterns (forgotten ids)) (patterns_same p.1) ∙ ap (λ es. meaning_patterns p.1 ++ es) (all_same ids)

  endless_same : (ids : Ids F) → endless_patterns (forgotten ids) ≡ endless_patterns ids
  endless_same ids = ap (λ ps. patterns_left (length ps) (find (forgotten ids)) ps) (all_same ids) ∙ left_same ids (length (all_patterns ids)) (all_patterns ids)

  flaws_same : (ids : Ids F) (es : Elements) → pattern_flaws (forgotten ids) es ≡ pattern_flaws ids es
  flaws_same ids es =
      let selects = flat_map select_flaws (elements_selects es) in
      ap (λ xs. map unresolved xs ++ (selects ++ (if is_pattern_among es (endless_patterns (forgotten ids)) then unresolved cyclic ∷ [] else [])))
      (same_flat_map (λ i. option_to_list (reference_error (find (forgotten ids)) i)) (λ i. option_to_list (reference_error (find ids) i)) (λ i. ap option_to_list (error_same ids i)) (elements_references es))
      ∙ ap (λ ps. map unresolved (pattern_errors (find ids) es) ++ (selects ++ (if is_pattern_among es ps then unresolved cyclic ∷ [] else []))) (endless_same ids)

  pub flawless_with_functions : (ids : Ids F) → IsFlawless (forgotten ids) → IsFlawless ids
  flawless_with_functions ids h id m found =
      let own = h id (forget m) (find_forgotten ids id ∙ ap (option_map forget) found) in
      subst (All (λ es. All IsHarmless (pattern_flaws ids es))) (patterns_same m)
      (All-weaker (λ es. All IsHarmless (pattern_flaws (forgotten ids) es)) (λ es. All IsHarmless (pattern_flaws ids es)) (λ es k. subst (All IsHarmless) (flaws_same ids es) k) (meaning_patterns (forget m)) own)
