-- A flawless catalog answers without errors other than those that depend on the request.
use Rattle.std.proofs.Common.{◌≡◌, ℕ, zero, suc, ◌<◌, Bool, true, false, cond, List, [], ◌∷◌, ◌++◌, map, length, Option, Some, None, refl, arith}
use Rattle.std.specs.Prelude.{if◌then◌else◌, is_some}
use Rattle.std.specs.List.{All, Contains, flat_map, list_any}
use Rattle.std.specs.Option.{option_to_list}
use Rattle.std.specs.BTreeMap.{is_at}
use Rattle.std.specs.Str.{bytes_eq}
use Rattle.std.proofs.lemmas.List.Elements.{All-nil, All-cons, All-head, All-tail, All-weaker, All-contains_itself}
use Rattle.std.proofs.lemmas.Map.Views.{list_any-from_Contains}
use Rattle.fluent_grammar.specs.Words.{Text}
use Rattle.fluent_grammar.specs.Tree as t
use Rattle.fluent_grammar.specs.Tree.{Elements, Inline, Variants}
use Rattle.fluent_errors.specs.Errors.{Unresolved, cyclic, missing_default}
use Rattle.fluent_value.specs.Args.{order}
use Rattle.fluent_value.specs.Value.{Value}
use Rattle.fluent_meaning.specs.Choice.{first_default}
use Rattle.fluent_meaning.specs.Environment.{Environment}
use Rattle.fluent_meaning.specs.Ids.{Ids, Meaning, number_function, function, message, term, find, attribute_named}
use Rattle.fluent_meaning.specs.ReachLaws.{over}
use Rattle.fluent_meaning.specs.Substitution.{message_target, term_target, there, there_or, most_placeables, formatted}
use Rattle.fluent_meaning.proofs.OnPath.{same-equivalence}
use Rattle.lint_findings.specs.References.{elements_references, reference_error, reference_patterns, next_patterns, pattern_errors}
use Rattle.lint_findings.specs.Endless.{meaning_patterns, all_patterns, is_pattern_among, referring_patterns, patterns_left, endless_patterns}
use Rattle.lint_findings.specs.Flaws.{Flaw, unresolved, select_flaws, default_flaws, duplicate_keys, elements_selects, pattern_flaws}
use Rattle.lint_findings.specs.ReportLaws.{IsHarmless, IsFlawless, FlawlessCatalogsAnswer}
use Rattle.lint_findings.proofs.EndlessPatterns.{refers_into, any_here, any_later, keeps}
use Rattle.lint_findings.proofs.Lists.{all_left, all_right}
use Rattle.lint_findings.proofs.RequestErrors.{HasDefault, Fine, PatternFits, answer-fine}

-- ---- rounds

module _ {F : Type 0} (meaning : Text → Option (Meaning F)) where
  -- how many rounds a pattern stays
  rounds : ℕ → List Elements → Elements → ℕ
  rounds zero ps es = 0
  rounds (suc n) ps es = if is_pattern_among es ps then suc (rounds n (referring_patterns meaning ps) es) else 0

  -- if this one of a list passes, one of the list does
  abbrev PassesIn : List Elements → Elements → Type 0
  PassesIn xs x = (q : Elements → Bool) → q x ≡ true → list_any q xs ≡ true

  each_any : (xs : List Elements) → All (PassesIn xs) xs
  each_any [] = All-nil (PassesIn [])
  each_any (x ∷ xs) =
      All-cons (PassesIn (x ∷ xs)) x xs (λ q e. any_here (q x) (list_any q xs) e)
      (All-weaker (PassesIn xs) (PassesIn (x ∷ xs)) (λ y h q e. any_later (q x) (list_any q xs) (h q e)) xs (each_any xs))

  less_step : (b : Bool) (m k : ℕ) → (b ≡ true → m < k) → (if b then suc m else 0) < suc k
  less_step true m k h = let below : m < k = h refl in omega (arith, below)
  less_step false m k h = omega arith

  -- a pattern that is dropped in time stays longer than what it refers to
  falls : (n : ℕ) (ps : List Elements) (es next : Elements) → is_pattern_among es ps ≡ true → is_pattern_among es (patterns_left n meaning ps) ≡ false →
      PassesIn (next_patterns meaning es) next → rounds n ps next < rounds n ps es
  unfolding patterns_left rounds
  falls zero ps es next among gone any = absurd cc
  falls (suc n) ps es next among gone any =
      rw among (less_step (is_pattern_among next ps) (rounds n (referring_patterns meaning ps) next) (rounds n (referring_patterns meaning ps) es)
      (λ e. falls n (referring_patterns meaning ps) es next (keeps (refers_into meaning ps) es (any (λ x. is_pattern_among x ps) e) ps among) gone any))

-- ---- values of a map

module _ {F X : Type 0} (P : X → Type 0) (f : Meaning F → List X) (id : Text) (v : Meaning F) where
  some_same : (x : Meaning F) → Some x ≡ Some v → x ≡ v
  some_same x e = cc

  value_step : (x : Meaning F) (es : Ids F) → All P (f x) → (find es id ≡ Some v → All P (f v)) → (b : Bool) → cond b (Some x) (find es id) ≡ Some v → All P (f v)
  value_step x es here later true found = rw (← some_same x found) here
  value_step x es here later false found = later found

  pub at_value : (ids : Ids F) → find ids id ≡ Some v → All P (flat_map (λ pair. f pair.1) ids) → All P (f v)
  at_value [] found h = absurd cc
  at_value (e ∷ es) found h = value_step e.1 es (all_left P (f e.1) _ h) (λ later. at_value es later (all_right P (f e.1) _ h)) (is_at (order id) e.0) found

-- ---- what no flaw says

module _ {F : Type 0} (meaning : Text → Option (Meaning F)) where
  fault_step : (o : Option Unresolved) (rest : List Unresolved) → All IsHarmless (map unresolved (option_to_list o ++ rest)) → (o ≡ None) × All IsHarmless (map unresolved rest)
  fault_step None rest h = (refl, h)
  fault_step (Some e) rest h = absurd (All-head IsHarmless (unresolved e) (map unresolved rest) h)

  no_faults : (is : List Inline) → All IsHarmless (map unresolved (flat_map (λ i. option_to_list (reference_error meaning i)) is)) → All (λ i. reference_error meaning i ≡ None) is
  no_faults [] h = All-nil (λ i. reference_error meaning i ≡ None)
  no_faults (i ∷ is) h =
      let both : (reference_error meaning i ≡ None) × All IsHarmless (map unresolved (flat_map (λ i. option_to_list (reference_error meaning i)) is)) = fault_step (reference_error meaning i) _ h in
      All-cons (λ i. reference_error meaning i ≡ None) i is both.0 (no_faults is both.1)

default_step : (o : Option Elements) (rest : List Flaw) → All IsHarmless (default_flaws o ++ rest) → is_some o ≡ true
default_step None rest h = absurd (All-head IsHarmless (unresolved missing_default) rest h)
default_step (Some es) rest h = refl

defaults : (vss : List Variants) → All IsHarmless (flat_map select_flaws vss) → All HasDefault vss
defaults [] h = All-nil HasDefault
defaults (vs ∷ vss) h =
    All-cons HasDefault vs vss (default_step (first_default vs) (duplicate_keys [] vs) (all_left IsHarmless (select_flaws vs) (flat_map select_flaws vss) h))
    (defaults vss (all_right IsHarmless (select_flaws vs) (flat_map select_flaws vss) h))

ends : (b : Bool) → All IsHarmless (if b then unresolved cyclic ∷ [] else []) → b ≡ false
ends true h = absurd (All-head IsHarmless (unresolved cyclic) [] h)
ends false h = refl

-- what holds of all that is entered holds at each reference
module _ (P : Elements → Type 0) (f : Inline → List Elements) (Q : Inline → Type 0) where
  at_references : (is : List Inline) → All P (flat_map f is) → All Q is → All (λ i. Q i × All P (f i)) is
  at_references [] h k = All-nil (λ i. Q i × All P (f i))
  at_references (i ∷ is) h k =
      All-cons (λ i. Q i × All P (f i)) i is (All-head Q i is k, all_left P (f i) (flat_map f is) h) (at_references is (all_right P (f i) (flat_map f is) h) (All-tail Q i is k))

-- what holds of all in two ways holds in both
both_all : {X : Type 0} (P Q : X → Type 0) (xs : List X) → All P xs → All Q xs → All (λ x. P x × Q x) xs
both_all P Q [] h k = All-nil (λ x. P x × Q x)
both_all P Q (x ∷ xs) h k = All-cons (λ x. P x × Q x) x xs (All-head P x xs h, All-head Q x xs k) (both_all P Q xs (All-tail P x xs h) (All-tail Q x xs k))

-- ---- targets

module _ (P : Elements → Type 0) (es : Elements) where
  value_holds : (x : Unresolved) (o : Option Elements) (rest : List Elements) → All P (option_to_list o ++ rest) → there_or x o ≡ there es → P es
  value_holds x None rest h e = absurd cc
  value_holds x (Some fs) rest h e = let is : fs ≡ es = cc in rw (← is) (All-head P fs rest h)

  named_step : (a : Text) (v : Elements) (o : Option Elements) → P v → (o ≡ Some es → P es) → (b : Bool) → (if b then Some v else o) ≡ Some es → P es
  named_step a v o here later true e = let is : v ≡ es = cc in rw (← is) here
  named_step a v o here later false e = later e

  named_holds : (a : Text) (as' : List t.Attribute) → All P (map (λ (x : t.Attribute). x.value) as') → attribute_named a as' ≡ Some es → P es
  named_holds a [] h e = absurd cc
  named_holds a (x ∷ xs) h e =
      named_step a x.value (attribute_named a xs) (All-head P x.value (map (λ (y : t.Attribute). y.value) xs) h) (λ later. named_holds a xs (All-tail P x.value (map (λ (y : t.Attribute). y.value) xs) h) later) (bytes_eq x.id a) e

  unwrapped : (x : Unresolved) (o : Option Elements) → there_or x o ≡ there es → o ≡ Some es
  unwrapped x None e = absurd cc
  unwrapped x (Some fs) e = cc

  message_holds : {F : Type 0} (id : Text) (attr : Option Text) (o : Option (Meaning F)) → ((m : Meaning F) → o ≡ Some m → All P (meaning_patterns m)) → message_target id attr o ≡ there es → P es
  message_holds id attr None h e = absurd cc
  message_holds id attr (Some number_function) h e = absurd cc
  message_holds id attr (Some (function f)) h e = absurd cc
  message_holds id attr (Some (term m)) h e = absurd cc
  message_holds id None (Some (message m)) h e = value_holds _ m.value (map (λ (x : t.Attribute). x.value) m.attributes) (h (message m) refl) e
  message_holds id (Some a) (Some (message m)) h e = named_holds a m.attributes (all_right P (option_to_list m.value) (map (λ (x : t.Attribute). x.value) m.attributes) (h (message m) refl)) (unwrapped _ (attribute_named a m.attributes) e)

  term_holds : {F : Type 0} (id : Text) (attr : Option Text) (o : Option (Meaning F)) → ((m : Meaning F) → o ≡ Some m → All P (meaning_patterns m)) → term_target id attr o ≡ there es → P es
  term_holds id attr None h e = absurd cc
  term_holds id attr (Some number_function) h e = absurd cc
  term_holds id attr (Some (function f)) h e = absurd cc
  term_holds id attr (Some (message m)) h e = absurd cc
  term_holds id None (Some (term m)) h e = let is : m.value ≡ es = cc in rw (← is) (All-head P m.value (map (λ (x : t.Attribute). x.value) m.attributes) (h (term m) refl))
  term_holds id (Some a) (Some (term m)) h e = named_holds a m.attributes (All-tail P m.value (map (λ (x : t.Attribute). x.value) m.attributes) (h (term m) refl)) (unwrapped _ (attribute_named a m.attributes) e)

-- ---- all of it

module _ {S F : Type 0} (asked : List (Text × Value S)) (env : Environment S F) (ids : Ids F) (flawless : IsFlawless ids) where
  abbrev rank : Elements → ℕ
  rank = rounds (find ids) (length (all_patterns ids)) (all_patterns ids)

  abbrev Good : Elements → Type 0
  Good es = PatternFits asked (over (find ids) env) rank (rank es) es

  abbrev IsThere : Elements → Type 0
  IsThere es = is_pattern_among es (all_patterns ids) ≡ true

  all_there : All IsThere (all_patterns ids)
  all_there = All-weaker (Contains (all_patterns ids)) IsThere (λ es c. list_any-from_Contains same-equivalence es (all_patterns ids) c) (all_patterns ids) (All-contains_itself (all_patterns ids))

  good : (es : Elements) → All IsHarmless (pattern_flaws ids es) → IsThere es → Good es
  good es h among =
      let faults = all_left IsHarmless (map unresolved (pattern_errors (find ids) es)) _ h in
      let rest = all_right IsHarmless (map unresolved (pattern_errors (find ids) es)) _ h in
      let selects = all_left IsHarmless (flat_map select_flaws (elements_selects es)) _ rest in
      let last = all_right IsHarmless (flat_map select_flaws (elements_selects es)) _ rest in
      let gone = ends (is_pattern_among es (endless_patterns ids)) last in
      let below : All (λ next. rank next < rank es) (next_patterns (find ids) es) =
      All-weaker (PassesIn (find ids) (next_patterns (find ids) es)) (λ next. rank next < rank es) (λ next any. falls (find ids) (length (all_patterns ids)) (all_patterns ids) es next among gone any) (next_patterns (find ids) es) (each_any (find ids) (next_patterns (find ids) es)) in
      (at_references (λ next. rank next < rank es) (reference_patterns (find ids)) (λ i. reference_error (find ids) i ≡ None) (elements_references es) below (no_faults (find ids) (elements_references es) faults), defaults (elements_selects es) selects)

  goods : (id : Text) (m : Meaning F) → find ids id ≡ Some m → All Good (meaning_patterns m)
  goods id m found =
      All-weaker (λ es. All IsHarmless (pattern_flaws ids es) × IsThere es) Good (λ es h. good es h.0 h.1) (meaning_patterns m)
      (both_all (λ es. All IsHarmless (pattern_flaws ids es)) IsThere (meaning_patterns m) (flawless id m found) (at_value IsThere meaning_patterns id m ids found all_there))

  answers : (id : Text) (attr : Option Text) (es : Elements) → message_target id attr (find ids id) ≡ there es → (k : ℕ) → Fine asked (formatted (over (find ids) env) k asked es)
  answers id attr es target k =
      answer-fine asked (over (find ids) env) rank (λ i a fs e. message_holds Good fs i a (find ids i) (λ m found. goods i m found) e) (λ i a fs e. term_holds Good fs i a (find ids i) (λ m found. goods i m found) e)
      k es (message_holds Good es id attr (find ids id) (λ m found. goods id m found) target)

pub flawless_catalogs_answer : {S F : Type 0} → FlawlessCatalogsAnswer S F
flawless_catalogs_answer env ids flawless id attr es target args = (answers args env ids flawless id attr es target most_placeables).all
