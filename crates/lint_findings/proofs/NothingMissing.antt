-- A catalog that misses nothing of its reference has a pattern for each request that the reference has one for.
use Rattle.std.proofs.Common.{◌≡◌, ◌∙◌, Bool, true, false, if◌then◌else◌, not, List, [], ◌∷◌, ◌++◌, map, Option, Some, None, is_some, cond, refl, sym, ap}
use Rattle.std.specs.Prelude.{◌||◌}
use Rattle.std.specs.List.{All, flat_map}
use Rattle.std.specs.Str.{bytes_eq}
use Rattle.std.specs.BTreeMap.{is_at}
use Rattle.std.specs.Cmp.Lexicographic.{same_text, texts_ties}
use Rattle.std.proofs.lemmas.List.Elements.{All-nil, All-cons, All-head, All-tail}
use Rattle.fluent_grammar.specs.Words.{Text, is_among}
use Rattle.fluent_grammar.specs.Tree as t
use Rattle.fluent_grammar.specs.Tree.{Elements}
use Rattle.fluent_errors.specs.Errors.{Unresolved}
use Rattle.fluent_value.specs.Args.{order}
use Rattle.fluent_meaning.specs.Ids.{Ids, Meaning, number_function, function, message, term, find, attribute_named}
use Rattle.fluent_meaning.specs.Substitution.{message_target, there, there_or}
use Rattle.lint_findings.specs.Comparison.{Difference, missing_message, missing_value, missing_attribute, differences_between, message_differences, value_difference, attribute_names, as_message, without, id_differences, all_differences}
use Rattle.lint_findings.proofs.Lists.{all_left, all_right}
use Rattle.lint_findings.specs.ReportLaws.{IsMissing, NothingMissingAnswersAll}

pub key_is : (id k : Text) → is_at (order id) k ≡ true → id ≡ k
key_is id k h = same_text id k (sym (texts_ties id k ∙ h))

-- what holds of all that the pairs of a map make holds of what an id of it makes
module _ {F X : Type 0} (P : X → Type 0) (f : Text → List X) (id : Text) (v : Meaning F) where
  key_step : (e : Text × Meaning F) (es : Ids F) → All P (f e.0) → (find es id ≡ Some v → All P (f id)) →
      (b : Bool) → is_at (order id) e.0 ≡ b → cond b (Some e.1) (find es id) ≡ Some v → All P (f id)
  key_step e es here later true same found = rw (key_is id e.0 same) here
  key_step e es here later false apart found = later found

  at_key : (ids : Ids F) → find ids id ≡ Some v → All P (flat_map (λ pair. f pair.0) ids) → All P (f id)
  at_key [] found h = absurd cc
  at_key (e ∷ es) found h = key_step e es (all_left P (f e.0) _ h) (λ later. at_key es later (all_right P (f e.0) _ h)) (is_at (order id) e.0) refl found

-- a name is among those of attributes if there is an attribute of that name
named_step : (x : t.Attribute) (rest : Bool) (named : Option Elements) (b : Bool) → rest ≡ is_some named → (b || rest) ≡ is_some (if b then Some x.value else named)
named_step x rest named true h = refl
named_step x rest named false h = h

named_among : (a : Text) (xs : List t.Attribute) → is_among a (map (λ (x : t.Attribute). x.id) xs) ≡ is_some (attribute_named a xs)
named_among a [] = refl
named_among a (x ∷ xs) = named_step x (is_among a (map (λ (y : t.Attribute). y.id) xs)) (attribute_named a xs) (bytes_eq x.id a) (named_among a xs)

module _ {X : Type 0} (P : X → Type 0) (f : Text → X) (a : Text) (ys : List Text) (apart : is_among a ys ≡ false) where
  -- what is left out of a list leaves what follows it
  kept : (b : Bool) (x : Text) (xs : List Text) → All P (map f (if b then x ∷ xs else xs)) → All P (map f xs)
  kept true x xs h = All-tail P (f x) (map f xs) h
  kept false x xs h = h

  first_kept : (b : Bool) (x : Text) (xs : List Text) → b ≡ true → All P (map f (if b then x ∷ xs else xs)) → P (f x)
  first_kept true x xs e h = All-head P (f x) (map f xs) h
  first_kept false x xs e h = absurd cc

  among_step : (x : Text) (xs : List Text) → All P (map f (without (x ∷ xs) ys)) → (is_among a xs ≡ true → P (f a)) →
      (b : Bool) → bytes_eq x a ≡ b → (b || is_among a xs) ≡ true → P (f a)
  among_step x xs h later true same e =
      let is : x ≡ a = same_text x a (sym same) in
      rw (← is) (first_kept (not (is_among x ys)) x (without xs ys) (ap (λ y. not (is_among y ys)) is ∙ ap not apart) h)
  among_step x xs h later false other e = later e

  among_kept : (xs : List Text) → is_among a xs ≡ true → All P (map f (without xs ys)) → P (f a)
  among_kept [] e h = absurd cc
  among_kept (x ∷ xs) e h = among_step x xs h (λ more. among_kept xs more (kept (not (is_among x ys)) x (without xs ys) h)) (bytes_eq x a) refl e

abbrev pub NotMissing : Text × Difference → Type 0
NotMissing d = IsMissing d → ⊥

-- the differences of an id, of those that are no misses
module _ (id : Text) where
  abbrev pub Fine : List Difference → Type 0
  Fine ds = All NotMissing (map (λ d. (id, d)) ds)

  fine_left : (ds es : List Difference) → Fine (ds ++ es) → Fine ds
  fine_left [] es h = All-nil NotMissing
  fine_left (d ∷ ds) es h = All-cons NotMissing (id, d) (map (λ x. (id, x)) ds) (All-head NotMissing (id, d) (map (λ x. (id, x)) (ds ++ es)) h) (fine_left ds es (All-tail NotMissing (id, d) (map (λ x. (id, x)) (ds ++ es)) h))

  fine_right : (ds es : List Difference) → Fine (ds ++ es) → Fine es
  fine_right [] es h = h
  fine_right (d ∷ ds) es h = fine_right ds es (All-tail NotMissing (id, d) (map (λ x. (id, x)) (ds ++ es)) h)

  -- values
  value_there : (v w : Option Elements) → Fine (value_difference v w) → (es : Elements) → w ≡ Some es → (fs : Elements) × (v ≡ Some fs)
  value_there (Some fs) w fine es e = (fs, refl)
  value_there None None fine es e = absurd cc
  value_there None (Some gs) fine es e = absurd (All-head NotMissing (id, missing_value) [] fine tt)

  -- attributes
  missing_pairs : (names : List Text) → Fine (map missing_attribute names) → All (λ d. NotMissing (id, d)) (map missing_attribute names)
  missing_pairs [] h = All-nil (λ d. NotMissing (id, d))
  missing_pairs (n ∷ ns) h = All-cons (λ d. NotMissing (id, d)) (missing_attribute n) (map missing_attribute ns) (All-head NotMissing (id, missing_attribute n) _ h) (missing_pairs ns (All-tail NotMissing (id, missing_attribute n) _ h))

  is_there : (o : Option Elements) → is_some o ≡ true → (fs : Elements) × (o ≡ Some fs)
  is_there None e = absurd cc
  is_there (Some fs) e = (fs, refl)

  named_there : (a : Text) (mine theirs : List t.Attribute) → Fine (map missing_attribute (without (map (λ (x : t.Attribute). x.id) theirs) (map (λ (x : t.Attribute). x.id) mine))) →
      (es : Elements) → attribute_named a theirs ≡ Some es → (b : Bool) → is_among a (map (λ (x : t.Attribute). x.id) mine) ≡ b → (fs : Elements) × (attribute_named a mine ≡ Some fs)
  named_there a mine theirs fine es e true among = is_there (attribute_named a mine) (sym (named_among a mine) ∙ among)
  named_there a mine theirs fine es e false apart =
      absurd (among_kept (λ d. NotMissing (id, d)) missing_attribute a (map (λ (x : t.Attribute). x.id) mine) apart (map (λ (x : t.Attribute). x.id) theirs)
      (named_among a theirs ∙ ap is_some e) (missing_pairs _ fine) tt)

-- what a target is there for
unwrapped : (x : Unresolved) (o : Option Elements) (es : Elements) → there_or x o ≡ there es → o ≡ Some es
unwrapped x None es e = absurd cc
unwrapped x (Some fs) es e = cc

wrapped : (x : Unresolved) (o : Option Elements) → (fs : Elements) × (o ≡ Some fs) → (fs : Elements) × (there_or x o ≡ there fs)
wrapped x o found = (found.0, ap (there_or x) found.1)

abbrev meant : {F : Type 0} → t.Message → Option (Meaning F)
meant m = Some (message m)

-- what a condition that doesn't hold leaves
unless : {X : Type 0} (P : X → Type 0) (xs : List X) (b : Bool) → b ≡ false → All P (if b then [] else xs) → All P xs
unless P xs false e h = h
unless P xs true e h = absurd cc

module _ {F : Type 0} (ids reference : Ids F) (id : Text) where
  message_there : (m o : t.Message) → Fine id (message_differences ids reference id m o) → (attr : Option Text) → (es : Elements) → message_target id attr (meant {F = F} o) ≡ there es →
      (fs : Elements) × (message_target id attr (meant {F = F} m) ≡ there fs)
  message_there m o fine None es target = wrapped _ m.value (value_there id m.value o.value (fine_left id (value_difference m.value o.value) _ fine) es (unwrapped _ o.value es target))
  message_there m o fine (Some a) es target =
      wrapped _ (attribute_named a m.attributes) (named_there id a m.attributes o.attributes
      (fine_left id (map missing_attribute (without (attribute_names o) (attribute_names m))) _ (fine_right id (value_difference m.value o.value) _ fine))
      es (unwrapped _ (attribute_named a o.attributes) es target) (is_among a (attribute_names m)) refl)

  -- by what the id stands for in both
  pub by_meanings : (attr : Option Text) (m o : Option (Meaning F)) → Fine id (differences_between ids reference id (as_message m) (as_message o)) → (es : Elements) → message_target id attr o ≡ there es →
      (fs : Elements) × (message_target id attr m ≡ there fs)
  by_meanings attr m None fine es target = absurd cc
  by_meanings attr m (Some number_function) fine es target = absurd cc
  by_meanings attr m (Some (function f)) fine es target = absurd cc
  by_meanings attr m (Some (term o)) fine es target = absurd cc
  by_meanings attr (Some (message m)) (Some (message o)) fine es target = message_there m o fine attr es target
  by_meanings attr None (Some (message o)) fine es target = absurd (All-head NotMissing (id, missing_message) [] fine tt)
  by_meanings attr (Some number_function) (Some (message o)) fine es target = absurd (All-head NotMissing (id, missing_message) [] fine tt)
  by_meanings attr (Some (function f)) (Some (message o)) fine es target = absurd (All-head NotMissing (id, missing_message) [] fine tt)
  by_meanings attr (Some (term m)) (Some (message o)) fine es target = absurd (All-head NotMissing (id, missing_message) [] fine tt)

  -- an id of either map has its differences listed
  fine_by : All NotMissing (all_differences ids reference) → (m o : Option (Meaning F)) → find ids id ≡ m → find reference id ≡ o → (es : Elements) (attr : Option Text) → message_target id attr o ≡ there es → Fine id (differences_between ids reference id (as_message (find ids id)) (as_message (find reference id)))
  fine_by all (Some m) o mine theirs es attr target = at_key NotMissing (id_differences ids reference) id m ids mine (all_left NotMissing (flat_map (λ pair. id_differences ids reference pair.0) ids) _ all)
  fine_by all None None mine theirs es attr target = absurd cc
  fine_by all None (Some o) mine theirs es attr target =
      let listed : All NotMissing (if is_some (find ids id) then [] else id_differences ids reference id) = at_key NotMissing (λ k. if is_some (find ids k) then [] else id_differences ids reference k) id o reference theirs (all_right NotMissing (flat_map (λ pair. id_differences ids reference pair.0) ids) _ all) in
      unless NotMissing (id_differences ids reference id) (is_some (find ids id)) (ap is_some mine) listed

pub nothing_missing : {F : Type 0} → NothingMissingAnswersAll F
nothing_missing ids reference all id attr target =
    by_meanings ids reference id attr (find ids id) (find reference id)
    (fine_by ids reference id all (find ids id) (find reference id) refl refl target.0 attr target.1) target.0 target.1
