-- The patterns of a catalog by their names, once those of an id more were added.
use Rattle.std.proofs.Common.{◌≡◌, ◌∙◌, Bool, true, false, ◌&&◌, ◌||◌, if◌then◌else◌, List, [], ◌∷◌, ◌++◌, Option, Some, None, refl, ap, sym}
use Rattle.std.specs.List.{All, Contains}
use Rattle.std.specs.Str.{bytes_eq}
use Rattle.std.specs.Cmp.Lexicographic.{same_text}
use Rattle.std.specs.Prelude.{is_some}
use Rattle.std.proofs.lemmas.List.Folds.{list_any-append}
use Rattle.std.proofs.lemmas.List.Elements.{All-weaker, All-contains_itself}
use Rattle.std.proofs.lemmas.Map.Views.{list_any-from_Contains}
use Rattle.fluent_grammar.specs.Words.{Text, is_among}
use Rattle.fluent_grammar.specs.Tree as t
use Rattle.fluent_grammar.specs.Tree.{Elements}
use Rattle.fluent_meaning.specs.Ids.{Ids, Meaning, message, term, find, attribute_named}
use Rattle.fluent_meaning.specs.Substitution.{there_or, message_target, term_target}
use Rattle.fluent_meaning.proofs.OnPath.{same-equivalence}
use Rattle.fluent_errors.specs.Errors.{Unresolved}
use Rattle.fluent_value.specs.Matching.{same_bool}
use Rattle.lint_findings.specs.Endless.{all_patterns, meaning_patterns, is_pattern_among}
use Rattle.lint_findings.proofs.FlawlessCatalogs.{at_value}
use Rattle.lint_nodes.specs.Holding.{or_else, own_pattern, target_pattern, entered, entered_among, IsWhole}
use Rattle.lint_nodes.proofs.Held.{or_none}

or_false : (b : Bool) → (b || false) ≡ b
or_false true = refl
or_false false = refl

-- whether an id is one of some, or this one
pub among_more : (i : Text) (seen : List Text) (id : Text) → is_among i (seen ++ id ∷ []) ≡ (is_among i seen || bytes_eq id i)
among_more i seen id = list_any-append (λ other. bytes_eq other i) seen (id ∷ []) ∙ ap (λ b. is_among i seen || b) (or_false (bytes_eq id i))

there_pattern : (e : Unresolved) (o : Option Elements) → target_pattern (there_or e o) ≡ o
there_pattern e None = refl
there_pattern e (Some es) = refl

module _ (ids : Ids (Unit {0})) (seen : List Text) (id : Text) where
  among_true : (t : Bool) (i : Text) (a : Option Text) → is_among i (seen ++ id ∷ []) ≡ true → entered_among ids (seen ++ id ∷ []) t i a ≡ entered ids t i a
  among_true t i a e = ap (λ b. if b then entered ids t i a else None) e

  twice : (b : Bool) (o : Option Elements) → or_else (if b then o else None) o ≡ o
  twice true None = refl
  twice true (Some es) = refl
  twice false o = refl

  or_true : (b : Bool) → (b || true) ≡ true
  or_true true = refl
  or_true false = refl

  -- what an id names is added to what the ids before it name
  more_by : (x : Option Elements) (t : Bool) (i : Text) (a : Option Text) (c : Bool) → bytes_eq id i ≡ c → (c ≡ true → x ≡ entered ids t i a) → (c ≡ false → x ≡ None) →
      or_else (entered_among ids seen t i a) x ≡ entered_among ids (seen ++ id ∷ []) t i a
  more_by x t i a true e here there =
      ap (or_else (entered_among ids seen t i a)) (here refl) ∙ twice (is_among i seen) (entered ids t i a)
      ∙ sym (among_true t i a (among_more i seen id ∙ ap (λ b. is_among i seen || b) e ∙ or_true (is_among i seen)))
  more_by x t i a false e here there =
      ap (or_else (entered_among ids seen t i a)) (there refl) ∙ or_none (entered_among ids seen t i a)
      ∙ ap (λ b. if b then entered ids t i a else None) (sym (among_more i seen id ∙ ap (λ b. is_among i seen || b) e ∙ or_false (is_among i seen)))

  own_by : (s t : Bool) (own there : Option Elements) (c : Bool) → c ≡ true → (s ≡ t → own ≡ there) → (same_bool s t ≡ false → there ≡ None) → (if same_bool s t && c then own else None) ≡ there
  own_by true true own there true e same other = same refl
  own_by true false own there true e same other = sym (other refl)
  own_by false true own there true e same other = sym (other refl)
  own_by false false own there true e same other = same refl
  own_by s t own there false e same other = absurd cc

  off_by : (b c : Bool) (own : Option Elements) → c ≡ false → (if b && c then own else None) ≡ None
  off_by true true own e = absurd cc
  off_by true false own e = refl
  off_by false c own e = refl

  message_own : (m : t.Message) (o : Option (Meaning (Unit {0}))) → o ≡ Some (message m) → (a : Option Text) → own_pattern m.value m.attributes a ≡ target_pattern (message_target id a o)
  message_own m o e None = sym (ap (λ (x : Option (Meaning (Unit {0}))). target_pattern (message_target id None x)) e ∙ there_pattern _ m.value)
  message_own m o e (Some y) = sym (ap (λ (x : Option (Meaning (Unit {0}))). target_pattern (message_target id (Some y) x)) e ∙ there_pattern _ (attribute_named y m.attributes))

  term_own : (m : t.Term) (o : Option (Meaning (Unit {0}))) → o ≡ Some (term m) → (a : Option Text) → own_pattern (Some m.value) m.attributes a ≡ target_pattern (term_target id a o)
  term_own m o e None = sym (ap (λ (x : Option (Meaning (Unit {0}))). target_pattern (term_target id None x)) e)
  term_own m o e (Some y) = sym (ap (λ (x : Option (Meaning (Unit {0}))). target_pattern (term_target id (Some y) x)) e ∙ there_pattern _ (attribute_named y m.attributes))

  at_id : (P : Text → Type 0) (i : Text) → bytes_eq id i ≡ true → P id → P i
  at_id P i e h = rw (← same_text id i (sym e)) h

  -- a message of this id
  message_here : (m : t.Message) → find ids id ≡ Some (message m) → (t : Bool) (a : Option Text) → (if same_bool false t && true then own_pattern m.value m.attributes a else None) ≡ entered ids t id a
  message_here m found true a = sym (ap (λ (o : Option (Meaning (Unit {0}))). target_pattern (term_target id a o)) found)
  message_here m found false a = message_own m (find ids id) found a

  term_here : (m : t.Term) → find ids id ≡ Some (term m) → (t : Bool) (a : Option Text) → (if same_bool true t && true then own_pattern (Some m.value) m.attributes a else None) ≡ entered ids t id a
  term_here m found true a = term_own m (find ids id) found a
  term_here m found false a = sym (ap (λ (o : Option (Meaning (Unit {0}))). target_pattern (message_target id a o)) found)

  entry_more : (s : Bool) (v : Option Elements) (as' : List t.Attribute) → ((t : Bool) (a : Option Text) → (if same_bool s t && true then own_pattern v as' a else None) ≡ entered ids t id a) →
      (t : Bool) (i : Text) (a : Option Text) → or_else (entered_among ids seen t i a) (if same_bool s t && bytes_eq id i then own_pattern v as' a else None) ≡ entered_among ids (seen ++ id ∷ []) t i a
  entry_more s v as' here t i a =
      more_by (if same_bool s t && bytes_eq id i then own_pattern v as' a else None) t i a (bytes_eq id i) refl
      (λ e. ap (λ c. if same_bool s t && c then own_pattern v as' a else None) e ∙ at_id (λ j. (if same_bool s t && true then own_pattern v as' a else None) ≡ entered ids t j a) i e (here t a))
      (λ e. off_by (same_bool s t) (bytes_eq id i) (own_pattern v as' a) e)

  pub message_more : (m : t.Message) → find ids id ≡ Some (message m) → (t : Bool) (i : Text) (a : Option Text) →
      or_else (entered_among ids seen t i a) (if same_bool false t && bytes_eq id i then own_pattern m.value m.attributes a else None) ≡ entered_among ids (seen ++ id ∷ []) t i a
  message_more m found = entry_more false m.value m.attributes (message_here m found)

  pub term_more : (m : t.Term) → find ids id ≡ Some (term m) → (t : Bool) (i : Text) (a : Option Text) →
      or_else (entered_among ids seen t i a) (if same_bool true t && bytes_eq id i then own_pattern (Some m.value) m.attributes a else None) ≡ entered_among ids (seen ++ id ∷ []) t i a
  term_more m found = entry_more true (Some m.value) m.attributes (term_here m found)

  -- an id that names no pattern
  pub none_more : ((t : Bool) (a : Option Text) → entered ids t id a ≡ None) → (t : Bool) (i : Text) (a : Option Text) → entered_among ids seen t i a ≡ entered_among ids (seen ++ id ∷ []) t i a
  none_more none t i a =
      sym (or_none (entered_among ids seen t i a))
      ∙ more_by None t i a (bytes_eq id i) refl (λ e. sym (at_id (λ j. entered ids t j a ≡ None) i e (none t a))) (λ e. refl)

  -- if a pattern of this id is among those that were named, all are
  whole_by : (s : Bool) (v : Option Elements) (as' : List t.Attribute) → ((a : Option Text) → own_pattern v as' a ≡ entered ids s id a) → (c : Bool) (a b : Option Text) →
      is_some (if c then entered ids s id a else None) ≡ true → or_else (if c then entered ids s id b else None) (own_pattern v as' b) ≡ (if c then entered ids s id b else None)
  whole_by s v as' own true a b e = ap (or_else (entered ids s id b)) (own b) ∙ twice true (entered ids s id b)
  whole_by s v as' own false a b e = absurd cc

  pub message_whole : (m : t.Message) → find ids id ≡ Some (message m) → IsWhole false id m.value m.attributes (entered_among ids seen)
  message_whole m found a b = whole_by false m.value m.attributes (message_own m (find ids id) found) (is_among id seen) a b

  pub term_whole : (m : t.Term) → find ids id ≡ Some (term m) → IsWhole true id (Some m.value) m.attributes (entered_among ids seen)
  term_whole m found a b = whole_by true (Some m.value) m.attributes (term_own m (find ids id) found) (is_among id seen) a b

-- the patterns of what is found are among those of the ids
pub found_known : (ids : Ids (Unit {0})) (id : Text) (m : Meaning (Unit {0})) → find ids id ≡ Some m → All (λ es. is_pattern_among es (all_patterns ids) ≡ true) (meaning_patterns m)
found_known ids id m found =
    at_value (λ es. is_pattern_among es (all_patterns ids) ≡ true) meaning_patterns id m ids found
    (All-weaker (Contains (all_patterns ids)) (λ es. is_pattern_among es (all_patterns ids) ≡ true) (λ es c. list_any-from_Contains same-equivalence es (all_patterns ids) c) (all_patterns ids) (All-contains_itself (all_patterns ids)))
