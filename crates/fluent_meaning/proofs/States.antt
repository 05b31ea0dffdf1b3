-- Steps one after another, by the state before and after each.
use Rattle.std.proofs.Common.{◌≡◌, ℕ, ◌+◌, List, [], ◌++◌, map, Option, Some, None, option_map, refl, ap, sym, ◌∙◌, arith, append-nil}
use Rattle.fluent_grammar.specs.Words.{Text}
use Rattle.fluent_errors.specs.Errors.{Reported, unresolved}
use Rattle.fluent_meaning.specs.Steps.{Budget, Done, done, and_then, mapped}
use Rattle.fluent_meaning.specs.Told.{State, Writes, Finds, after, capped, in_byte}
use Rattle.fluent_meaning.proofs.Writing.{after-then}

-- counts that are within their range
pub record IsWithin (s : State) : Type 0 where
  pub placeables : in_byte s.placeables ≡ s.placeables
  pub entered : capped s.entered ≡ s.entered

byte_again : (n : ℕ) → in_byte (in_byte n) ≡ in_byte n
byte_again n = omega arith

capped_again : (n : ℕ) → capped (capped n) ≡ capped n
capped_again n = omega arith

none_more : (n : ℕ) → n + 0 ≡ n
none_more n = omega arith

none_of_both : (n : ℕ) → n + (0 + 0) ≡ n
none_of_both n = omega arith

pub nothing_told : (o : Option (List Reported)) → option_map (λ es. es ++ map unresolved []) o ≡ o
nothing_told None = refl
nothing_told (Some es) = ap Some (append-nil es)

-- each step leaves them so
pub after-within : {A : Type 0} (s : State) (a : Done A) → IsWithin (after s a)
after-within s a = record { placeables = byte_again _; entered = capped_again _ }

-- a step that does nothing
pub after-done : {A : Type 0} (v : A) (s : State) → IsWithin s → after s (done v s.budget) ≡ s
after-done v s h = λ i. record {
  errors = nothing_told s.errors i;
  budget = s.budget;
  placeables = (ap in_byte (none_of_both s.placeables) ∙ h.placeables) i;
  entered = (ap capped (none_more s.entered) ∙ h.entered) i;
}

-- a step that writes a text and does nothing else
pub writes-done : (x y v : Text) (s : State) (f : Budget → Done Text) → IsWithin s → f s.budget ≡ done v s.budget → y ≡ x ++ v → Writes x y s s f
writes-done x y v s f w e h = record {
  text = h ∙ ap (λ (d : Done Text). x ++ d.value) (sym e);
  state = sym (after-done {A = Text} v s w) ∙ ap (λ (d : Done Text). after s d) (sym e);
}

-- or nothing at all
pub writes-nothing : (x : Text) (s : State) (f : Budget → Done Text) → IsWithin s → f s.budget ≡ done [] s.budget → Writes x x s s f
writes-nothing x s f w e = writes-done x x [] s f w e (sym (append-nil x))

-- a step that finds a value and does nothing else
pub finds-done : {A : Type 0} (r v : A) (s : State) (f : Budget → Done A) → IsWithin s → f s.budget ≡ done v s.budget → r ≡ v → Finds r s s f
finds-done {A = A} r v s f w e h = record {
  value = h ∙ ap (λ (d : Done A). d.value) (sym e);
  state = sym (after-done {A = A} v s w) ∙ ap (λ (d : Done A). after s d) (sym e);
}

-- the same step, said otherwise
pub finds-as : {A : Type 0} {r : A} {s t : State} (f g : Budget → Done A) → f s.budget ≡ g s.budget → Finds r s t f → Finds r s t g
finds-as {s = s} f g e p = record { value = p.value ∙ ap (λ d. d.value) e; state = p.state ∙ ap (λ d. after s d) e }

module _ {A : Type 0} {x : A} {s t : State} (f : Budget → Done A) (p : Finds x s t f) where
  same_budget : t.budget ≡ (f s.budget).budget
  same_budget = ap (λ (r : State). r.budget) p.state

  next_same : {B : Type 0} (g : A → Budget → Done B) → g x t.budget ≡ g (f s.budget).value (f s.budget).budget
  next_same g = ap (λ c. g x c) same_budget ∙ ap (λ v. g v (f s.budget).budget) p.value

  both_after : {B : Type 0} (g : A → Budget → Done B) {u : State} → u ≡ after t (g x t.budget) → u ≡ after s (and_then (f s.budget) g)
  both_after g h = h ∙ ap (λ d. after t d) (next_same g) ∙ ap (λ r. after r (g (f s.budget).value (f s.budget).budget)) p.state ∙ after-then s (f s.budget) g

  -- a value, and then another by it
  pub finds-then : {B : Type 0} {y : B} {u : State} (g : A → Budget → Done B) → Finds y t u (g x) → Finds y s u (λ b. and_then (f b) g)
  finds-then g q = record { value = q.value ∙ ap (λ d. d.value) (next_same g); state = both_after g q.state }

  -- a value, and then a text by it
  pub finds-then-writes : {held now : Text} {u : State} (g : A → Budget → Done Text) → Writes held now t u (g x) → Writes held now s u (λ b. and_then (f b) g)
  finds-then-writes {held = held} g q = record { text = q.text ∙ ap (λ (d : Done Text). held ++ d.value) (next_same g); state = both_after g q.state }

  -- a value, changed
  pub finds-mapped : {B : Type 0} (h : A → B) → Finds (h x) s t (λ b. mapped h (f b))
  finds-mapped h = record { value = ap h p.value; state = p.state }

-- a text that was written to nothing is found
pub finds-written : {r : Text} {s t : State} (f : Budget → Done Text) → Writes [] r s t f → Finds r s t f
finds-written f p = record { value = p.text; state = p.state }
