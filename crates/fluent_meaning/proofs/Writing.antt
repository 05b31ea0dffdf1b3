-- One step written after another, and a pattern's elements one after another.
use Rattle.std.proofs.Common.{◌≡◌, ℕ, ◌+◌, List, [], ◌∷◌, ◌++◌, map, Option, Some, None, option_map, refl, ap, sym, ◌∙◌, arith, append_assoc, append-nil}
use Rattle.std.proofs.lemmas.List.{map-append}
use Rattle.fluent_grammar.specs.Words.{Text}
use Rattle.fluent_grammar.specs.Tree as t
use Rattle.fluent_grammar.specs.Tree.{Elements, Expression}
use Rattle.fluent_errors.specs.Errors.{Unresolved, Reported, unresolved}
use Rattle.fluent_ast.specs.View.{Element, text, placeable, elements_of}
use Rattle.fluent_meaning.specs.Environment.{Environment}
use Rattle.fluent_meaning.specs.Steps.{Budget, shut, Done, done, and_then, mapped, beside}
use Rattle.fluent_meaning.specs.Substitution as s
use Rattle.fluent_meaning.specs.Substitution.{Surroundings, Writer}
use Rattle.fluent_meaning.specs.Told.{State, Writes, after, capped, in_byte}
use Rattle.fluent_meaning.specs.Work.{times_too_many}
use Rattle.fluent_meaning.proofs.ToldOnce.{times-append}

capped-capped : (a b c : ℕ) → capped (capped (a + b) + c) ≡ capped (a + (b + c))
capped-capped a b c = omega arith

byte-byte : (p m n k l e : ℕ) → e ≡ k + l → in_byte (in_byte (p + (m + k)) + (n + l)) ≡ in_byte (p + ((m + n) + e))
byte-byte p m n k l e h = omega (arith, h)

bytes-then : (p m n : ℕ) (xs ys : List Unresolved) → in_byte (in_byte (p + (m + times_too_many xs)) + (n + times_too_many ys)) ≡ in_byte (p + ((m + n) + times_too_many (xs ++ ys)))
bytes-then p m n xs ys = byte-byte p m n (times_too_many xs) (times_too_many ys) (times_too_many (xs ++ ys)) (times-append xs ys)

pub told-told : (o : Option (List Reported)) (xs ys : List Unresolved) → option_map (λ es. es ++ map unresolved ys) (option_map (λ es. es ++ map unresolved xs) o) ≡ option_map (λ es. es ++ map unresolved (xs ++ ys)) o
told-told None xs ys = refl
told-told (Some es) xs ys = ap Some (append_assoc es (map unresolved xs) (map unresolved ys) ∙ ap (λ z. es ++ z) (sym (map-append unresolved xs ys)))

-- a step after another
pub after-then : {A B : Type 0} (s : State) (a : Done A) (f : A → Budget → Done B) → after (after s a) (f a.value a.budget) ≡ after s (and_then a f)
after-then s a f = let b = f a.value a.budget in λ i. record {
  errors = told-told s.errors a.errors (f a.value a.budget).errors i;
  budget = (f a.value a.budget).budget;
  placeables = bytes-then s.placeables a.opened b.opened a.errors b.errors i;
  entered = capped-capped s.entered a.entered (f a.value a.budget).entered i;
}

pub writes-then : {x y z : Text} {s t u : State} (f g : Budget → Done Text) → Writes x y s t f → Writes y z t u g → Writes x z s u (λ b. beside (f b) g)
writes-then {x = x} {y = y} {s = s} f g p q =
    let same = ap (λ (r : State). r.budget) p.state in record {
      text = q.text ∙ ap (λ b. y ++ (g b).value) same ∙ ap (λ y. y ++ (g (f s.budget).budget).value) p.text ∙ append_assoc x (f s.budget).value (g (f s.budget).budget).value;
      state = q.state ∙ ap (λ r. after r (g r.budget)) p.state ∙ after-then s (f s.budget) (λ v b. mapped (λ r. v ++ r) (g b));
    }

-- the same step, said otherwise
pub writes-as : {x y : Text} {s t : State} (f g : Budget → Done Text) → f s.budget ≡ g s.budget → Writes x y s t f → Writes x y s t g
writes-as {x = x} {s = s} f g e p = record { text = p.text ∙ ap (λ d. x ++ d.value) e; state = p.state ∙ ap (λ d. after s d) e }

beside-assoc : (a : Done Text) (f g : Budget → Done Text) → beside (beside a f) g ≡ beside a (λ b. beside (f b) g)
beside-assoc a f g = λ i. record {
  value = append_assoc a.value (f a.budget).value (g (f a.budget).budget).value i;
  errors = append_assoc a.errors (f a.budget).errors (g (f a.budget).budget).errors i;
  budget = (g (f a.budget).budget).budget;
  opened = plus_assoc a.opened (f a.budget).opened (g (f a.budget).budget).opened i;
  entered = plus_assoc a.entered (f a.budget).entered (g (f a.budget).budget).entered i;
}
  where
    plus_assoc : (a b c : ℕ) → (a + b) + c ≡ a + (b + c)
    plus_assoc a b c = omega arith

-- a step that writes nothing, before another
pub beside-done : (b : Budget) (g : Budget → Done Text) → beside (done [] b) g ≡ g b
beside-done b g = λ i. record { value = (g b).value; errors = (g b).errors; budget = (g b).budget; opened = zero_plus (g b).opened i; entered = zero_plus (g b).entered i }
  where
    zero_plus : (n : ℕ) → 0 + n ≡ n
    zero_plus n = omega arith

module _ {S F : Type 0} (env : Environment S F) (write : Writer env Expression) (whole : Elements) (place : Surroundings S) where
  -- the elements after others
  pub elements-append : (xs ys : List Element) (b : Budget) → s.elements_with env write whole (elements_of (xs ++ ys)) place b ≡ beside (s.elements_with env write whole (elements_of xs) place b) (λ c. s.elements_with env write whole (elements_of ys) place c)
  unfolding s.elements_with
  elements-append [] ys b = sym (beside-done b (λ c. s.elements_with env write whole (elements_of ys) place c))
  elements-append (text x ∷ xs) ys b =
      ap (λ d. and_then (s.text_written env x b) (λ v c. mapped (λ r. v ++ r) d)) (elements-append xs ys (s.text_written env x b).budget)
      ∙ sym (beside-assoc (s.text_written env x b) (λ c. s.elements_with env write whole (elements_of xs) place c) (λ c. s.elements_with env write whole (elements_of ys) place c))
  elements-append (placeable e ∷ xs) ys b =
      ap (λ d. and_then (s.placeable_with env write whole e place b) (λ v c. mapped (λ r. v ++ r) d)) (elements-append xs ys (s.placeable_with env write whole e place b).budget)
      ∙ sym (beside-assoc (s.placeable_with env write whole e place b) (λ c. s.elements_with env write whole (elements_of xs) place c) (λ c. s.elements_with env write whole (elements_of ys) place c))

  -- once shut, nothing more is written
  pub elements-shut : (es : Elements) → s.elements_with env write whole es place shut ≡ done [] shut
  unfolding s.elements_with
  elements-shut t.no_elements = refl
  elements-shut (t.text x es) = beside-done shut (λ c. s.elements_with env write whole es place c) ∙ elements-shut es
  elements-shut (t.placeable e es) = beside-done shut (λ c. s.elements_with env write whole es place c) ∙ elements-shut es

  pub beside-shut : (a : Done Text) (es : Elements) → a.budget ≡ shut → beside a (λ c. s.elements_with env write whole es place c) ≡ a
  beside-shut a es h =
      ap (λ d. and_then a (λ v c. mapped (λ r. v ++ r) d)) (ap (s.elements_with env write whole es place) h ∙ elements-shut es)
      ∙ (λ i. record { value = append-nil a.value i; errors = append-nil a.errors i; budget = sym h i; opened = plus_zero a.opened i; entered = plus_zero a.entered i })
    where
      plus_zero : (n : ℕ) → n + 0 ≡ n
      plus_zero n = omega arith
