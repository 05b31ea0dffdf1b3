-- The patterns of a path: the first one, which stands apart, and the others.
use Rattle.std.proofs.Common.{◌≡◌, Bool, true, false, List, [], ◌∷◌, Option, Some, None, map, refl, ap, sym, ◌∙◌, Decides}
use Rattle.std.specs.Prelude.{◌||◌}
use Rattle.fluent_grammar.specs.Tree.{Elements}
use Rattle.fluent_meaning.proofs.OnPath.{on-path-next}
use Rattle.fluent_meaning.specs.Same.{same_elements}
use Rattle.fluent_meaning.specs.Substitution.{is_on_path}
use Rattle.fluent_progress.specs.Views.{with_first}

or-nothing : (b c : Bool) → ((b || false) || c) ≡ (b || c)
or-nothing true c = refl
or-nothing false c = refl

alone : (b : Bool) → b ≡ (b || false)
alone true = refl
alone false = refl

module _ {A : Type 0} (view : A → Elements) (es : Elements) where
  -- a pattern is the first one, or it is one of the others
  first-or-among : (first : Option A) (rest : List A) → is_on_path es (map view (with_first first rest)) ≡ (is_on_path es (map view (with_first first [])) || is_on_path es (map view rest))
  first-or-among None rest = refl
  first-or-among (Some x) rest = sym (or-nothing (same_elements es (view x)) (is_on_path es (map view rest)))

  pub is-first : (first : Option A) (rest : List A) → is_on_path es (map view (with_first first [])) ≡ true → is_on_path es (map view (with_first first rest)) ≡ true
  is-first first rest h = first-or-among first rest ∙ ap (λ b. b || is_on_path es (map view rest)) h

  pub not-first : (first : Option A) (rest : List A) → is_on_path es (map view (with_first first [])) ≡ false → is_on_path es (map view (with_first first rest)) ≡ is_on_path es (map view rest)
  not-first first rest h = first-or-among first rest ∙ ap (λ b. b || is_on_path es (map view rest)) h

  -- by any test that decides whether two patterns are equal
  pub alone-first : (x : A) (b : Bool) → Decides b (view x ≡ es) → b ≡ is_on_path es (map view (x ∷ []))
  alone-first x b d = alone b ∙ sym (on-path-next b es (view x) [] d)
