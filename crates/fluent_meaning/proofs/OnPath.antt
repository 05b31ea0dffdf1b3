-- A pattern is on the path exactly where it is one of the path's patterns, whatever test compares them.
use Rattle.std.proofs.Common.{◌≡◌, Bool, List, ◌∷◌, refl, ap, sym, ◌∙◌, Decides}
use Rattle.std.specs.Prelude.{◌||◌}
use Rattle.std.specs.Cmp.{IsEquivalence}
use Rattle.std.specs.List.{Contains}
use Rattle.std.proofs.lemmas.Bool.Decides.{same_from_decides}
use Rattle.std.proofs.lemmas.Map.Views.{Contains-from_any, list_any-from_Contains}
use Rattle.fluent_grammar.specs.Tree.{Elements}
use Rattle.fluent_meaning.specs.Same.{same_elements}
use Rattle.fluent_meaning.specs.Substitution.{is_on_path}
use Rattle.fluent_meaning.proofs.SameDecides.{elements-decides}

-- a test that decides whether two patterns are equal is the test of the definitions
pub compared-is : (b : Bool) (es fs : Elements) → Decides b (es ≡ fs) → b ≡ same_elements es fs
compared-is b es fs d = same_from_decides b (same_elements es fs) d (elements-decides es fs)

pub same-turned : (es fs : Elements) → same_elements es fs ≡ same_elements fs es
same-turned es fs = compared-is (same_elements es fs) fs es ((λ h. sym ((elements-decides es fs).0 h)), (λ p. (elements-decides es fs).1 (sym p)))

pub same-equivalence : IsEquivalence same_elements
same-equivalence = record {
  refl = λ es. (elements-decides es es).1 refl;
  symm = same-turned;
  congr = λ es fs gs h. ap (λ x. same_elements x gs) ((elements-decides es fs).0 h);
}

-- the path's first pattern, compared by any such test, and then the others
pub on-path-next : (b : Bool) (es x : Elements) (path : List Elements) → Decides b (x ≡ es) → is_on_path es (x ∷ path) ≡ (b || is_on_path es path)
on-path-next b es x path d = ap (λ c. c || is_on_path es path) (same-turned es x ∙ sym (compared-is b x es d))

pub on-path-decides : (es : Elements) (path : List Elements) → Decides (is_on_path es path) (Contains path es)
on-path-decides es path = (Contains-from_any (λ x y. (elements-decides x y).0) es path, list_any-from_Contains same-equivalence es path)
