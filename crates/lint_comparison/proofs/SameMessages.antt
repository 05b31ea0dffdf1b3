-- Messages with the same attributes.
use Rattle.std.proofs.Common.{◌≡◌, ◌∙◌, suc, Bool, true, false, ◌&&◌, ◌||◌, List, [], ◌∷◌, length, refl, ap}
use Rattle.std.specs.Str.{bytes_eq}
use Rattle.lint_findings.specs.Comparison.{same_attributes}
use Rattle.fluent_grammar.specs.Tree as t
use Rattle.fluent_meaning.specs.Same.{same_elements}

or_false : (b : Bool) → (b || false) ≡ b
or_false true = refl
or_false false = refl

-- attributes of the same name and value
abbrev pub same_attribute : t.Attribute → t.Attribute → Bool
same_attribute a b = bytes_eq b.id a.id && same_elements a.value b.value

and_assoc : (a b c : Bool) → (a && (b && c)) ≡ ((a && b) && c)
and_assoc true b c = refl
and_assoc false b c = refl

step : (a b : t.Attribute) (as' bs : List t.Attribute) → same_attributes (a ∷ as') (b ∷ bs) ≡ (same_attribute a b && same_attributes as' bs)
step a b as' bs = ap (λ d. d && (same_elements a.value b.value && same_attributes as' bs)) (or_false (bytes_eq b.id a.id)) ∙ and_assoc (bytes_eq b.id a.id) (same_elements a.value b.value) (same_attributes as' bs)

-- lists of different length
pub differ_in_length : (as' bs : List t.Attribute) → (length as' ≡ length bs → ⊥) → same_attributes as' bs ≡ false
differ_in_length [] [] h = absurd (h refl)
differ_in_length [] (b ∷ bs) h = refl
differ_in_length (a ∷ as') [] h = refl
differ_in_length (a ∷ as') (b ∷ bs) h = step a b as' bs ∙ ap (λ d. same_attribute a b && d) (differ_in_length as' bs (λ e. h (ap suc e))) ∙ and_false (same_attribute a b)
  where
    and_false : (b : Bool) → (b && false) ≡ false
    and_false true = refl
    and_false false = refl
