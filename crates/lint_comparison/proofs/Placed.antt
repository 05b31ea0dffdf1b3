-- Where a difference is, by the first places of the attributes and of the variables of its message.
use Rattle.std.proofs.Common.{◌≡◌, ◌∙◌, Option, Some, None, option_map, refl, ap, sym, Bor}
use Rattle.std.specs.Option.{unwrap_or}
use Rattle.std.specs.List.{flat_map}
use Rattle.lint_findings.specs.DifferenceView.{difference_view}
use Rattle.lint_findings.specs.declared.difference.Difference.{Difference}
use Rattle.lint_findings.specs.declared.difference.Difference.TheVariants as of
use Rattle.lint_findings.specs.ComparisonFindings.{difference_at, first_attribute_at, first_variable_at}
use Rattle.lint_findings.specs.Occurrences.{PatternPlace, entry_places, occurrences}
use Rattle.fluent_grammar.specs.Words.{Text}
use Rattle.lint_comparison.specs.HasPlaces.{HasPlacesOf}
use Rattle.lint_comparison.specs.HasFirstPlaces.{first_place_of}
use Rattle.lint_comparison.specs.declared.places.Places.{Places}
use Rattle.lint_comparison.proofs.PlacesAdded.{first_attribute, first_variable}

chosen : (place : Option (Bor Text)) (text result : Bor Text) (o : Option Text) → result ≡ unwrap_or place text → option_map (λ s. s.now) place ≡ o → result.now ≡ unwrap_or o text.now
chosen None text result None is e = ap (λ (z : Bor Text). z.now) is
chosen None text result (Some y) is e = absurd cc
chosen (Some x) text result None is e = absurd cc
chosen (Some x) text result (Some y) is e = let same : x.now ≡ y = cc in ap (λ (z : Bor Text). z.now) is ∙ same

module _ (places : Places) (d : Difference) (place : Option (Bor Text)) (text result : Bor Text) (has : HasPlacesOf places (entry_places text.now)) (is : result ≡ unwrap_or place text) where
  pub attribute_placed : (name : Bor Text) → d ≡ of.ObsoleteAttribute name → option_map (λ s. s.now) place ≡ first_place_of places.attributes name.now → result.now ≡ difference_at text.now (difference_view d)
  attribute_placed name e found =
      chosen place text result (first_attribute_at name.now (entry_places text.now)) is (found ∙ has.attributes_are name.now ∙ first_attribute name.now (entry_places text.now))
      ∙ sym (ap (λ x. difference_at text.now (difference_view x)) e)

  pub variable_placed : (name : Bor Text) → d ≡ of.UnknownVariable name → option_map (λ s. s.now) place ≡ first_place_of places.variables name.now → result.now ≡ difference_at text.now (difference_view d)
  variable_placed name e found =
      chosen place text result (first_variable_at name.now (flat_map (λ (p : PatternPlace). occurrences p.pattern_at) (entry_places text.now))) is (found ∙ has.variables_are name.now ∙ first_variable name.now (entry_places text.now))
      ∙ sym (ap (λ x. difference_at text.now (difference_view x)) e)

at_message : (d : Difference) (s : Text) → ((name : Bor Text) → d ≡ of.ObsoleteAttribute name → ⊥) → ((name : Bor Text) → d ≡ of.UnknownVariable name → ⊥) → difference_at s (difference_view d) ≡ s
at_message of.MissingMessage s attribute variable = refl
at_message of.ObsoleteMessage s attribute variable = refl
at_message of.MissingValue s attribute variable = refl
at_message of.ObsoleteValue s attribute variable = refl
at_message (of.MissingAttribute name) s attribute variable = refl
at_message (of.ObsoleteAttribute name) s attribute variable = absurd (attribute name refl)
at_message (of.UnknownVariable name) s attribute variable = absurd (variable name refl)
at_message (of.MissingVariable name) s attribute variable = refl
at_message (of.UnusedVariable name) s attribute variable = refl
at_message of.Untranslated s attribute variable = refl

pub message_placed : (d : Difference) (place : Option (Bor Text)) (text result : Bor Text) → result ≡ unwrap_or place text → place ≡ None → ((name : Bor Text) → d ≡ of.ObsoleteAttribute name → ⊥) →
    ((name : Bor Text) → d ≡ of.UnknownVariable name → ⊥) → result.now ≡ difference_at text.now (difference_view d)
message_placed d place text result is none no_attribute no_variable =
    chosen place text result None is (ap (option_map (λ s. s.now)) none) ∙ sym (at_message d text.now no_attribute no_variable)
