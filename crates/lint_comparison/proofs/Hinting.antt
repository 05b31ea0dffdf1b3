-- The hints of differences, by the names that are listed.
use Rattle.std.proofs.Common.{◌≡◌, ◌∙◌, ℕ, ◌-◌, Bool, List, [], ◌∷◌, length, Option, None, String, refl, ap, sym, Bor}
use Rattle.std.specs.Global.{Global}
use Rattle.lint_findings.specs.DifferenceView.{difference_view, finding_at}
use Rattle.lint_findings.specs.declared.difference.Difference as code
use Rattle.lint_findings.specs.declared.difference.Difference.TheVariants as of
use Rattle.lint_findings.specs.Comparison.{Difference}
use Rattle.lint_findings.specs.ComparisonFindings.{difference_at, difference_finding, difference_hint}
use Rattle.lint_findings.specs.NearNames.{nearest_hint}
use Rattle.fluent_grammar.specs.Words.{Text, dollar, is_among}
use Rattle.lint_nodes.specs.HasNames.{is_in_set}
use Rattle.lint_nodes.specs.declared.name_set.Names.{Names}
use Rattle.lint_comparison.specs.Hinted.{IsHintBy, IsVariableHint}

-- by the names of the set it is the hint by those that are listed
pub variable_hinted : (names : Names) (d : code.Difference) (name : Bor Text) (hint : Option (String Global)) → d ≡ of.UnknownVariable name → IsVariableHint names name.now hint → IsHintBy names (difference_view d) hint
variable_hinted names d name hint is hinted = λ known has.
    let listed : nearest_hint (dollar ∷ []) (is_in_set names) name.now ≡ nearest_hint (dollar ∷ []) (λ x. is_among x known) name.now =
    ap (λ (f : Text → Bool). nearest_hint (dollar ∷ []) f name.now) (λ i. λ x. has.known x i) in
    hinted ∙ listed ∙ sym (ap (λ x. difference_hint known (difference_view x)) is)

-- no other difference has one
pub no_hint : (names : Names) (d : code.Difference) → ((name : Bor Text) → d ≡ of.UnknownVariable name → ⊥) → IsHintBy names (difference_view d) None
no_hint names of.MissingMessage other = λ known has. refl
no_hint names of.ObsoleteMessage other = λ known has. refl
no_hint names of.MissingValue other = λ known has. refl
no_hint names of.ObsoleteValue other = λ known has. refl
no_hint names (of.MissingAttribute name) other = λ known has. refl
no_hint names (of.ObsoleteAttribute name) other = λ known has. refl
no_hint names (of.UnknownVariable name) other = absurd (other name refl)
no_hint names (of.MissingVariable name) other = λ known has. refl
no_hint names (of.UnusedVariable name) other = λ known has. refl
no_hint names of.Untranslated other = λ known has. refl

-- a finding at the place of a difference, with its hint
pub hinted_finding : (source id s : Text) (known : List Text) (d : Difference) (at : Text) (offset : ℕ) (hint : Option Text) → offset ≡ length source - length at → at ≡ difference_at s d → hint ≡ difference_hint known d →
    finding_at offset id hint d ≡ difference_finding source id s known d
hinted_finding source id s known d at offset hint placed is hinted =
    ap (λ (n : ℕ). finding_at n id hint d) (placed ∙ ap (λ (t : Text). length source - length t) is)
    ∙ ap (λ (h : Option Text). finding_at (length source - length (difference_at s d)) id h d) hinted
