-- The findings of differences, one after the other.
use Rattle.std.proofs.Common.{◌≡◌, ◌∙◌, ℕ, ◌+◌, ◌<◌, List, [], ◌∷◌, ◌++◌, length, map, take, get_or, ap, sym}
use Rattle.std.proofs.lemmas.List.{map-append}
use Rattle.fluent_ast.proofs.Copied.{map-take_more}
use Rattle.lint_findings.specs.DifferenceView.{difference_view}
use Rattle.lint_findings.specs.declared.difference.Difference.{Difference}
use Rattle.lint_findings.specs.View.{finding_view}
use Rattle.lint_findings.specs.declared.records.Finding.{Finding}
use Rattle.lint_findings.specs.ComparisonFindings.{difference_finding}
use Rattle.fluent_grammar.specs.Words.{Text}
use Rattle.lint_comparison.proofs.LackedNames.{any_default}

pub next_finding : (source id s : Text) (known : List Text) (ds : List Difference) (i : ℕ) (default : Difference) → i < length ds → (old new : List Finding) (one : Finding) → new ≡ old ++ one ∷ [] →
    finding_view one ≡ difference_finding source id s known (difference_view (get_or ds i default)) → map finding_view old ≡ map (difference_finding source id s known) (map difference_view (take i ds)) →
    map finding_view new ≡ map (difference_finding source id s known) (map difference_view (take (i + 1) ds))
next_finding source id s known ds i default inside old new one added made before =
    let finding = difference_finding source id s known in
    let item = get_or ds i default in
    ap (map finding_view) added ∙ map-append finding_view old (one ∷ []) ∙ ap (λ xs. xs ++ finding_view one ∷ []) before ∙ ap (λ x. map finding (map difference_view (take i ds)) ++ x ∷ []) made
    ∙ sym (map-append finding (map difference_view (take i ds)) (difference_view item ∷ [])) ∙ ap (map finding) (sym (map-take_more difference_view ds i item inside (any_default ds i default item inside)))
