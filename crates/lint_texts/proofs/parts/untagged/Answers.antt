use Rattle.std.proofs.Common.{◌≡◌, ◌∙◌, List, ℕ, IfOk, map, string_bytes, ap, subst, Bor}
use Rattle.std.specs.List.{flat_map}
use Rattle.fluent_grammar.specs.Words.{Text}
use Rattle.lint_texts.proofs.PartSteps.{joined_is}
use Rattle.lint_texts.proofs.parts.untagged.Goals as goal

pub returns : goal.returns
returns c =
    let same = joined_is c.deref.result.now ∙ ap (λ xs. flat_map (λ part. part) (map (λ (x : Bor Text). x.now) xs)) c.deref.ensures.value ∙ ap (flat_map (λ part. part)) c.in_ok-parts.ensures in
    subst (λ (x : List ℕ). IfOk c.joined.result (λ plain. string_bytes plain ≡ x)) same c.joined.ensures
