use Rattle.std.proofs.Common.{rules}
use Rattle.std.proofs.lemmas.List.Sorted.{answers_always, IsNonDecreasingBy-from_sort}
use Rattle.std.proofs.lemmas.Result.{on_ok_weaker}
use Rattle.lint_findings.specs.declared.records.Finding.{Finding}
use Rattle.fluent_lint.proofs.InOrder.{in_order-from_sort}
use Rattle.fluent_lint.proofs.reported.order.Goals as goal

pub returns : goal.returns
returns c =
    let keys = answers_always _ _ _ (λ f a r next called. search rules) in
    let stable = c.sort_by_key.ensures.stable (λ (f : Finding). f.offset) keys in
    on_ok_weaker c.sort_by_key.result
    (λ sorted. in_order-from_sort (λ (f : Finding). f.offset) _ _ (IsNonDecreasingBy-from_sort (λ (f : Finding). f.offset) _ (sorted (λ (f : Finding). f.offset) keys)) stable)
    c.sort_by_key.ensures.sorted
