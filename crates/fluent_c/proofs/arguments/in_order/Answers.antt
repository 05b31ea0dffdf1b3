use Rattle.std.proofs.Common.{◌∙◌, ◌++◌, ap, rules, subst}
use Rattle.std.proofs.lemmas.Fn.{always_returns_same}
use Rattle.std.specs.List.Sorted.{IsStableByKey}
use Rattle.fluent_value.specs.Args.{order}
use Rattle.fluent_c.proofs.arguments.in_order.Goals as goal

pub returns-clause-in_order : goal.returns-clause-in_order
returns-clause-in_order c = c.in_ok-sort_by_key.ensures.sorted (λ a. a.name) (always_returns_same _ _ _ (λ a r f' k. (search rules, search rules)))

pub returns-clause-stable : goal.returns-clause-stable
returns-clause-stable c =
    let whole = c.in_ok-extend_from_slice.ensures.items ∙ ap (λ xs. xs ++ c.args.given.now) c.in_ok-sorted.ensures.items in
    subst (λ xs. IsStableByKey (λ a. a.name.now) order xs c.sort_by_key.new.self.items) whole
    (c.sort_by_key.ensures.stable (λ a. a.name) (always_returns_same _ _ _ (λ a r f' k. (search rules, search rules))))
