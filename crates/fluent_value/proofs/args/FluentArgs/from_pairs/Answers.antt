use Rattle.std.proofs.Common.{[], ◌∷◌, ◌++◌, ap, sym, subst, ◌∙◌}
use Rattle.std.specs.Iterator.{Yields}
use Rattle.fluent_value.specs.Args.{with_argument}
use Rattle.fluent_value.specs.ArgsView.{pair_view}
use Rattle.fluent_value.specs.ArgsSet.{ConvertsPair}
use Rattle.fluent_value.proofs.Map.{set_last, zip_last}
use Rattle.fluent_value.proofs.args.FluentArgs.from_pairs.Goals as goal

pub pairs-init : goal.pairs-init
pairs-init g c = ([], tt, c.new-args.ensures)

pub pairs-preserved : goal.pairs-preserved
pairs-preserved g c =
    let (before, converted, held) = c.pairs.invariant in
    let (pair, becomes, set) = c.in_ok-set.ensures.ok in
    (before ++ pair ∷ [], zip_last (ConvertsPair g.K.Into.converts g.V.Into.converts) c.pairs.yielded before _ pair converted becomes, set ∙ ap (with_argument _ _) held ∙ sym (set_last (pair_view g.C.FluentType.meaning) [] before pair))

pub returns : goal.returns
returns g c =
    let yields = subst (λ s. Yields g.I.Iterator.next_gives s c.pairs.yielded c.pairs.name-iterator) c.into_iter-name-iterator.ensures.into_iter_gives c.pairs.yielded_by in
    (c.pairs.yielded, (c.next.new.self, (c.pairs.name-iterator, yields, c.in-None.ensures.steps)), c.pairs.invariant)
