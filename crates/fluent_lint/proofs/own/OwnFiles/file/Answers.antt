use Rattle.std.proofs.Common.{◌≡◌, ◌∙◌, Bor, Option, Some, None, ap, option_map, refl}
use Rattle.std.specs.Option.{option_copied}
use Rattle.fluent_ids.specs.IdsView.{ids_view}
use Rattle.fluent_ids.specs.declared.ids.FluentIds.{FluentIds}
use Rattle.fluent_lint.specs.Own.{wide_view}
use Rattle.fluent_lint.proofs.ReferenceFiles.{own_at, wide_at}
use Rattle.fluent_lint.proofs.own.OwnFiles.file.Goals as goal

pub returns-clause-own : goal.returns-clause-own
returns-clause-own c =
    let both = own_at c.args.self.now c.requires.own c.args.index c.index.result.now c.index-2.result.now c.requires.within c.index.ensures c.index-2.ensures in
    record { tiles = both.0; ids = both.1 }

lent_view : (lent : Option (Bor (FluentIds (Unit {0})))) → option_map (λ (ids : Bor (FluentIds (Unit {0}))). ids_view (Unit {0}) ids.now) lent ≡ wide_view (option_copied lent)
lent_view None = refl
lent_view (Some ids) = refl

pub returns-clause-wide : goal.returns-clause-wide
returns-clause-wide c =
    lent_view c.as_ref.result
    ∙ ap wide_view c.as_ref.ensures.value
    ∙ wide_at c.args.self.now c.requires.own c.args.index c.index.result.now c.index-3.result.now c.requires.within c.index.ensures c.index-3.ensures
