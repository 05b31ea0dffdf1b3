use Rattle.std.proofs.Common.{subst}
use Rattle.fluent_dates.specs.Items.{items_of}
use Rattle.fluent_dates.specs.Written.{Adds}
use Rattle.fluent_dates.proofs.Streamed.{field_alone}
use Rattle.fluent_dates.proofs.streaming.Writing.push.Goals as goal

pub returns-then-field-ne66 : goal.returns-then-field-ne66
returns-then-field-ne66 c =
    let w = c.args.self.now in
    let same = field_alone w.row.now w.value.now (items_of w.pattern.now) c.args.field c.if-field-ne66.true in
    subst (λ text. Adds c.push_field.result c.args.text.now c.push_field.new.text text) same c.push_field.ensures
