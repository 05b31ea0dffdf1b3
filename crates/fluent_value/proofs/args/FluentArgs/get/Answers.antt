use Rattle.std.proofs.Common.{sym, ap, ◌∙◌, Some}
use Rattle.fluent_value.specs.ArgsNames.{name_of}
use Rattle.fluent_value.specs.View.{value_view}
use Rattle.fluent_value.proofs.Placed.{found, missing}
use Rattle.fluent_value.proofs.args.FluentArgs.get.Goals as goal

pub returns-in-Ok : goal.returns-in-Ok
returns-in-Ok g c =
    let args = c.args.self.now in
    ap (λ it. Some (value_view g.C.FluentType.meaning it.value)) c.index.ensures
    ∙ sym (found name_of (λ it. value_view g.C.FluentType.meaning it.value) c.args.name.now args.arguments.items c.in-Ok.index args.ascending c.in-Ok.ensures.range c.in-Ok.ensures.place c.index.result.now)

pub returns-in-Err : goal.returns-in-Err
returns-in-Err g c =
    sym (missing name_of (λ it. value_view g.C.FluentType.meaning it.value) c.args.name.now c.args.self.now.arguments.items c.in-Err.field-0 c.in-Err.ensures.place.0 c.in-Err.ensures.place.1)
