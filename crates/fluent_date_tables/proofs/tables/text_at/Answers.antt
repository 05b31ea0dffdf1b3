use Rattle.std.proofs.Common.{◌≡◌, ap, ◌∙◌}
use Rattle.fluent_date_tables.proofs.Steps.{list_there, list_past}
use Rattle.fluent_date_tables.proofs.tables.text_at.Goals as goal

pub returns-in-Some : goal.returns-in-Some
returns-in-Some c =
    let there = c.in-Some.ensures.lookup in
    ap (λ list. list.now) there.1 ∙ list_there c.args.texts.now c.args.at c.in-Some.text.now there.3.0

pub returns-in-None : goal.returns-in-None
returns-in-None c = list_past c.args.texts.now c.args.at c.in-None.ensures.lookup.3
