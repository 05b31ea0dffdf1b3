use Rattle.std.proofs.Common.{Some, ap, subst, ◌∙◌}
use Rattle.std.specs.Prelude.{option_copied}
use Rattle.fluent_answers.specs.Answers.{pattern_asked}
use Rattle.fluent_calls.specs.Outcomes.{IsOutcomeOf}
use Rattle.fluent_run.specs.Dated.{dated_view}
use Rattle.fluent_kept.specs.Catalogs.{calling_in}
use Rattle.fluent_kept.proofs.Calling.{reply-said}
use Rattle.fluent_kept.proofs.desk.called.Goals as goal

pub returns-in-Ok-Some-Text : goal.returns-in-Ok-Some-Text
returns-in-Ok-Some-Text g c =
    let env = calling_in c.args.made.now (dated_view c.args.answers.now) in
    let it = c.in-Ok-Some-Text in
    reply-said env (g.A.Lookup.arguments c.args.arguments.now) (pattern_asked (option_copied c.args.attribute) (env.find c.args.id.now)) it.reply
    (subst (λ outcome. IsOutcomeOf env c.args.id.now c.args.attribute (g.A.Lookup.arguments c.args.arguments.now) c.args.answers.now outcome) (it.field-0-is ∙ ap Some it.field-0-0-is) it.ensures)
