use Rattle.std.proofs.Common.{◌∙◌, ap, false, subst, true, IfOk, List}
use denote.Ref.{Bor}
use Rattle.fluent_answers.specs.Sources.{Settings}
use Rattle.fluent_grammar.specs.Words.{Text}
use Rattle.fluent_run.specs.RunView.{no_text}
use Rattle.fluent_serve.specs.Texts.{texts}
use Rattle.fluent_value.specs.declared.function.NoFunction.{NoFunction}
use Rattle.ftl_arguments.specs.CommandView.{format_view}
use Rattle.ftl_command.proofs.DatesSet.{found-dated, with-date, without-date}
use Rattle.ftl_command.specs.Dated.{settings_for}
use Rattle.ftl_command.specs.FormatView.{IsWrittenAs, request_of}
use Rattle.ftl_command.specs.Plurals.{category_in, rules_view}
use Rattle.ftl_command.specs.Shown.{reply_asked}
use Rattle.ftl_command.proofs.formatting.formatted_from.Goals as goal

pub returns-then-has_date : goal.returns-then-has_date
returns-then-has_date c =
    let is = found-dated c.args.format.now.arguments.items c.deref.result.now c.has_date.result true c.has_date.ensures c.deref.ensures.value c.if-has_date.true in
    subst (λ reply. IfOk c.format_dated.result (IsWrittenAs reply)) (with-date (rules_view c.args.rules.now) (format_view c.args.format.now) (texts c.args.sources.now) is)
    c.format_dated.ensures

pub returns : goal.returns
returns c =
    let f = format_view c.args.format.now in
    let by = rules_view c.args.rules.now in
    let is = found-dated c.args.format.now.arguments.items c.deref.result.now c.has_date.result false c.has_date.ensures c.deref.ensures.value c.if-has_date.false in
    let asked = λ (settings : Settings) (arguments : List (Bor Text × Bor Text)).
    reply_asked NoFunction (category_in by.plurals) no_text settings (texts c.args.sources.now) (request_of f.request.id c.args.format.now.attribute arguments) in
    let same = ap (λ s. asked s c.deref-2.result.now) c.settings_of.ensures
    ∙ ap (asked (settings_for by f)) c.deref-2.ensures.value
    ∙ without-date by f (texts c.args.sources.now) is in
    subst (λ reply. IfOk c.format_message.result (IsWrittenAs reply)) same c.format_message.ensures
