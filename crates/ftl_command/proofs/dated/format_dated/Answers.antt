use Rattle.std.proofs.Common.{◌∙◌, [], ap, subst, IfOk, List}
use denote.Ref.{Bor}
use Rattle.std.specs.List.{flat_map}
use Rattle.fluent_grammar.specs.Words.{Text}
use Rattle.fluent_serve.specs.RequestView.{arguments_view}
use Rattle.fluent_serve.specs.Texts.{texts}
use Rattle.fluent_value.specs.Args.{all_set}
use Rattle.ftl_arguments.specs.CommandView.{format_view}
use Rattle.ftl_command.specs.Dated.{values_of}
use Rattle.ftl_command.specs.FormatView.{IsWrittenAs}
use Rattle.ftl_command.specs.Plurals.{rules_view}
use Rattle.ftl_command.proofs.DatesSet.{dated-reply}
use Rattle.ftl_command.proofs.dated.format_dated.Goals as goal

pub returns : goal.returns
returns c =
    let given = c.in_ok-values.ensures
    ∙ ap (λ (given : List (Bor Text × Bor Text)). all_set [] (flat_map values_of (arguments_view given))) c.deref.ensures.value in
    let same = dated-reply (rules_view c.args.rules.now) (format_view c.args.format.now) (texts c.args.sources.now) c.settings_of.ensures c.dates_of.ensures given in
    subst (λ reply. IfOk c.written.result (IsWrittenAs reply)) (c.in_ok-reply.ensures ∙ same) c.written.ensures
