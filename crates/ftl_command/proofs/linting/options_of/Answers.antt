use Rattle.std.proofs.Common.{List, ap}
use Rattle.fluent_grammar.specs.Words.{Text}
use Rattle.lint_findings.specs.Findings.{Options}
use Rattle.ftl_arguments.specs.Meaning.{texts}
use Rattle.ftl_command.proofs.linting.options_of.Goals as goal

pub returns : goal.returns
returns c =
    let with_functions : List Text → Options = λ functions. record { functions = functions; plurals = c.args.plurals } in
    ap (λ these. with_functions (texts these)) c.deref.ensures.value
