use Rattle.std.proofs.Common.{codes}
use Rattle.ftl_arguments.specs.Commands.{option_rule, project_rules, shaped}
use Rattle.ftl_arguments.proofs.program.explaining.Goals as goal

pub returns : goal.returns
returns c =
    let begun = shaped (codes "lint") project_rules in
    c.with_argument.ensures begun (option_rule (codes "explain")) c.in_project.ensures c.explained.ensures
