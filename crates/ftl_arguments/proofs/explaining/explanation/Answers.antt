use Rattle.std.proofs.Common.{Some, ◌≡◌, rules}
use Rattle.clap.specs.Words.{subcommand_rows_of}
use Rattle.ftl_arguments.specs.CommandView.{found_rows}
use Rattle.ftl_arguments.proofs.explaining.explanation.Goals as goal

pub returns-in-Some : goal.returns-in-Some
returns-in-Some c =
    let is : subcommand_rows_of c.args.matches.now ≡ Some (c.in-Some.name.now, found_rows c.in-Some.found.now) =
    search rules in
    rw is c.explanation_by.ensures
