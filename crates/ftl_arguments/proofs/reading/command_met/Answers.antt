use Rattle.std.proofs.Common.{Some, ◌≡◌, rules}
use Rattle.clap.specs.Words.{subcommand_rows_of}
use Rattle.ftl_arguments.specs.CommandView.{found_rows}
use Rattle.ftl_arguments.proofs.reading.command_met.Goals as goal

pub returns-in-Some-clause-command : goal.returns-in-Some-clause-command
returns-in-Some-clause-command c =
    let is : subcommand_rows_of c.args.matches.now ≡ Some (c.in-Some.name.now, found_rows c.in-Some.found.now) =
    search rules in
    rw is c.command_named.ensures.command

pub returns-in-Some-clause-nothing : goal.returns-in-Some-clause-nothing
returns-in-Some-clause-nothing c =
    let is : subcommand_rows_of c.args.matches.now ≡ Some (c.in-Some.name.now, found_rows c.in-Some.found.now) =
    search rules in
    rw is c.command_named.ensures.nothing
