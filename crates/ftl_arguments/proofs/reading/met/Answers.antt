use Rattle.std.proofs.Common.{◌≡◌, rules, true}
use Rattle.std.specs.Prelude.{is_some}
use Rattle.clap.specs.Words.{subcommand_rows_of}
use Rattle.ftl_arguments.specs.CommandView.{explained}
use Rattle.ftl_arguments.proofs.Explained.{unasked}
use Rattle.ftl_arguments.proofs.reading.met.Goals as goal

pub returns-in-Some-clause-met : goal.returns-in-Some-clause-met
returns-in-Some-clause-met c =
    let asked : is_some (explained c.args.matches.now) ≡ true = search rules in
    (unasked c.args.colours (subcommand_rows_of c.args.matches.now) asked, asked)
