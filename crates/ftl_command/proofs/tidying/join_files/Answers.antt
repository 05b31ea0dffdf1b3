use Rattle.std.proofs.Common.{rules}
use Rattle.ftl_command.proofs.Refusals.{of_clean, of_files}
use Rattle.ftl_command.proofs.tidying.join_files.Goals as goal

pub returns-in_err-texts-clause-fault : goal.returns-in_err-texts-clause-fault
returns-in_err-texts-clause-fault g c = search (rules, of_files)

pub returns-clause-fault : goal.returns-clause-fault
returns-clause-fault g c = search (rules, of_clean)
