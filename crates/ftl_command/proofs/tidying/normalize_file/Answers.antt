use Rattle.std.proofs.Common.{rules}
use Rattle.ftl_command.proofs.Refusals.{of_files, of_normalize}
use Rattle.ftl_command.proofs.tidying.normalize_file.Goals as goal

pub returns-in_err-source-clause-fault : goal.returns-in_err-source-clause-fault
returns-in_err-source-clause-fault g c = search (rules, of_files)

pub returns-clause-fault : goal.returns-clause-fault
returns-clause-fault g c = search (rules, of_normalize)
