use Rattle.std.proofs.Common.{rules}
use Rattle.ftl_command.proofs.Refusals.{of_files}
use Rattle.ftl_command.proofs.checking.report_on.Goals as goal

pub returns-in_err-texts-clause-fault : goal.returns-in_err-texts-clause-fault
returns-in_err-texts-clause-fault g c = search (rules, of_files)
