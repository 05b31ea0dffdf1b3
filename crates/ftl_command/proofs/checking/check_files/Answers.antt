use Rattle.std.proofs.Common.{rules}
use Rattle.ftl_command.proofs.Refusals.{of_output, text_cut, text_unwritten}
use Rattle.ftl_command.proofs.checking.check_files.Goals as goal

pub returns-in_err-report-clause-stops : goal.returns-in_err-report-clause-stops
returns-in_err-report-clause-stops g c = search (rules, text_unwritten)

pub returns-in_err-write_to_stream-clause-fault : goal.returns-in_err-write_to_stream-clause-fault
returns-in_err-write_to_stream-clause-fault g c = search (rules, of_output)

pub returns-in_err-write_to_stream-clause-stops : goal.returns-in_err-write_to_stream-clause-stops
returns-in_err-write_to_stream-clause-stops g c = search (rules, text_cut)
