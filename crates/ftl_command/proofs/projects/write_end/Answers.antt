use Rattle.std.proofs.Common.{rules}
use Rattle.ftl_command.proofs.Refusals.{project_output, text_cut}
use Rattle.ftl_command.proofs.projects.write_end.Goals as goal

pub returns-in_err-write_to_stream-clause-fault : goal.returns-in_err-write_to_stream-clause-fault
returns-in_err-write_to_stream-clause-fault g c = search (rules, project_output)

pub returns-in_err-write_to_stream-clause-stops : goal.returns-in_err-write_to_stream-clause-stops
returns-in_err-write_to_stream-clause-stops g c = search (rules, text_cut)
