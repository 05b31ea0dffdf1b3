use Rattle.clap.specs.Words.{found_of}
use Rattle.ftl_arguments.proofs.Found.{one, no_one, told}
use Rattle.ftl_arguments.proofs.reading.file_in.Goals as goal

pub returns-clause-file : goal.returns-clause-file
returns-clause-file c = rw c.ok_or.ensures.value (one _ (found_of c.args.found.now) c.get_str.result c.get_str.ensures)

pub returns-clause-none : goal.returns-clause-none
returns-clause-none c = rw c.ok_or.ensures.value (no_one _ (found_of c.args.found.now) c.get_str.result c.get_str.ensures)

pub returns-clause-bad : goal.returns-clause-bad
returns-clause-bad c = rw c.ok_or.ensures.value (told _ (found_of c.args.found.now) c.get_str.result)
