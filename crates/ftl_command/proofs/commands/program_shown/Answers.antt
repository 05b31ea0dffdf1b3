use Rattle.ftl_command.proofs.commands.program_shown.Goals as goal

pub returns-clause-ended : goal.returns-clause-ended
returns-clause-ended g c = record {
  files = _;
  input = _;
  output = _;
  faults = _;
  input_new = (c.new-reader.ensures.bytes, c.new-reader.ensures.failures);
  output_new = (c.new-writer.ensures.bytes, c.new-writer.ensures.failures);
  faults_new = (c.new-faults.ensures.bytes, c.new-faults.ensures.failures);
  ends = rw (c.new-folder.ensures.contents, c.new-folder.ensures.sources, c.new-folder.ensures.failures) at c.program_on-status.ensures.ended;
}
