use Rattle.ftl_command.proofs.telling.tell.Goals as goal

pub returns-clause-told : goal.returns-clause-told
returns-clause-told g c = record {
  faults = _;
  faults_new = (c.new.ensures.bytes, c.new.ensures.failures);
  reports = c.tell_line_on.ensures.told;
}
