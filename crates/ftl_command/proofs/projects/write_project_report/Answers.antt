use Rattle.std.proofs.Common.{[], inl, inr, refl, rules}
use Rattle.fluent_serve.proofs.Outcomes.{on_ok_always}
use Rattle.ftl_files.specs.States.{state_of}
use Rattle.ftl_project.specs.Ends.{baseline_of}
use Rattle.ftl_command.proofs.ProjectLemmas.{project_ends, project_wrong}
use Rattle.ftl_command.proofs.Refusals.{of_project, project_unwritten}
use Rattle.ftl_command.proofs.projects.write_project_report.Goals as goal

pub returns-in_err-end-clause-fault : goal.returns-in_err-end-clause-fault
returns-in_err-end-clause-fault g c = search (rules, of_project)

pub returns-in_err-end-clause-stops : goal.returns-in_err-end-clause-stops
returns-in_err-end-clause-stops g c = search (rules, project_unwritten)

pub returns-in_err-end-clause-ended : goal.returns-in_err-end-clause-ended
returns-in_err-end-clause-ended g c = record {
  middle = state_of g.F.Folder c.lint_project.new.folder;
  baseline = [];
  ends = search (rules, project_wrong);
  written = search rules;
  kept = inl refl;
}

pub returns-in_err-keep_findings-clause-fault : goal.returns-in_err-keep_findings-clause-fault
returns-in_err-keep_findings-clause-fault g c = search (rules, of_project)

pub returns-in_err-keep_findings-clause-stops : goal.returns-in_err-keep_findings-clause-stops
returns-in_err-keep_findings-clause-stops g c = search (rules, project_unwritten)

pub returns-in_err-keep_findings-clause-ended : goal.returns-in_err-keep_findings-clause-ended
returns-in_err-keep_findings-clause-ended g c = record {
  middle = state_of g.F.Folder c.lint_project.new.folder;
  baseline = [];
  ends = search (rules, project_wrong);
  written = search rules;
  kept = inl c.in_err-keep_findings.ensures.kept;
}

pub returns-clause-ended : goal.returns-clause-ended
returns-clause-ended g c = record {
  middle = state_of g.F.Folder c.lint_project.new.folder;
  baseline = baseline_of c.in_ok-end.end;
  ends = project_ends _ (state_of g.F.Folder c.args.folder.now) (state_of g.F.Folder c.lint_project.new.folder) _ _ c.in_ok-end.end c.write_end.result
      c.in_ok-end.ensures.report c.in_ok-end.ensures.read c.write_end.ensures.written c.write_end.ensures.ended c.write_end.ensures.front c.lint_project.ensures.kept;
  written = on_ok_always c.write_end.result c.in_ok-keep_findings.ensures.written;
  kept = inr c.in_ok-keep_findings.ensures.written;
}
