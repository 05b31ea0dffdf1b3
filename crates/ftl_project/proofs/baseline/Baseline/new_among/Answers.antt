use Rattle.std.proofs.Common.{◌∙◌, [], ◌∷◌, ◌++◌, ap}
use Rattle.std.specs.List.{flat_map}
use Rattle.std.specs.Vec.Iter.{into_iter_items, into_iter_len}
use Rattle.lint_findings.specs.declared.records.Finding.{Finding}
use Rattle.lint_report.specs.View.{in_file}
use Rattle.ftl_project.specs.Baselines.{findings_of, lines_of, without}
use Rattle.ftl_project.proofs.Lines.{each_in_file, without_each}
use Rattle.ftl_project.proofs.Taken.{given_at_last, given_next}
use Rattle.ftl_project.proofs.baseline.Baseline.new_among.Goals as goal

pub loop-finding-preserved : goal.loop-finding-preserved
loop-finding-preserved c =
    let at = c.loop-finding in
    let file = c.args.file.now in
    given_next (λ (f : Finding). without (lines_of c.args.self.now) (in_file file f ∷ [])) _
    (findings_of file at.left.items) (findings_of file c.push_new.new.left.items) (into_iter_items at.finding-iterator) (into_iter_items c.next.new.self)
    c.in-Some.finding (into_iter_len at.finding-iterator) (into_iter_len c.next.new.self) at.invariant c.in-Some.ensures.steps.0 c.in-Some.ensures.steps.1 c.in_ok-push_new.ensures

pub returns : goal.returns
returns c =
    let at = c.loop-finding in
    let file = c.args.file.now in
    let lines = lines_of c.args.self.now in
    let new = λ (f : Finding). without lines (in_file file f ∷ []) in
    given_at_last new _ (findings_of file at.left.items) (into_iter_items at.finding-iterator) (into_iter_len at.finding-iterator) at.invariant c.in-None.ensures.steps.0
    ∙ ap (λ fs. findings_of file fs ++ flat_map new (into_iter_items c.into_iter-finding-iterator.result)) c.new-left.ensures.items
    ∙ ap (λ fs. flat_map new fs) c.into_iter-finding-iterator.ensures.into_iter_gives.0
    ∙ without_each lines (λ (f : Finding). in_file file f ∷ []) c.args.findings.items
    ∙ ap (without lines) (each_in_file file c.args.findings.items)
