use Rattle.std.proofs.Common.{◌∙◌, ◌≤◌, ◌<◌, [], ◌∷◌, ap, arith, get_or, length}
use Rattle.lint_findings.specs.declared.records.Finding.{Finding}
use Rattle.lint_report.specs.View.{in_file}
use Rattle.ftl_project.specs.Baselines.{lines_of, with_shown}
use Rattle.ftl_project.proofs.Lines.{each_in_file, lines_at_last, lines_next}
use Rattle.ftl_project.proofs.baseline.Baseline.add_file.Goals as goal

pub loop-finding-preserved : goal.loop-finding-preserved
loop-finding-preserved c =
    let file = c.args.found.now.file in
    let fs = c.args.found.now.findings.items in
    let i = c.loop-finding.finding-index in
    let one = c.finding-item.result in
    let lines = lines_of c.loop-finding.self in
    let inside : i < length fs = omega (arith, ap length c.deref-finding-items.ensures.value, c.loop-finding-test.true) in
    lines_next c.args.notes (λ (f : Finding). in_file file f ∷ []) fs (lines_of c.args.self.now) i one
    lines (lines_of c.add.new.self) inside c.loop-finding.invariant
    (c.in_ok-add.ensures
    ∙ ap (λ (f : Finding). with_shown c.args.notes lines (in_file file f ∷ [])) (c.finding-item.is ∙ ap (λ l. get_or l i one) c.deref-finding-items.ensures.value))

pub returns : goal.returns
returns c =
    let file = c.args.found.now.file in
    let fs = c.args.found.now.findings.items in
    let all : length fs ≤ c.loop-finding.finding-index = omega (arith, ap length c.deref-finding-items.ensures.value, c.loop-finding-test.false) in
    lines_at_last c.args.notes (λ (f : Finding). in_file file f ∷ []) fs (lines_of c.args.self.now) c.loop-finding.finding-index
    (lines_of c.loop-finding.self) all c.loop-finding.invariant
    ∙ ap (with_shown c.args.notes (lines_of c.args.self.now)) (each_in_file file fs)
