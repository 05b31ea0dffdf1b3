use Rattle.std.proofs.Common.{◌∙◌, [], ◌∷◌, ◌++◌, ap, append-nil}
use Rattle.std.proofs.lemmas.List.Concat.{flat_map-append}
use Rattle.std.specs.List.{flat_map}
use Rattle.std.specs.Vec.Iter.{into_iter_items, into_iter_len}
use Rattle.lint_findings.specs.View.{file_findings_view, findings_view}
use Rattle.lint_findings.specs.declared.records.FileFindings.{FileFindings}
use Rattle.ftl_project.specs.Baselines.{lines_of, without}
use Rattle.ftl_project.proofs.Lines.{without_each}
use Rattle.ftl_project.proofs.Taken.{given_at_last, given_next}
use Rattle.ftl_project.proofs.baseline.Baseline.leave_out.Goals as goal

pub loop-file-preserved : goal.loop-file-preserved
loop-file-preserved c =
    let at = c.loop-file in
    let now = at.files.items in
    let one = c.in_ok-new_in.field-0 in
    given_next (λ (f : FileFindings). without (lines_of c.args.self.now) (file_findings_view f)) _
    (findings_view now) (findings_view c.push.new.self.items) (into_iter_items at.file-iterator) (into_iter_items c.next.new.self)
    c.in-Some.file (into_iter_len at.file-iterator) (into_iter_len c.next.new.self) at.invariant c.in-Some.ensures.steps.0 c.in-Some.ensures.steps.1
    (ap findings_view c.in_ok-push.ensures.items
    ∙ flat_map-append file_findings_view now (one ∷ [])
    ∙ ap (λ l. findings_view now ++ l) (append-nil (file_findings_view one) ∙ c.in_ok-new_in.ensures))

pub returns : goal.returns
returns c =
    let at = c.loop-file in
    let lines = lines_of c.args.self.now in
    let new = λ (f : FileFindings). without lines (file_findings_view f) in
    given_at_last new _ (findings_view at.files.items) (into_iter_items at.file-iterator) (into_iter_len at.file-iterator) at.invariant c.in-None.ensures.steps.0
    ∙ ap (λ fs. findings_view fs ++ flat_map new (into_iter_items c.into_iter-file-iterator.result)) c.in_ok-files.ensures.items
    ∙ ap (λ fs. flat_map new fs) c.into_iter-file-iterator.ensures.into_iter_gives.0
    ∙ without_each lines file_findings_view c.args.found.items
