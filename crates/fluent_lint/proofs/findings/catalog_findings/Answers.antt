use Rattle.std.proofs.Common.{◌∙◌, [], ◌++◌, refl, sym, ap, append-nil}
use Rattle.std.proofs.lemmas.List.{drop_all, take_all}
use Rattle.lint_files.specs.PartFindings.{declared_in}
use Rattle.fluent_lint.specs.Found.{found_by_files}
use Rattle.lint_files.specs.RulesView.{rules_view}
use Rattle.lint_findings.specs.View.{file_view, findings_view}
use Rattle.fluent_lint.specs.FileTiles.{files_of, files_view}
use Rattle.lint_findings.specs.declared.records.FileFindings.{FileFindings}
use Rattle.fluent_lint.specs.ReferenceView.{named_by}
use Rattle.fluent_lint.specs.Silence.{heard_if}
use Rattle.fluent_lint.specs.declared.tiles.FileTiles.{FileTiles}
use Rattle.fluent_lint.proofs.FilesFound.{one_found}
use Rattle.fluent_lint.proofs.Loops.{one_pushed}
use Rattle.fluent_lint.proofs.findings.catalog_findings.Goals as goal

pub loop-file-init : goal.loop-file-init
loop-file-init c = ([], c.new-declarations.ensures, ap (λ l. findings_view l ++ found_by_files (rules_view c.args.rules.now) c.args.looked [] (files_view (files_of c.args.files.now))) c.new-found.ensures.items, ap named_by c.new-found.ensures.items)

pub loop-file-preserved : goal.loop-file-preserved
loop-file-preserved c =
    let rules = rules_view c.args.rules.now in
    let item = c.file-item.result in
    let inv = c.loop-file.invariant in (
      inv.0 ++ declared_in (file_view item.file),
      c.in_ok-findings.ensures.declared inv.0 inv.1,
      one_found rules c.args.looked c.args.files.now c.loop-file.file-index item c.loop-file.found.items c.push.new.self.items _ inv.0
          c.loop-file-test.true c.file-item.is c.in_ok-push.ensures.items refl
          (c.in_ok-hear.ensures ∙ ap (heard_if c.args.looked item.file.source.now) (c.in_ok-findings.ensures.findings inv.0 inv.1)) inv.2,
      one_pushed c.args.files.now c.loop-file.file-index item c.loop-file-test.true c.file-item.is
          (λ (f : FileFindings). f.file) (λ (t : FileTiles). t.file) c.loop-file.found.items c.push.new.self.items _ c.in_ok-push.ensures.items refl inv.3,
    )

pub returns : goal.returns
returns c =
    let rules = rules_view c.args.rules.now in
    let inv = c.loop-file.invariant in
    let now = findings_view c.loop-file.found.items in
    record {
      found =
          sym (append-nil now)
          ∙ ap (λ l. now ++ found_by_files rules c.args.looked inv.0 (files_view (files_of l))) (sym (drop_all c.loop-file.file-index c.args.files.now c.loop-file-test.false))
          ∙ inv.2;
      files = inv.3 ∙ ap files_of (take_all c.loop-file.file-index c.args.files.now c.loop-file-test.false);
    }
