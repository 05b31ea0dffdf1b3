use Rattle.std.proofs.Common.{◌∙◌, ◌++◌, List, ap, sym, subst, map}
use Rattle.std.proofs.lemmas.List.{take_all}
use Rattle.lint_findings.specs.View.{findings_view}
use Rattle.lint_findings.specs.Findings.{findings_in}
use Rattle.fluent_ids.specs.IdsView.{ids_view}
use Rattle.lint_comparison.specs.Missing.{missing_in}
use Rattle.lint_entries.specs.TileView.{tile_view}
use Rattle.fluent_lint.specs.FileTiles.{AreTilesOf}
use Rattle.fluent_lint.specs.Missing.{missing_in_files}
use Rattle.fluent_lint.proofs.Kept.{one_more}
use Rattle.lint_findings.specs.Files.{File}
use Rattle.lint_findings.specs.Findings.{FileFinding}
use Rattle.fluent_lint.proofs.Counted.{all_viewed, view_of}
use Rattle.fluent_lint.proofs.FilesFound.{found_more}
use Rattle.fluent_lint.proofs.missing.push_missing_messages.Goals as goal

pub missing_findings-requires : goal.missing_findings-requires
missing_findings-requires c =
    let tiled = subst AreTilesOf (sym c.file-item.is) (c.requires c.loop-file.file-index c.file-item.result c.loop-file-test.true) in
    ap (map tile_view) c.deref.ensures.value ∙ tiled.parts

pub loop-file-preserved : goal.loop-file-preserved
loop-file-preserved c =
    let ids = ids_view (Unit {0}) c.args.ids.now in
    let file = view_of c.file-item.result in
    let found : File → List FileFinding = λ f. findings_in f (missing_in ids f.source) in
    ap findings_view c.in_ok-push.ensures.items
    ∙ found_more c.loop-file.found.items _
    ∙ ap (λ fs. findings_view c.loop-file.found.items ++ findings_in file fs) c.in_ok-findings.ensures
    ∙ ap (λ l. l ++ found file) c.loop-file.invariant
    ∙ one_more found (findings_view c.args.found.now.items) view_of c.args.references.now c.loop-file.file-index c.file-item.result c.loop-file-test.true c.file-item.is

pub returns : goal.returns
returns c =
    let ids = ids_view (Unit {0}) c.args.ids.now in
    let references = c.args.references.now in
    c.loop-file.invariant
    ∙ ap (λ fs. findings_view c.args.found.now.items ++ missing_in_files ids fs) (ap (map view_of) (take_all c.loop-file.file-index references c.loop-file-test.false) ∙ all_viewed references)
