use Rattle.std.proofs.Common.{◌∙◌, ap, map, rules, subst, sym}
use Rattle.std.proofs.lemmas.List.{take_all}
use Rattle.lint_entries.specs.TileView.{tile_view}
use Rattle.lint_findings.specs.Summary.{entry_count}
use Rattle.fluent_lint.specs.FileTiles.{AreTilesOf}
use Rattle.fluent_lint.proofs.Counted.{all_viewed, entries_more, view_of}
use Rattle.fluent_lint.proofs.counts.entry_count.Goals as goal

pub loop-file-preserved : goal.loop-file-preserved
loop-file-preserved c =
    let item = c.file-item.result in
    let tiled = subst AreTilesOf (sym c.file-item.is) (c.requires c.loop-file.file-index item c.loop-file-test.true) in
    let counts = c.entry_count.ensures item.file.source.now (ap (map tile_view) c.deref.ensures.value ∙ tiled.parts) in
    entries_more c.args.files.now c.loop-file.file-index item c.loop-file-test.true c.file-item.is c.loop-file.total c.entry_count.result _ counts c.loop-file.invariant (search rules)

pub returns : goal.returns
returns c =
    c.loop-file.invariant ∙ ap (λ fs. entry_count (map view_of fs)) (take_all c.loop-file.file-index c.args.files.now c.loop-file-test.false) ∙ ap entry_count (all_viewed c.args.files.now)
