use Rattle.std.proofs.Common.{◌∙◌, ◌++◌, ◌∷◌, [], ap, map, refl, subst, sym}
use Rattle.std.proofs.lemmas.List.{take_all}
use Rattle.std.proofs.lemmas.List.Elements.{All-push, All-same}
use Rattle.lint_report.specs.Counted.{IsCounted}
use Rattle.lint_report.specs.declared.files.FileMessages.{FileMessages}
use Rattle.lint_entries.specs.TileView.{tile_view}
use Rattle.fluent_lint.specs.FileTiles.{AreTilesOf}
use Rattle.fluent_lint.proofs.Counted.{all_viewed, one_counted, view_of}
use Rattle.fluent_lint.proofs.counts.counted_files.Goals as goal

pub loop-file-preserved : goal.loop-file-preserved
loop-file-preserved c =
    let item = c.file-item.result in
    let old = c.loop-file.counted.items in
    let one : FileMessages = record { file = item.file; messages = c.message_count.result } in
    let tiled = subst AreTilesOf (sym c.file-item.is) (c.requires c.loop-file.file-index item c.loop-file-test.true) in
    let is_counted : IsCounted one = c.message_count.ensures item.file.source.now (ap (map tile_view) c.deref.ensures.value ∙ tiled.parts) in
    record {
      files = one_counted c.args.files.now c.loop-file.file-index item c.loop-file-test.true c.file-item.is old c.push.new.self.items one c.in_ok-push.ensures.items refl c.loop-file.invariant.files;
      counts = All-same IsCounted c.push.new.self.items (old ++ one ∷ []) c.in_ok-push.ensures.items (All-push IsCounted old one c.loop-file.invariant.counts is_counted);
    }

pub returns : goal.returns
returns c = record {
  files = c.loop-file.invariant.files ∙ ap (map view_of) (take_all c.loop-file.file-index c.args.files.now c.loop-file-test.false) ∙ all_viewed c.args.files.now;
  counts = c.loop-file.invariant.counts;
}
