use Rattle.std.proofs.Common.{◌∙◌, map, take, drop, suc, rules, string_bytes}
use Rattle.fluent_serve.specs.Texts.{texts}
use Rattle.ftl_command.specs.Faults.{IsFaultOfFiles}
use Rattle.ftl_command.proofs.FaultLemmas.{AreUtf8-strings, one_of_files, texts_around}
use Rattle.ftl_command.proofs.RunLemmas.{held_next}
use Rattle.ftl_command.proofs.files.read_text_files.Goals as goal

pub returns-in_err-source-clause-fault : goal.returns-in_err-source-clause-fault
returns-in_err-source-clause-fault g c =
    let fault : IsFaultOfFiles g.F.Folder c.args.folder.now c.read_text_file.new.folder (texts c.args.files.now) c.in_err-source.field-0.0 =
    one_of_files g.F.Folder c.args.folder.now c.loop-file.folder c.read_text_file.new.folder (texts c.args.files.now) _ _
    c.loop-file.invariant.kept c.loop-file.invariant.works
    (record {
      front = texts (take c.loop-file.file-index c.args.files.now);
      behind = texts (drop (suc c.loop-file.file-index) c.args.files.now);
      split = texts_around c.args.files.now c.loop-file.file-index _ c.loop-file-test.true;
      sources = map string_bytes c.loop-file.sources.items;
      held = c.loop-file.invariant.held;
      utf8 = AreUtf8-strings c.loop-file.sources.items;
    }) c.in_err-source.ensures.fault in
    search rules

pub loop-file-preserved : goal.loop-file-preserved
loop-file-preserved g c = record {
  held = rw c.in_ok-push.ensures.items
      (held_next string_bytes (g.F.Folder.contents c.args.folder.now) c.args.files.now c.loop-file.file-index _ c.loop-file.sources.items _
      c.loop-file-test.true c.loop-file.invariant.held (rw c.loop-file.invariant.kept at c.in_ok-source.ensures.held));
  kept = c.in_ok-source.ensures.kept ∙ c.loop-file.invariant.kept;
  works = c.in_ok-source.ensures.opens ∙ c.loop-file.invariant.works;
}
