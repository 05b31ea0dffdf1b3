use Rattle.std.proofs.Common.{ap, sym, ◌∙◌, map}
use Rattle.std.proofs.lemmas.List.{take_all}
use Rattle.fluent_lint.specs.Reading.{bare_tree, errors_told, sources_of}
use Rattle.fluent_lint.proofs.Lists.{one_read}
use Rattle.fluent_lint.proofs.read.read_files.Goals as goal

pub loop-file-preserved : goal.loop-file-preserved
loop-file-preserved c = record {
  files = c.in_ok-read.ensures.files ∙ c.loop-file.invariant.files;
  trees = c.in_ok-read.ensures.trees ∙ one_read bare_tree c.args.files.now c.loop-file.file-index _ c.loop-file-test.true _ c.loop-file.invariant.trees;
  errors = c.in_ok-read.ensures.errors ∙ one_read errors_told c.args.files.now c.loop-file.file-index _ c.loop-file-test.true _ c.loop-file.invariant.errors;
}

pub returns-clause-read : goal.returns-clause-read
returns-clause-read c =
    let all = take_all c.loop-file.file-index c.args.files.now c.loop-file-test.false ∙ sym c.loop-file.invariant.files in
    record {
      trees = c.loop-file.invariant.trees ∙ ap (λ fs. map bare_tree (sources_of fs)) all;
      errors = c.loop-file.invariant.errors ∙ ap (λ fs. map errors_told (sources_of fs)) all;
    }
