use Rattle.std.proofs.Common.{◌≡◌, map, take}
use Rattle.fluent_lint.specs.Reading.{bare_tree, errors_in, errors_told, sources_of, trees_in}
use Rattle.fluent_lint.proofs.read.read_files.Given as goal

-- what was read of the files so far
abbrev pub invariant-loop-file : goal.invariant-loop-file
invariant-loop-file l = record {
  files : l.read.files.now ≡ l.files;
  trees : trees_in l.read ≡ map bare_tree (sources_of (take l.file-index l.files));
  errors : errors_in l.read ≡ map errors_told (sources_of (take l.file-index l.files));
}
