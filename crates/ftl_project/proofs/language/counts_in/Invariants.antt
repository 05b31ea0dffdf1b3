use Rattle.std.proofs.Common.{◌≡◌, drop, map}
use Rattle.ftl_project.specs.Counted.{and_all, counts_in}
use Rattle.ftl_project.specs.declared.language.LintedFile.{LintedFile}
use Rattle.ftl_project.proofs.language.counts_in.Given as goal

-- the counts so far, and then those of the files that are left, are all
abbrev pub invariant-loop-file : goal.invariant-loop-file
invariant-loop-file l =
    counts_in l.files ≡ and_all l.counts (map (λ (f : LintedFile). f.counts) (drop l.file-index l.files))
