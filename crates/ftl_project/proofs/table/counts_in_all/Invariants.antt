use Rattle.std.proofs.Common.{◌≡◌, drop, map}
use Rattle.ftl_project.specs.Counted.{and_all, counts_in_all}
use Rattle.ftl_project.specs.declared.language.Linted.{Linted}
use Rattle.ftl_project.proofs.table.counts_in_all.Given as goal

-- the counts so far, and then those of the languages that are left, are all
abbrev pub invariant-loop-language : goal.invariant-loop-language
invariant-loop-language l =
    counts_in_all l.languages ≡ and_all l.counts (map (λ (x : Linted). x.counts) (drop l.language-index l.languages))
