use Rattle.std.proofs.Common.{◌≡◌, ◌++◌, false, map, drop}
use Rattle.lint_findings.specs.View.{remark_view}
use Rattle.lint_findings.specs.Scripts.{words_from}
use Rattle.lint_flaws.proofs.scripts.push_words.Given as goal

abbrev pub invariant-loop-place : goal.invariant-loop-place
invariant-loop-place l =
    map remark_view l.found.items ++ words_from l.place l.within (drop l.place l.text) ≡ map remark_view l.initial.found.items ++ words_from 0 false l.text
