use Rattle.std.proofs.Common.{◌≡◌, ◌++◌, map, drop}
use Rattle.lint_findings.specs.View.{remark_view}
use Rattle.lint_findings.specs.Letters.{letters, letters_from}
use Rattle.lint_flaws.proofs.letters.special_remarks.Given as goal

abbrev pub invariant-loop-place : goal.invariant-loop-place
invariant-loop-place l = map remark_view l.found.items ++ letters_from l.place l.begins l.depth (drop l.place l.text) ≡ letters l.text
