use Rattle.std.proofs.Common.{◌≡◌, ◌++◌, map, drop}
use Rattle.lint_findings.specs.View.{remark_view}
use Rattle.lint_findings.specs.EntryFindings.{escape_remark}
use Rattle.lint_flaws.proofs.remarks.push_escapes.Given as goal

abbrev pub invariant-loop-escape : goal.invariant-loop-escape
invariant-loop-escape l =
    map remark_view l.found.items ++ map escape_remark (map (λ s. s.now) (drop l.escape-index l.escape-items))
    ≡ map remark_view l.initial.found.items ++ map escape_remark (map (λ s. s.now) l.escape-items)
