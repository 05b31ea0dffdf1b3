use Rattle.std.proofs.Common.{◌≡◌, drop}
use Rattle.lint_findings.specs.Builtins as b
use Rattle.lint_flaws.specs.BuiltinView.{builtin_views}
use Rattle.lint_flaws.proofs.builtins.row_named.Given as goal

-- none of the rows so far has the name
abbrev pub invariant-loop-row : goal.invariant-loop-row
invariant-loop-row l = b.row_named (builtin_views (drop l.row-index l.rows)) l.name ≡ b.row_named (builtin_views l.rows) l.name
