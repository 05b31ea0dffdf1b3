use Rattle.std.proofs.Common.{◌≡◌, drop}
use Rattle.lint_findings.specs.Builtins as b
use Rattle.lint_flaws.specs.BuiltinView.{option_views}
use Rattle.lint_flaws.proofs.builtins.taken_by.Given as goal

-- none of the options so far has the name
abbrev pub invariant-loop-option : goal.invariant-loop-option
invariant-loop-option l = b.taken_by (option_views (drop l.option-index l.options)) l.name ≡ b.taken_by (option_views l.options) l.name
