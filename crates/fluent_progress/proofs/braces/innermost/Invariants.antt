use Rattle.std.proofs.Common.{◌≡◌}
use Rattle.fluent_ast.specs.Borrowed.{expression_of}
use Rattle.fluent_progress.specs.Braces.{innermost}
use Rattle.fluent_progress.proofs.braces.innermost.Given as goal

-- the braces so far were all there is round the expression
abbrev pub invariant-loop-inner : goal.invariant-loop-inner
invariant-loop-inner l = innermost (expression_of l.inner) ≡ innermost (expression_of l.expression)
