use Rattle.std.proofs.Common.{◌≡◌}
use Rattle.fluent_ast.specs.Borrowed.{inline_of}
use Rattle.fluent_meaning.specs.Fallback.{inline_fallback}
use Rattle.fluent_progress.proofs.fallback.write_inline_fallback.Given as goal

-- nothing is written yet, and the braces so far don't show
abbrev pub invariant-loop-inner : goal.invariant-loop-inner
invariant-loop-inner l = (l.out ≡ l.initial.out) × (inline_fallback (inline_of l.inner) ≡ inline_fallback (inline_of l.inline))
