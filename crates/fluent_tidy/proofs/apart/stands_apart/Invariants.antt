use Rattle.std.proofs.Common.{◌≡◌, ◌≤◌, length}
use Rattle.fluent_tidy.specs.TidyText.{is_after_blank}
use Rattle.fluent_tidy.proofs.apart.stands_apart.Given as goal

abbrev pub invariant-spaces : goal.invariant-spaces
invariant-spaces l = (is_after_blank l.source l.end ≡ is_after_blank l.source l.initial.end) × (l.end ≤ length l.source)

abbrev pub decreases-spaces : goal.decreases-spaces
decreases-spaces l = l.end
