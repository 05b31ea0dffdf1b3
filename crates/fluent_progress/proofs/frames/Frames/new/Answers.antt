use Rattle.std.proofs.Common.{ap, refl}
use Rattle.fluent_text.specs.declared.stack.StackBudget.{StackBudget}
use Rattle.fluent_progress.proofs.Counting.{open-parts}
use Rattle.fluent_progress.proofs.frames.Frames.new.Goals as goal

pub returns : goal.returns
returns c = open-parts _ c.new.ensures.empty (ap (λ (b : StackBudget). b.bytes) c.new.ensures.budget) refl
