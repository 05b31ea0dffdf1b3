use Rattle.std.proofs.Common.{◌≡◌, drop}
use Rattle.lint_comparison.specs.TextsView.{attributes_said}
use Rattle.lint_comparison.proofs.texts.are_attributes_said.Given as goal

-- nothing is said of those so far
abbrev pub invariant-loop-attribute : goal.invariant-loop-attribute
invariant-loop-attribute l = attributes_said l.message l.other (drop l.attribute-index l.attributes) ≡ attributes_said l.message l.other l.attributes
