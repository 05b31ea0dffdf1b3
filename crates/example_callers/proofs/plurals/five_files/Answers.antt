use Rattle.std.proofs.Common.{ap, ◌∙◌}
use Rattle.fluent_number.specs.Digits.{last_digits}
use Rattle.fluent_number.specs.Operands.{operands_of}
use Rattle.fluent_plurals.specs.Cardinal.{pl}
use Rattle.fluent_plurals.specs.Conditions.{category_by}
use Rattle.example_callers.proofs.plurals.five_files.Goals as goal

pub returns : goal.returns
unfolding operands_of last_digits
returns c = c.polish_category.ensures ∙ ap (λ number. category_by pl (operands_of number)) c.from.ensures
