use Rattle.std.proofs.Common.{◌≡◌, drop}
use Rattle.fluent_grammar.specs.Words.{is_among}
use Rattle.lint_flaws.specs.BuiltinView.{texts}
use Rattle.lint_flaws.proofs.misuses.is_value.Given as goal

-- none of the values so far is the text
abbrev pub invariant-loop-value : goal.invariant-loop-value
invariant-loop-value l = is_among l.text (texts (drop l.value-index l.values)) ≡ is_among l.text (texts l.values)
