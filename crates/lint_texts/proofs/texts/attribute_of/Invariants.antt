use Rattle.std.proofs.Common.{◌≡◌, drop}
use Rattle.fluent_ast.specs.Borrowed.{attributes_of}
use Rattle.lint_findings.specs.Pairs as p
use Rattle.lint_texts.proofs.texts.attribute_of.Given as goal

-- none so far has this name
abbrev pub invariant-loop-attribute : goal.invariant-loop-attribute
invariant-loop-attribute l = p.attribute_of l.name (attributes_of (drop l.attribute-index l.attributes)) ≡ p.attribute_of l.name (attributes_of l.attributes)
