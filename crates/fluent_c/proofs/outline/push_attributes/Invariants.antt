-- The lines of the attributes before the index are there.
use Rattle.std.proofs.Common.{◌≡◌, ◌++◌, take, string_bytes}
use Rattle.fluent_syntax.specs.View.{attributes_view}
use Rattle.fluent_c.specs.Counts.{Text, text_of}
use Rattle.fluent_c.specs.Outline.{attribute_lines}
use Rattle.fluent_c.proofs.outline.push_attributes.Given as goal

abbrev pub invariant-loop-attribute : goal.invariant-loop-attribute
invariant-loop-attribute l =
    string_bytes l.text ≡ string_bytes l.fn.text ++ attribute_lines (attributes_view Text text_of (take l.attribute-index l.attributes))
