-- The plain attributes that an iterator has left.
use Rattle.std.specs.Prelude.{List, map}
use Rattle.std.specs.Slice.Iter.{iter_rest}
use Rattle.fluent_grammar.specs.Tree as t
use Rattle.fluent_ast.specs.View.{attribute_view}
use Rattle.fluent_ids.specs.declared.attribute.Attributes.{Attributes}

abbrev pub attributes_left : Attributes → List t.Attribute
attributes_left it = map (attribute_view _ (λ s. s.now)) (iter_rest it.left)
