-- The plain attribute that an attribute stands for.
use Rattle.fluent_grammar.specs.Tree as t
use Rattle.fluent_ast.specs.View.{attribute_view}
use Rattle.fluent_ids.specs.declared.attribute.FluentAttribute.{FluentAttribute}

abbrev pub attribute_of : FluentAttribute → t.Attribute
attribute_of a = attribute_view _ (λ s. s.now) a.node.now
