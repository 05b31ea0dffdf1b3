-- The plain entries that a resource holds.
use Rattle.std.specs.Prelude.{List}
use Rattle.fluent_grammar.specs.Tree as t
use Rattle.fluent_ast.specs.View.{resource_view}
use Rattle.fluent_resource.specs.declared.resource.FluentResource.{FluentResource}

abbrev pub entries_view : FluentResource → List t.Entry
entries_view r = resource_view _ (λ s. s.now) r.tree
