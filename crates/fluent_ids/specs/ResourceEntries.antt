-- The plain entries of a resource's tree.
use Rattle.std.specs.Prelude.{ℕ, List}
use denote.Ref.{Bor}
use Rattle.fluent_grammar.specs.Tree as t
use Rattle.fluent_ast.specs.View.{resource_view}
use Rattle.fluent_ast.specs.declared.Resource.{Resource}

abbrev pub entries_in : Resource (Bor (List ℕ)) → List t.Entry
entries_in tree = resource_view _ (λ s. s.now) tree
