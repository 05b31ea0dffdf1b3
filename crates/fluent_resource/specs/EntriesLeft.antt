-- The plain entries that an iterator has left.
use Rattle.std.specs.Prelude.{List, map}
use Rattle.std.specs.Slice.Iter.{iter_rest}
use Rattle.fluent_grammar.specs.Tree as t
use Rattle.fluent_ast.specs.View.{entry_view}
use Rattle.fluent_resource.specs.declared.entries.Entries.{Entries}

abbrev pub entries_left : Entries → List t.Entry
entries_left it = map (entry_view _ (λ s. s.now)) (iter_rest it.left)
