-- The plain nodes that nodes stand for.
use Rattle.std.specs.Prelude.{◌≡◌, List, ◌++◌, map, Vec}
use Rattle.std.specs.Global.{Global}
use Rattle.fluent_ast.specs.Borrowed.{inline_of, key_of, variants_of}
use Rattle.lint_findings.specs.Nodes as n
use Rattle.lint_nodes.specs.declared.nodes.Node.{Node}
use Rattle.lint_nodes.specs.declared.nodes.Node.TheVariants as of

abbrev pub node_view : Node → n.Node
node_view (of.Expression e) = n.expression (inline_of e.now)
node_view (of.Select selector variants) = n.select (inline_of selector.now) (variants_of variants.now)
node_view (of.RepeatedKey key) = n.repeated_key (key_of key.now)

-- these nodes are added after the others
abbrev pub Adds : Vec Node Global → Vec Node Global → List n.Node → Type 0
Adds old new added = map node_view new.items ≡ map node_view old.items ++ added
