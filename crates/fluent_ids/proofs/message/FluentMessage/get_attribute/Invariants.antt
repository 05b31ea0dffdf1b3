use Rattle.std.proofs.Common.{◌≡◌, map, drop}
use Rattle.fluent_ast.specs.View.{attribute_view}
use Rattle.fluent_ids.specs.Attributes.{first_named}
use Rattle.fluent_ids.specs.MessageView.{message_of}
use Rattle.fluent_ids.proofs.message.FluentMessage.get_attribute.Given as goal

-- none of the attributes so far has that name
abbrev pub invariant-loop-node : goal.invariant-loop-node
invariant-loop-node l = first_named l.name (message_of l.self).attributes ≡ first_named l.name (map (attribute_view _ (λ s. s.now)) (drop l.node-index l.node-items))
