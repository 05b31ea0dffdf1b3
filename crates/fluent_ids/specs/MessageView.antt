-- The plain message that a message stands for.
use Rattle.fluent_grammar.specs.Tree as t
use Rattle.fluent_ast.specs.View.{message_view}
use Rattle.fluent_ids.specs.declared.message.FluentMessage.{FluentMessage}

abbrev pub message_of : FluentMessage → t.Message
message_of m = message_view _ (λ s. s.now) m.node.now
