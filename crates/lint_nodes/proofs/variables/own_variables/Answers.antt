use Rattle.std.proofs.Common.{rules, ◌≡◌, ◌∙◌, ◌==◌, true, length, [], sym}
use Rattle.fluent_ast.specs.Borrowed.{message_of}
use Rattle.lint_nodes.specs.HasReached.{message_references, messages_in}
use Rattle.lint_nodes.proofs.OwnVariables.{no_items, none_added}
use Rattle.lint_nodes.proofs.variables.own_variables.Goals as goal

pub returns-then-is_empty : goal.returns-then-is_empty
returns-then-is_empty c =
    let items = c.add_message.new.self.messages.list.items in
    let has = c.in_ok-add_message.ensures [] [] (record { messages_are = c.new-reached.ensures.messages_are; variables_are = c.new-reached.ensures.variables_are }) in
    let empty : true ≡ (length items == 0) = search rules in
    (none_added (messages_in (message_references (message_of c.args.message.now))) (sym has.messages_are.listed ∙ no_items items (sym empty)), has.variables_are)
