use Rattle.std.proofs.Common.{ap}
use Rattle.std.proofs.lemmas.Result.{on_ok_weaker}
use Rattle.fluent_ast.specs.Borrowed.{attributes_of, entry_of, message_of, term_of}
use Rattle.lint_nodes.specs.HasNames.{texts}
use Rattle.lint_comparison.proofs.Naming.{message_added, term_added}
use Rattle.lint_comparison.proofs.referred.push_entry.Goals as goal

pub returns-in_ok-push_value-in-Message : goal.returns-in_ok-push_value-in-Message
returns-in_ok-push_value-in-Message c =
    on_ok_weaker c.push_attributes.result
    (message_added c.args.what (entry_of c.args.entry.now) (message_of c.in-Message.message) (attributes_of c.deref.result.now) (ap entry_of c.in-Message.is) (ap attributes_of c.deref.ensures.value)
    (texts c.args.ids.now.items) (texts c.push_value.new.ids.items) (texts c.push_attributes.new.ids.items) c.in_ok-push_value-in-Message.ensures)
    c.push_attributes.ensures

pub returns-in_ok-push_pattern-in-Term : goal.returns-in_ok-push_pattern-in-Term
returns-in_ok-push_pattern-in-Term c =
    on_ok_weaker c.push_attributes-in-Term.result
    (term_added c.args.what (entry_of c.args.entry.now) (term_of c.in-Term.term) (attributes_of c.deref-in-Term.result.now) (ap entry_of c.in-Term.is) (ap attributes_of c.deref-in-Term.ensures.value)
    (texts c.args.ids.now.items) (texts c.push_pattern.new.ids.items) (texts c.push_attributes-in-Term.new.ids.items) c.in_ok-push_pattern-in-Term.ensures)
    c.push_attributes-in-Term.ensures
