use Rattle.std.proofs.Common.{◌∙◌, sym, rules}
use Rattle.fluent_parser.proofs.Entries.{entry_is_term, entry_is_message, term_entry_fails, message_entry_fails}
use Rattle.fluent_parser.proofs.parser.Parser.get_entry.Goals as goal

pub returns-in_err-term-clause-gives : goal.returns-in_err-term-clause-gives
returns-in_err-term-clause-gives g c =
    search (rules, term_entry_fails _ _ c.args.self.now.rest.now (sym c.is_current_byte.ensures ∙ c.if-is_current_byte.false) (sym c.is_current_byte-else-is_current_byte.ensures ∙ c.if-is_current_byte-2.true) c.in_err-term.ensures.gives)

pub returns-in_err-message-clause-gives : goal.returns-in_err-message-clause-gives
returns-in_err-message-clause-gives g c =
    search (rules, message_entry_fails _ _ c.args.self.now.rest.now (sym c.is_current_byte.ensures ∙ c.if-is_current_byte.false) (sym c.is_current_byte-else-is_current_byte.ensures ∙ c.if-is_current_byte-2.false) c.in_err-message.ensures.gives)

pub returns-in_ok-term-clause-gives : goal.returns-in_ok-term-clause-gives
returns-in_ok-term-clause-gives g c =
    entry_is_term c.args.self.now.rest.now (sym c.is_current_byte.ensures ∙ c.if-is_current_byte.false) (sym c.is_current_byte-else-is_current_byte.ensures ∙ c.if-is_current_byte-2.true) ∙ c.in_ok-term.ensures.gives

pub returns-in_ok-message-clause-gives : goal.returns-in_ok-message-clause-gives
returns-in_ok-message-clause-gives g c =
    entry_is_message c.args.self.now.rest.now (sym c.is_current_byte.ensures ∙ c.if-is_current_byte.false) (sym c.is_current_byte-else-is_current_byte.ensures ∙ c.if-is_current_byte-2.false) ∙ c.in_ok-message.ensures.gives
