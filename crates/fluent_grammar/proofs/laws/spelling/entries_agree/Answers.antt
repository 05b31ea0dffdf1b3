use Rattle.fluent_grammar.proofs.Agreement.{comments_agree, entries_agree, messages_agree, terms_agree}
use Rattle.fluent_grammar.proofs.laws.spelling.entries_agree.Goals as goal

pub returns-clause-entries : goal.returns-clause-entries
returns-clause-entries c = entries_agree

pub returns-clause-messages : goal.returns-clause-messages
returns-clause-messages c = messages_agree

pub returns-clause-terms : goal.returns-clause-terms
returns-clause-terms c = terms_agree

pub returns-clause-comments : goal.returns-clause-comments
returns-clause-comments c = comments_agree
