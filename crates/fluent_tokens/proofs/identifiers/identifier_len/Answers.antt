use Rattle.fluent_tokens.proofs.Counted.{cut_names}
use Rattle.fluent_tokens.proofs.identifiers.identifier_len.Goals as goal

pub returns-then-begins_with_letter-clause-cuts : goal.returns-then-begins_with_letter-clause-cuts
returns-then-begins_with_letter-clause-cuts c = cut_names c.args.text.now c.name_bytes_len.result c.name_bytes_len.ensures
