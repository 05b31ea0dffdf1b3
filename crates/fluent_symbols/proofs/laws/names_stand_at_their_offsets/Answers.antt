use Rattle.fluent_symbols.proofs.NamesThere.{names_stand_there, offsets_hold_names}
use Rattle.fluent_symbols.proofs.laws.names_stand_at_their_offsets.Goals as goal

pub returns-clause-there : goal.returns-clause-there
returns-clause-there c = names_stand_there

pub returns-clause-offsets : goal.returns-clause-offsets
returns-clause-offsets c = offsets_hold_names
