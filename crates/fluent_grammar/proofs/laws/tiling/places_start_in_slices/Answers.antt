use Rattle.fluent_grammar.proofs.TilesErrors.{places_start_in_slices}
use Rattle.fluent_grammar.proofs.laws.tiling.places_start_in_slices.Goals as goal

pub returns : goal.returns
returns c = places_start_in_slices
