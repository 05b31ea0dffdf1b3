use Rattle.fluent_tidy_laws.proofs.Between.{slices_stand_between_characters}
use Rattle.fluent_tidy_laws.proofs.laws.slices_stand_between_characters.Goals as goal

pub returns : goal.returns
returns c = slices_stand_between_characters
