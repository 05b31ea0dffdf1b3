use Rattle.std.proofs.Common.{[]}
use Rattle.lint_comparison.proofs.places.Places.of_message.Goals as goal

pub returns : goal.returns
returns c = c.in_ok-add_message.ensures [] [] (record { attributes_are = c.new.ensures; variables_are = c.new-2.ensures })
