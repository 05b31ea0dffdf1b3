use Rattle.fluent_symbols.proofs.MentionsAreTheTree.{occurrences_are_of_the_tree}
use Rattle.fluent_symbols.proofs.laws.occurrences_are_of_the_tree.Goals as goal

pub returns : goal.returns
returns c = occurrences_are_of_the_tree
