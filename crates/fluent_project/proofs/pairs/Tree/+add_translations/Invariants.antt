use Rattle.std.proofs.Common.{length}
use Rattle.fluent_project.proofs.pairs.Tree.+add_translations.Given as goal

abbrev pub decreases-add_translations : goal.decreases-add_translations
decreases-add_translations l = length l.rules.now
