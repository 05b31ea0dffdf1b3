use Rattle.std.proofs.Common.{length}
use Rattle.fluent_project.proofs.path_rules.+push_those_in.Given as goal

abbrev pub decreases-push_those_in : goal.decreases-push_those_in
decreases-push_those_in l = length l.locales.now
