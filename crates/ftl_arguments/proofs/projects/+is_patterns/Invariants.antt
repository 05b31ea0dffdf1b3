use Rattle.std.proofs.Common.{length}
use Rattle.ftl_arguments.proofs.projects.+is_patterns.Given as goal

abbrev pub decreases-is_patterns : goal.decreases-is_patterns
decreases-is_patterns l = length l.paths.now
