use Rattle.std.proofs.Common.{length}
use Rattle.ftl_project.proofs.report.+has_language_failed.Given as goal

abbrev pub decreases-has_language_failed : goal.decreases-has_language_failed
decreases-has_language_failed l = length l.groups.now
