use Rattle.std.proofs.Common.{length, ◌+◌, ◌*◌}
use Rattle.fluent_project.proofs.reading.+reading.Given as goal

abbrev pub decreases-push_parts : goal.decreases-push_parts
decreases-push_parts l = 2 * length l.text.now

abbrev pub decreases-push_from : goal.decreases-push_from
decreases-push_from l = 2 * length l.rest.now + 1
