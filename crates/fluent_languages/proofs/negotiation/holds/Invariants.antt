use Rattle.std.proofs.Common.{◌≡◌, drop}
use Rattle.fluent_languages.specs.Negotiation.{has}
use Rattle.fluent_languages.proofs.negotiation.holds.Given as goal

abbrev pub invariant-loop-position : goal.invariant-loop-position
invariant-loop-position l = has (drop l.position-index l.found) l.at ≡ has l.found l.at
