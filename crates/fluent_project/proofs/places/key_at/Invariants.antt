use Rattle.std.proofs.Common.{◌≡◌, drop}
use Rattle.fluent_project.specs.Places.{key_at}
use Rattle.fluent_project.specs.PlaceViews.{texts}
use Rattle.fluent_project.proofs.places.key_at.Given as goal

abbrev pub invariant-loop-n : goal.invariant-loop-n
invariant-loop-n l = key_at l.key l.n (texts (drop l.n l.lines)) ≡ key_at l.key l.from (texts (drop l.from l.lines))
