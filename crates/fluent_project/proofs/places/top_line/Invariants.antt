use Rattle.std.proofs.Common.{◌≡◌, drop, true}
use Rattle.fluent_project.specs.Places.{top_line}
use Rattle.fluent_project.specs.PlaceViews.{texts}
use Rattle.fluent_project.proofs.places.top_line.Given as goal

abbrev pub invariant-loop-n : goal.invariant-loop-n
invariant-loop-n l = top_line l.key l.at_top l.n (texts (drop l.n l.lines)) ≡ top_line l.key true 0 (texts l.lines)
