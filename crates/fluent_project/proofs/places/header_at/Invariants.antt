use Rattle.std.proofs.Common.{◌≡◌, ◌≤◌, drop}
use Rattle.fluent_project.specs.Places.{header_at}
use Rattle.fluent_project.specs.PlaceViews.{texts}
use Rattle.fluent_project.proofs.places.header_at.Given as goal

abbrev pub invariant-loop-n : goal.invariant-loop-n
invariant-loop-n l = record {
  same : header_at l.name l.index l.seen l.n (texts (drop l.n l.lines)) ≡ header_at l.name l.index 0 0 (texts l.lines);
  seen : l.seen ≤ l.n;
}
