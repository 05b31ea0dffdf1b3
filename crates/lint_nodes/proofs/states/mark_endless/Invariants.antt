use Rattle.std.proofs.Common.{◌≡◌, length, drop}
use Rattle.lint_nodes.specs.Path.{marked}
use Rattle.lint_nodes.proofs.states.mark_endless.Given as goal

-- the marks so far, and those of the steps that are left
abbrev pub invariant-loop-step : goal.invariant-loop-step
invariant-loop-step l = record {
  same : marked l.states (drop l.step-index l.path) ≡ marked l.initial.states l.path;
  long : length l.states ≡ length l.initial.states;
}
