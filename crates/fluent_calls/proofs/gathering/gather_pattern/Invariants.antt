use Rattle.std.proofs.Common.{◌≡◌, [], drop, map}
use Rattle.std.specs.Prelude.{string_bytes}
use Rattle.fluent_ast.specs.View.{element_view, elements_of, pattern_view}
use Rattle.fluent_progress.specs.Views.{path_of, resolved_in, state}
use Rattle.fluent_run.specs.Dated.{dated_view}
use Rattle.fluent_calls.specs.GatheringView.{arguments_in}
use Rattle.fluent_calls.proofs.Gathered.{SoFar}
use Rattle.fluent_calls.proofs.gathering.gather_pattern.Given as goal

-- The calls of the elements before this one were gathered.
abbrev pub invariant-loop-element : goal.invariant-loop-element
invariant-loop-element g l =
    let left = elements_of (map (element_view _ (λ s. s.now)) (drop l.element-index l.element-items)) in
    record {
      so_far : SoFar (resolved_in l.place) (arguments_in l.place) (dated_view l.calls.answers.now) (pattern_view _ (λ s. s.now) l.pattern) left (state l.progress).budget (string_bytes l.found);
      path : path_of l.progress ≡ [];
    }
