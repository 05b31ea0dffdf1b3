use Rattle.std.proofs.Common.{◌≡◌, map, take}
use Rattle.fluent_ast.specs.View.{element_view, elements_of, pattern_view}
use Rattle.fluent_meaning.specs.Substitution as s
use Rattle.fluent_meaning.specs.Told.{Writes}
use Rattle.fluent_progress.specs.Depth.{open_in}
use Rattle.fluent_progress.specs.Views.{entered_in, place_view, resolved_in, state}
use Rattle.fluent_resolver.proofs.written.write_pieces.Given as goal

-- The elements before this one were written.
abbrev pub invariant-loop-element : goal.invariant-loop-element
invariant-loop-element g l =
    let env = resolved_in l.place in
    let whole = pattern_view _ (λ s. s.now) l.pattern in
    let before = elements_of (map (element_view _ (λ s. s.now)) (take l.element-index l.element-items)) in
    let here = place_view l.place l.initial.progress in
    record {
      wrote : Writes (g.W.TextWrite.text l.initial.w) (g.W.TextWrite.text l.w) (state l.initial.progress) (state l.progress) (λ b. s.elements_written env whole before here b);
      path : entered_in l.progress ≡ entered_in l.initial.progress;
      stack : open_in l.progress.stack ≡ open_in l.initial.progress.stack;
    }
