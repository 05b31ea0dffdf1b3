use Rattle.std.proofs.Common.{◌≡◌, map, drop}
use Rattle.fluent_symbols.specs.Node.{lines_end}
use Rattle.fluent_symbols.proofs.entry_nodes.end_of_comment.Given as goal

abbrev pub invariant-loop-line : goal.invariant-loop-line
invariant-loop-line l =
    lines_end l.end (map (λ s. s.now) (drop l._line-index l._line-items)) l.rest
    ≡ lines_end l.initial.end (map (λ s. s.now) l._line-items) l.initial.rest
