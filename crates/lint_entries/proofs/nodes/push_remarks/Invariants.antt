use Rattle.std.proofs.Common.{◌≡◌, ◌++◌, length, map}
use Rattle.std.specs.Vec.Iter.{into_iter_items, into_iter_len}
use Rattle.lint_findings.specs.View.{finding_view, remark_view}
use Rattle.lint_entries.specs.Made.{made_of}
use Rattle.lint_entries.proofs.nodes.push_remarks.Given as goal

abbrev pub invariant-loop-remark : goal.invariant-loop-remark
invariant-loop-remark l =
    (map finding_view l.findings.items ++ map (made_of l.place) (map remark_view (into_iter_items l.remark-iterator))
    ≡ map finding_view l.initial.findings.items ++ map (made_of l.place) (map remark_view (into_iter_items l.initial.remark-iterator)))
    × (into_iter_len l.remark-iterator ≡ length (into_iter_items l.remark-iterator))
