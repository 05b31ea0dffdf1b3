use Rattle.std.proofs.Common.{◌≡◌, ◌++◌, length, map}
use Rattle.std.specs.Vec.Iter.{into_iter_items, into_iter_len}
use Rattle.lint_findings.specs.View.{finding_view}
use Rattle.lint_markup.specs.InCode.{spotted_views}
use Rattle.lint_comparison.specs.TextsView.{is_found}
use Rattle.lint_comparison.proofs.texts.Texts.push_doubts.Given as goal

abbrev pub invariant-loop-doubt : goal.invariant-loop-doubt
invariant-loop-doubt l =
    (map finding_view l.findings.items ++ map (is_found l.self l.fn.name l.text l.written) (spotted_views (into_iter_items l.doubt-iterator))
    ≡ map finding_view l.initial.findings.items ++ map (is_found l.self l.fn.name l.text l.written) (spotted_views (into_iter_items l.initial.doubt-iterator)))
    × (into_iter_len l.doubt-iterator ≡ length (into_iter_items l.doubt-iterator))
