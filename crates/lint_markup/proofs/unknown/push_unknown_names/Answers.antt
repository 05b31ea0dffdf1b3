use Rattle.std.proofs.Common.{◌∙◌, ◌++◌, ◌+◌, List, drop, map, sym, ap}
use Rattle.lint_findings.specs.Doubts.{Spotted}
use Rattle.lint_markup.specs.InCode.{said, spotted_views, tags_of, texts_in}
use Rattle.lint_markup.proofs.UnknownTags.{names_front}
use Rattle.lint_markup.proofs.unknown.push_unknown_names.Goals as goal

pub loop-tag-preserved : goal.loop-tag-preserved
loop-tag-preserved c =
    let xs = c.args.tags.now in
    let i = c.loop-tag.tag-index in
    let old = spotted_views c.loop-tag.found.items in
    let before = c.loop-tag.invariant in
    let step = c.in_ok-push_name.ensures (tags_of (drop (i + 1) xs)) before.0 before.1 in
    (step.0, step.1, step.2 ∙ ap (λ (ds : List Spotted). old ++ map said ds) (sym (names_front (texts_in c.args.known.now) xs i _ c.loop-tag-test.true before.0)) ∙ before.2)
