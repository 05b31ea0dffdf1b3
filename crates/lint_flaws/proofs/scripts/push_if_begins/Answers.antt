use Rattle.std.proofs.Common.{◌≡◌, ◌∙◌, ◌++◌, [], map, append-nil, sym, ap}
use Rattle.lint_findings.specs.View.{remark_view}
use Rattle.lint_flaws.specs.Letters.{word_if_begins}
use Rattle.lint_flaws.proofs.WordSteps.{nothing_alone, nothing_within}
use Rattle.lint_flaws.proofs.scripts.push_if_begins.Goals as goal
use Rattle.lint_flaws.proofs.scripts.push_if_begins.Goals.{then-within-via-then-within, then-within-via-else-within+then-is_ascii_word}

pub returns-then-within : goal.returns-then-within
returns-then-within c =
    let old = map remark_view c.args.found.now.items in
    let n = c.args.place in
    let s = c.args.text.now in
    let none : word_if_begins c.args.within n s ≡ [] =
    elim c.then-within.branch [
      | then-within-via-then-within w ↦ nothing_within n s c.args.within w.if-within.true
      | then-within-via-else-within+then-is_ascii_word w ↦ nothing_alone n s c.args.within (sym w.is_ascii_word.ensures ∙ w.if-is_ascii_word.true)
    ] in
    sym (append-nil old) ∙ ap (λ z. old ++ z) (sym none)
