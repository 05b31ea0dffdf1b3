use Rattle.std.proofs.Common.{◌∙◌, ◌++◌, ap, sym, append-nil, arith}
use Rattle.std.proofs.lemmas.List.{length-drop}
use Rattle.lint_nodes.specs.HasNames.{texts}
use Rattle.lint_comparison.proofs.PlainTexts.{none_of_more}
use Rattle.lint_comparison.proofs.words.+plain.Goals as goal

pub push_plain-returns-in-len1-up-more : goal.push_plain-returns-in-len1-up-more
push_plain-returns-in-len1-up-more t c =
    let so_far = texts c.args.texts.now.items in
    let es = c.args.elements.now in
    sym (append-nil so_far) ∙ ap (λ l. so_far ++ l) (sym (none_of_more es (omega (arith, c.in-len1-up.len_at_least, c.in-len1-up-more.len_at_least, length-drop 1 es))))
