use Rattle.std.proofs.Common.{◌≡◌, ◌∙◌, ◌++◌, [], map, append-nil, sym, ap}
use Rattle.std.proofs.lemmas.Result.{on_ok_weaker}
use Rattle.lint_findings.specs.View.{remark_view}
use Rattle.lint_findings.specs.Scripts.{mixed_words}
use Rattle.lint_flaws.proofs.OneScript.{all_words, nothing_mixed}
use Rattle.lint_flaws.proofs.scripts.push_mixed_words.Goals as goal

pub returns-then-has_other_script : goal.returns-then-has_other_script
returns-then-has_other_script c =
    let old = map remark_view c.args.found.now.items in
    let some = sym c.has_other_script.ensures ∙ c.if-has_other_script.true in
    on_ok_weaker c.push_words.result (λ added. added ∙ ap (λ z. old ++ z) (all_words c.args.text.now some)) c.push_words.ensures

pub returns-else-has_other_script : goal.returns-else-has_other_script
returns-else-has_other_script c =
    let old = map remark_view c.args.found.now.items in
    let s = c.args.text.now in
    let none : mixed_words s ≡ [] = nothing_mixed s (sym c.has_other_script.ensures ∙ c.if-has_other_script.false) in
    sym (append-nil old) ∙ ap (λ z. old ++ z) (sym none)
