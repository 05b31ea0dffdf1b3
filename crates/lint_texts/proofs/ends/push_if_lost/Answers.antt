use Rattle.std.proofs.Common.{◌≡◌, ◌∙◌, ◌∷◌, [], ◌++◌, true, if◌then◌else◌, map, ap, sym}
use Rattle.std.specs.List.{list_all}
use Rattle.std.proofs.lemmas.Result.{on_ok_weaker}
use Rattle.fluent_ast.specs.Borrowed.{elements_of}
use Rattle.lint_findings.specs.Doubts as d
use Rattle.lint_findings.specs.Edges as e
use Rattle.lint_findings.specs.Finding.{note, remark}
use Rattle.lint_findings.specs.Runs as r
use Rattle.lint_markup.specs.InCode.{said, said_on_text, spotted_views, texts_of}
use Rattle.lint_texts.specs.InCode.{sign_view}
use Rattle.std.proofs.Common.{codes}
use Rattle.lint_texts.proofs.ends.push_if_lost.Goals as goal

pub returns-then-branch : goal.returns-then-branch
returns-then-branch c =
    let ends = r.ends (elements_of c.args.pattern.now) in
    let old = spotted_views c.args.found.now.items in
    let lost = d.on_text (d.lost_sign (sign_view c.args.sign)) ∷ [] in
    let all : list_all e.is_signless ends ≡ true =
    ap (list_all e.is_signless) (sym c.in_ok-mine.ensures ∙ ap texts_of (sym c.deref.ensures.value)) ∙ sym c.in_ok-are_signless.ensures ∙ c.if-branch.true in
    on_ok_weaker c.push_note.result
    (λ added. added
    ∙ ap (λ w. old ++ said_on_text (remark note (codes "final-punctuation") w) ∷ []) c.sign_words.ensures
    ∙ ap (λ b. old ++ map said (if b then lost else [])) (sym all))
    c.push_note.ensures
