use Rattle.std.proofs.Common.{◌∙◌, ◌∷◌, [], ◌++◌, codes, ap}
use Rattle.std.proofs.lemmas.Result.{on_ok_weaker}
use Rattle.lint_findings.specs.Finding.{note, remark}
use Rattle.lint_markup.specs.InCode.{said_on_text, spotted_views}
use Rattle.lint_texts.proofs.spaces.push_space.Goals as goal

pub returns : goal.returns
returns c =
    let old = spotted_views c.args.found.now.items in
    on_ok_weaker c.push_note.result
    (λ added. added ∙ ap (λ w. old ++ said_on_text (remark note (codes "edge-space") w) ∷ []) c.edge_words.ensures)
    c.push_note.ensures
