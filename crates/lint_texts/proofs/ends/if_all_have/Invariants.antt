use Rattle.std.proofs.Common.{◌≡◌, drop}
use Rattle.std.specs.List.{list_all}
use Rattle.lint_findings.specs.Edges as e
use Rattle.lint_markup.specs.InCode.{texts_of}
use Rattle.lint_texts.specs.InCode.{sign_view}
use Rattle.lint_texts.proofs.ends.if_all_have.Given as goal

-- all so far have it
abbrev pub invariant-loop-text : goal.invariant-loop-text
invariant-loop-text l =
    list_all (e.has_sign (sign_view l.sign)) (texts_of (drop l.text-index l.texts)) ≡ list_all (e.has_sign (sign_view l.sign)) (texts_of l.texts)
