use Rattle.std.proofs.Common.{◌≡◌, ◌∙◌, ◌++◌, true, false, map, ap, sym}
use Rattle.std.proofs.lemmas.Result.{on_ok_weaker}
use Rattle.lint_findings.specs.Edges.{edge_spaces, final_signs}
use Rattle.lint_findings.specs.Lengths.{empty_beside, is_blank, long_beside}
use Rattle.lint_findings.specs.Pairs.{text_doubts}
use Rattle.lint_findings.specs.Runs.{own_text}
use Rattle.lint_markup.specs.InCode.{es_of, os_of, said, spotted_views, texts_of}
use Rattle.lint_texts.proofs.Doubting.{blank_doubts, other_doubts}
use Rattle.lint_texts.proofs.Named.{adds_both}
use Rattle.lint_texts.proofs.texts.push_doubts.Goals as goal

pub returns-then-is_blank : goal.returns-then-is_blank
returns-then-is_blank c =
    let es = es_of c.args.pair.now in
    let os = os_of c.args.pair.now in
    let blank : is_blank (own_text es) ≡ true = ap is_blank (sym c.text_of.ensures) ∙ sym c.is_blank.ensures ∙ c.if-is_blank.true in
    c.in_ok-push_empty_text.ensures ∙ ap (λ xs. spotted_views c.args.found.now.items ++ map said xs) (sym (blank_doubts es os blank))

pub returns : goal.returns
returns c =
    let es = es_of c.args.pair.now in
    let os = os_of c.args.pair.now in
    let s = texts_of c.args.pair.now.runs.now in
    let o = texts_of c.args.pair.now.others.now in
    let old = c.args.found.now.items in
    let new = c.push_long_text.new.found.items in
    let m0 = c.push_empty_text.new.found.items in
    let m1 = c.push_text_doubts.new.found.items in
    let m2 = c.push_edge_spaces.new.found.items in
    let m3 = c.push_final_signs.new.found.items in
    let f3 = long_beside es os in
    let f2 = final_signs es os ++ f3 in
    let f1 = edge_spaces es os ++ f2 in
    let f0 = text_doubts s o ++ f1 in
    let other : is_blank (own_text es) ≡ false = ap is_blank (sym c.text_of.ensures) ∙ sym c.is_blank.ensures ∙ c.if-is_blank.false in
    on_ok_weaker c.push_long_text.result (λ last.
    adds_both (empty_beside es os) f0 old m0 new c.in_ok-push_empty_text.ensures
    (adds_both (text_doubts s o) f1 m0 m1 new c.in_ok-push_text_doubts.ensures
    (adds_both (edge_spaces es os) f2 m1 m2 new c.in_ok-push_edge_spaces.ensures
    (adds_both (final_signs es os) f3 m2 m3 new c.in_ok-push_final_signs.ensures last)))
    ∙ ap (λ xs. spotted_views old ++ map said xs) (other_doubts es os s o other c.requires.mine c.requires.theirs))
    c.push_long_text.ensures
