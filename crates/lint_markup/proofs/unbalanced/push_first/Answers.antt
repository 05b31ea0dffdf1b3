use Rattle.std.proofs.Common.{◌≡◌, ◌∙◌, ◌++◌, List, map, false, sym, ap, append-nil, string_bytes, arith}
use Rattle.std.specs.Prelude.{◌==◌}
use Rattle.std.proofs.lemmas.List.{drop_all}
use Rattle.std.proofs.lemmas.Result.{on_ok_weaker}
use Rattle.lint_findings.specs.Doubts.{Spotted}
use Rattle.lint_findings.specs.Markup as m
use Rattle.lint_findings.specs.Tags as t
use Rattle.lint_markup.specs.InCode.{said, spotted_view, spotted_views, tags_of, texts_of}
use Rattle.lint_markup.proofs.Listed.{uneven_here}
use Rattle.lint_markup.proofs.unbalanced.push_first.Goals as goal

pub returns-then-not-is_even : goal.returns-then-not-is_even
returns-then-not-is_even c =
    let x = c.args.element.now in
    let s = string_bytes c.text-item.result in
    let old = spotted_views c.args.found.now.items in
    let tags : tags_of c.in_ok-tags.tags.items ≡ t.tags_in s = c.in_ok-tags.ensures ∙ ap t.tags_in c.as_str.ensures.value in
    let looked : tags_of c.deref.result.now ≡ t.tags_in s = ap tags_of c.deref.ensures.value ∙ tags in
    let uneven : m.is_even x s ≡ false = ap (λ (ts : List t.Tag). m.opened x ts == m.closed x ts) (sym looked) ∙ sym c.is_even.ensures ∙ c.if-not-is_even.true in
    let is =
    ap (m.unbalanced_in x) (ap tags_of c.deref-then-not-is_even.ensures.value ∙ tags)
    ∙ sym (uneven_here x c.args.texts.now c.loop-text.text-index c.text-item.result c.loop-text-test.true c.text-item.is uneven)
    ∙ c.loop-text.invariant.1 in
    on_ok_weaker c.push_unclosed.result
    (λ added. added ∙ ap (λ xs. map spotted_view xs ++ map said (m.unbalanced_in x (tags_of c.deref-then-not-is_even.result.now))) c.loop-text.invariant.0 ∙ ap (λ (ds : List Spotted). old ++ map said ds) is) c.push_unclosed.ensures

pub returns : goal.returns
returns c =
    let x = c.args.element.now in
    let old = spotted_views c.args.found.now.items in
    let none = ap (λ ts. m.unbalanced x (texts_of ts)) (drop_all c.loop-text.text-index c.args.texts.now (omega (arith, c.loop-text-test.false))) in
    ap (map spotted_view) c.loop-text.invariant.0 ∙ sym (append-nil old) ∙ ap (λ (ds : List Spotted). old ++ map said ds) (sym none ∙ c.loop-text.invariant.1)
