use Rattle.std.proofs.Common.{◌≡◌, ◌∙◌, ◌+◌, ◌++◌, List, ℕ, map, drop, Some, None, sym, ap, subst, append_assoc, append-nil, arith, Bor}
use Rattle.std.proofs.lemmas.Grind.{common_steps}
use Rattle.memchr.specs.Find.{IsFirstByte, is_byte}
use Rattle.fluent_grammar.specs.Words.{Text}
use Rattle.lint_findings.specs.Typing.{curly_from}
use Rattle.lint_texts.specs.Quotes.{if_curly}
use Rattle.lint_texts.proofs.QuoteSteps.{next_quote, no_quote}
use Rattle.lint_texts.proofs.quotes.push_curly.Goals as goal

pub loop-next-preserved : goal.loop-next-preserved
loop-next-preserved c =
    let s = c.args.text.now in
    let i = c.loop-next.place in
    let k = c.in-Some.next in
    let at = c.range_from.result.now in
    let old = map (λ (x : Bor Text). x.now) c.loop-next.ends.items in
    let view : c.skip.result.now ≡ drop i s = c.skip.ensures ∙ ap (drop i) c.as_bytes.ensures.value in
    let found = subst (λ (x : List ℕ). IsFirstByte (is_byte 0xE2) x (Some k)) view c.in-Some.ensures in
    let here : at ≡ drop (i + k) s = grind (arith, common_steps, c.range_from.ensures.value) in
    ap (λ xs. xs ++ curly_from (drop (i + k + 1) s)) c.in_ok-push_if_curly.ensures
    ∙ append_assoc old (if_curly at) (curly_from (drop (i + k + 1) s))
    ∙ ap (λ t. old ++ (if_curly t ++ curly_from (drop (i + k + 1) s))) here
    ∙ ap (λ xs. old ++ xs) (sym (next_quote s i k found).1)
    ∙ c.loop-next.invariant

pub returns : goal.returns
returns c =
    let s = c.args.text.now in
    let i = c.loop-next.place in
    let old = map (λ (x : Bor Text). x.now) c.loop-next.ends.items in
    let view : c.skip.result.now ≡ drop i s = c.skip.ensures ∙ ap (drop i) c.as_bytes.ensures.value in
    let none = subst (λ (x : List ℕ). IsFirstByte (is_byte 0xE2) x None) view c.in_default.ensures in
    sym (append-nil old) ∙ ap (λ xs. old ++ xs) (sym (no_quote (drop i s) none)) ∙ c.loop-next.invariant
