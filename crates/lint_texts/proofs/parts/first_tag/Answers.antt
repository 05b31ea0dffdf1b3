use Rattle.std.proofs.Common.{◌≡◌, ◌∙◌, ◌+◌, List, ℕ, drop, Some, None, option_map, sym, ap, subst, arith, Bor}
use Rattle.std.proofs.lemmas.Grind.{common_steps}
use Rattle.memchr.specs.Find.{IsFirstByte, is_byte}
use Rattle.fluent_grammar.specs.Words.{Text}
use Rattle.lint_markup.specs.Pieces.{after_tag}
use Rattle.lint_texts.proofs.PartSteps.{at_tag, past_sign, sign_at, to_end, to_sign}
use Rattle.lint_texts.proofs.parts.first_tag.Goals as goal

pub returns-in-Some-after_tag : goal.returns-in-Some-after_tag
returns-in-Some-after_tag c =
    let s = c.args.text.now in
    let i = c.loop-next.place in
    let k = c.in-Some.next in
    let view : c.skip.result.now ≡ drop i s = c.skip.ensures ∙ ap (drop i) c.as_bytes.ensures.value in
    let found = subst (λ (x : List ℕ). IsFirstByte (is_byte 60) x (Some k)) view c.in-Some.ensures in
    let there = to_sign s i k c.loop-next.invariant found in
    let at : c.range_from.result.now ≡ drop (i + k) s = grind (arith, common_steps, c.range_from.ensures.value) in
    let after : after_tag (drop (i + k) s) ≡ Some c.in-Some-after_tag.after.now =
    ap after_tag (sym at) ∙ sym c.after_tag.ensures ∙ ap (option_map (λ (x : Bor Text). x.now)) c.in-Some-after_tag.is in
    at_tag s (i + k) c.in-Some-after_tag.after.now there.0 (sign_at s i k found) there.1 after

pub loop-next-preserved : goal.loop-next-preserved
loop-next-preserved c =
    let s = c.args.text.now in
    let i = c.loop-next.place in
    let k = c.in-Some.next in
    let view : c.skip.result.now ≡ drop i s = c.skip.ensures ∙ ap (drop i) c.as_bytes.ensures.value in
    let found = subst (λ (x : List ℕ). IsFirstByte (is_byte 60) x (Some k)) view c.in-Some.ensures in
    let there = to_sign s i k c.loop-next.invariant found in
    let at : c.range_from.result.now ≡ drop (i + k) s = grind (arith, common_steps, c.range_from.ensures.value) in
    let none : after_tag (drop (i + k) s) ≡ None =
    ap after_tag (sym at) ∙ sym c.after_tag.ensures ∙ ap (option_map (λ (x : Bor Text). x.now)) c.in_default-after_tag.is in
    past_sign s (i + k) there.0 there.1 none

pub returns : goal.returns
returns c =
    let s = c.args.text.now in
    let i = c.loop-next.place in
    let view : c.skip.result.now ≡ drop i s = c.skip.ensures ∙ ap (drop i) c.as_bytes.ensures.value in
    to_end s i c.loop-next.invariant (subst (λ (x : List ℕ). IsFirstByte (is_byte 60) x None) view c.in_default.ensures)
