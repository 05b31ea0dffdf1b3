use Rattle.std.proofs.Common.{◌≡◌, ◌∙◌, ◌+◌, true, false, [], ◌∷◌, take, drop, sym, ap, arith}
use Rattle.std.proofs.lemmas.Grind.{common_steps}
use Rattle.lint_findings.specs.Escapes.{is_no_character}
use Rattle.lint_flaws.specs.Escape.{digit_count}
use Rattle.lint_flaws.proofs.Digits.{escape_cut}
use Rattle.lint_flaws.proofs.EscapeThere.{no_digits, shown, two_cut}
use Rattle.lint_flaws.proofs.escape.invalid_escape.Goals as goal

pub returns-then-count-eq0 : goal.returns-then-count-eq0
returns-then-count-eq0 c = no_digits c.args.text.now (sym (c.digit_count-count.ensures ∙ ap digit_count c.as_bytes.ensures.value) ∙ c.if-count-eq0.true)

pub range_from-requires : goal.range_from-requires
range_from-requires c =
    let s = c.args.text.now in
    let e : c.digit_count-count.result ≡ digit_count s = c.digit_count-count.ensures ∙ ap digit_count c.as_bytes.ensures.value in
    λ _. (two_cut s (omega (arith, e, c.if-count-eq0.false))).boundary c.utf8.text

pub range-requires-clause-end_boundary : goal.range-requires-clause-end_boundary
range-requires-clause-end_boundary c =
    let s = c.args.text.now in
    let n = c.digit_count-count.result in
    let h : is_no_character n (drop 2 s) ≡ true = ap (is_no_character n) (sym c.range_from.ensures.value) ∙ sym c.is_no_character.ensures ∙ c.if-is_no_character.true in
    (escape_cut s n (omega (arith, c.if-count-eq0.false)) h).boundary c.utf8.text

pub returns-then-is_no_character : goal.returns-then-is_no_character
returns-then-is_no_character c =
    let s = c.args.text.now in
    let n = c.digit_count-count.result in
    let e : n ≡ digit_count s = c.digit_count-count.ensures ∙ ap digit_count c.as_bytes.ensures.value in
    let h : is_no_character n (drop 2 s) ≡ true = ap (is_no_character n) (sym c.range_from.ensures.value) ∙ sym c.is_no_character.ensures ∙ c.if-is_no_character.true in
    let front : c.range.result.now ≡ take (2 + n) s = grind (arith, common_steps, c.range.ensures.value) in
    ap (λ x. x ∷ []) front ∙ shown s n c.requires e (omega (arith, c.if-count-eq0.false)) h
