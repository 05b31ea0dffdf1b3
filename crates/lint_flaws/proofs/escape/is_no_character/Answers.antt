use Rattle.std.proofs.Common.{◌≡◌, ◌∙◌, ◌≤◌, ◌<◌, not, ◌&&◌, take, sym, ap, arith}
use Rattle.std.specs.List.{prefix_len, list_all}
use Rattle.std.proofs.lemmas.Grind.{common_steps}
use Rattle.fluent_grammar.specs.Words.{is_hex_digit}
use Rattle.fluent_grammar.specs.Escapes.{hex_number, is_scalar}
use Rattle.lint_flaws.proofs.Digits.{hex_cut, front_is_hex, enough, too_few}
use Rattle.lint_flaws.proofs.escape.is_no_character.Goals as goal

pub range-requires-clause-end_boundary : goal.range-requires-clause-end_boundary
range-requires-clause-end_boundary c =
    let le : c.args.count ≤ prefix_len is_hex_digit c.args.text.now = omega (arith, c.hex_len.ensures, c.if-hex_len-count.false) in
    (hex_cut c.args.text.now c.args.count le).boundary c.utf8.text

pub is_scalar-requires-clause-hex : goal.is_scalar-requires-clause-hex
is_scalar-requires-clause-hex c =
    let le : c.args.count ≤ prefix_len is_hex_digit c.args.text.now = omega (arith, c.hex_len.ensures, c.if-hex_len-count.false) in
    let front : c.range.result.now ≡ take c.args.count c.args.text.now = grind (arith, common_steps, c.range.ensures.value) in
    ap (list_all is_hex_digit) front ∙ front_is_hex c.args.text.now c.args.count le

pub returns : goal.returns
returns c =
    let n = c.args.count in
    let s = c.args.text.now in
    let le : n ≤ prefix_len is_hex_digit s = omega (arith, c.hex_len.ensures, c.if-hex_len-count.false) in
    let front : c.range.result.now ≡ take n s = grind (arith, common_steps, c.range.ensures.value) in
    ap not (c.is_scalar.ensures ∙ ap (λ ds. is_scalar (hex_number 0 ds)) front) ∙ sym (ap (λ b. b && not (is_scalar (hex_number 0 (take n s)))) (enough n s le))

pub returns-then-hex_len-count : goal.returns-then-hex_len-count
returns-then-hex_len-count c =
    let n = c.args.count in
    let s = c.args.text.now in
    let lt : prefix_len is_hex_digit s < n = omega (arith, c.hex_len.ensures, c.if-hex_len-count.true) in
    sym (ap (λ b. b && not (is_scalar (hex_number 0 (take n s)))) (too_few n s lt))
