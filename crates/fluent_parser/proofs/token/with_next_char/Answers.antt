use Rattle.std.proofs.Common.{◌≡◌, ◌+◌, ◌-◌, ℕ, length, take, ap, ◌∙◌, arith, subst}
use Rattle.std.specs.Str.{IsUtf8}
use Rattle.fluent_grammar.specs.Reading.{first_char}
use Rattle.fluent_tokens.proofs.Chars.{cut_first, first_char_front}
use Rattle.fluent_parser.proofs.token.with_next_char.Goals as goal

pub range-requires-clause-end_boundary : goal.range-requires-clause-end_boundary
range-requires-clause-end_boundary c =
    let s = c.args.text.now in
    (cut_first s c.args.count c.first_char.result.now (c.first_char.ensures ∙ ap first_char c.behind.ensures) (subst IsUtf8 c.behind.ensures c.behind.utf8) c.requires).boundary c.utf8.text

pub returns : goal.returns
returns c =
    let s = c.args.text.now in
    let n = c.args.count + length c.first_char.result.now in
    let same : n - 0 ≡ n = omega arith in
    c.range.ensures.value ∙ ap (λ (k : ℕ). take k s) same
    ∙ first_char_front s c.args.count c.first_char.result.now (c.first_char.ensures ∙ ap first_char c.behind.ensures) c.requires.within (subst IsUtf8 c.behind.ensures c.behind.utf8)
