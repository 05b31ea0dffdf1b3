use Rattle.std.proofs.Common.{◌∙◌, ◌+◌, ◌∷◌, drop, option_map, sym, ap, arith}
use Rattle.lint_findings.specs.Scripts.{ascii_letter, letters_at}
use Rattle.lint_flaws.specs.Letters.{script_view}
use Rattle.lint_flaws.proofs.FirstLetters.{ascii_first, letter_from, pair_first}
use Rattle.lint_flaws.proofs.scripts.letter_at.Goals as goal

pub returns-in-len1-up : goal.returns-in-len1-up
returns-in-len1-up c =
    let n = c.args.before in
    let s = c.args.text.now in (
      ascii_first n s c.in-len1-up.len_at_least (sym c.is_ascii_alphabetic.ensures.value ∙ c.if-is_ascii_alphabetic.true)
          ∙ ap (λ m. ascii_letter n m ∷ letters_at (n + 1) (drop 1 s)) (sym c.from.ensures),
      omega arith,
      c.in-len1-up.len_at_least,
    )

pub returns-in-Some : goal.returns-in-Some
returns-in-Some c =
    let n = c.args.before in
    let s = c.args.text.now in
    let x = script_view c.in-Some.script in (
      pair_first n s x c.in-len2-up.len_at_least (sym c.is_ascii_alphabetic.ensures.value ∙ c.if-is_ascii_alphabetic.false)
          (sym c.pair_script.ensures ∙ ap (option_map script_view) c.in-Some.is)
          ∙ ap (λ m. letter_from x m n ∷ letters_at (n + 2) (drop 2 s)) (sym c.pair_number-number.ensures),
      omega arith,
      c.in-len2-up.len_at_least,
    )
