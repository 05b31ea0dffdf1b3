use Rattle.std.proofs.Common.{◌≡◌, ◌∙◌, map, Some, sym, ap, length, arith}
use Rattle.lint_findings.specs.Scripts.{first_letter, letters_at}
use Rattle.lint_flaws.specs.Letters.{letter_view}
use Rattle.lint_flaws.proofs.FirstLetters.{letters_before}
use Rattle.lint_flaws.proofs.scripts.push_word.Goals as goal

pub push_mixed-requires : goal.push_mixed-requires
push_mixed-requires c = λ x l found.
    let t = c.args.text.now in
    let same : map letter_view c.deref.result.now ≡ letters_at 0 t = ap (map letter_view) c.deref.ensures.value ∙ c.in_ok-letters.ensures in
    let at : first_letter x (letters_at 0 t) ≡ Some l = ap (first_letter x) (sym same) ∙ found in
    omega (arith, letters_before (length t) 0 t (omega arith) x l at, c.requires)

pub push_mixed-requires-2 : goal.push_mixed-requires-2
push_mixed-requires-2 c = λ x l found.
    let t = c.args.text.now in
    let same : map letter_view c.deref-2.result.now ≡ letters_at 0 t = ap (map letter_view) c.deref-2.ensures.value ∙ c.in_ok-letters.ensures in
    let at : first_letter x (letters_at 0 t) ≡ Some l = ap (first_letter x) (sym same) ∙ found in
    omega (arith, letters_before (length t) 0 t (omega arith) x l at, c.requires)

pub push_mixed-requires-3 : goal.push_mixed-requires-3
push_mixed-requires-3 c = λ x l found.
    let t = c.args.text.now in
    let same : map letter_view c.deref-3.result.now ≡ letters_at 0 t = ap (map letter_view) c.deref-3.ensures.value ∙ c.in_ok-letters.ensures in
    let at : first_letter x (letters_at 0 t) ≡ Some l = ap (first_letter x) (sym same) ∙ found in
    omega (arith, letters_before (length t) 0 t (omega arith) x l at, c.requires)
