use Rattle.std.proofs.Common.{◌≡◌, ◌||◌, arith, get_or, refl, sym, ◌∙◌}
use Rattle.std.specs.Prelude.{◌==◌, true}
use Rattle.std.proofs.lemmas.Bool.Decides.{nat_tests}
use Rattle.std.proofs.lemmas.Bool.{false≢true}
use Rattle.fluent_tokens.proofs.Scanned.{take_rest, test_eq}
use Rattle.fluent_tokens.proofs.StringContent.{escape_at_end, escape_plain, escape_unknown, escape_small, escape_capital}
use Rattle.fluent_tokens.proofs.strings.escape_step.Goals as goal
use Rattle.fluent_tokens.proofs.strings.escape_step.Goals.{then-text-eq92, else-text-eq92}

pub returns-then-text-lt2 : goal.returns-then-text-lt2
returns-then-text-lt2 c = escape_at_end c.args.text.now c.requires.some c.requires.backslash (omega arith)

pub returns-then-text-eq34 : goal.returns-then-text-eq34
returns-then-text-eq34 c =
    let s = c.args.text.now in
    let known : (get_or s 1 0 == 92 || get_or s 1 0 == 34) ≡ true = (elim c.if-text-eq92.branch [ then-text-eq92 w ↦ grind (arith, nat_tests) | else-text-eq92 w ↦ grind (arith, nat_tests) ]) in
    escape_plain s (get_or s 1 0) c.requires.backslash c.if-text-lt2.false refl known

pub returns-then-text-eq117 : goal.returns-then-text-eq117
returns-then-text-eq117 c =
    let s = c.args.text.now in
    escape_small s _ c.requires.backslash c.if-text-lt2.false c.if-text-eq117.true (rw (take_rest 2 s) at c.hex_step.ensures)

pub returns-then-text-eq85 : goal.returns-then-text-eq85
returns-then-text-eq85 c =
    let s = c.args.text.now in
    escape_capital s _ c.requires.backslash c.if-text-lt2.false c.if-text-eq85.true (rw (take_rest 2 s) at c.hex_step-then-text-eq85.ensures)

pub returns-else-text-eq85 : goal.returns-else-text-eq85
returns-else-text-eq85 c =
    elim c.if-text-eq92.branch [
      | then-text-eq92 w ↦ absurd (false≢true (sym c.if-text-eq34.false ∙ w.value-is ∙ test_eq _ 92 w.if-text-eq92.true))
      | else-text-eq92 w ↦ escape_unknown c.args.text.now c.requires.backslash c.if-text-lt2.false w.if-text-eq92.false (grind (arith, nat_tests)) c.if-text-eq117.false c.if-text-eq85.false
    ]
