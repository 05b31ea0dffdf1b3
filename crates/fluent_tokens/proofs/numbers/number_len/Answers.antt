use Rattle.std.proofs.Common.{◌≡◌, ◌+◌, drop, arith, refl, sym, ap, ◌∙◌}
use Rattle.std.specs.Prelude.{true}
use Rattle.std.specs.List.{prefix_len}
use Rattle.std.specs.Int.{from_bool}
use Rattle.fluent_grammar.specs.Words as w
use Rattle.fluent_tokens.proofs.Counted.{cut_digits}
use Rattle.fluent_tokens.proofs.Scanned.{take_rest, cut_more, sign_cuts, point_cuts, number_none, number_whole, number_no_fraction, number_with_fraction}
use Rattle.fluent_tokens.proofs.numbers.number_len.Goals as goal

pub returns-then-whole-sign : goal.returns-then-whole-sign
returns-then-whole-sign c =
    let s = c.args.text.now in
    let sign = c.from-sign.result in
    let e : sign ≡ from_bool (w.begins_with w.hyphen s) = c.from-sign.ensures ∙ ap from_bool c.begins_with.ensures in
    let d : c.digits_len.result ≡ prefix_len w.is_digit (drop sign s) = rw (take_rest sign s) at c.digits_len.ensures in
    (number_none s sign c.digits_len.result e d (omega arith), cut_more s sign c.digits_len.result _ refl (sign_cuts s sign e) (cut_digits _ _ d))

pub returns-then-not-begins_with : goal.returns-then-not-begins_with
returns-then-not-begins_with c =
    let s = c.args.text.now in
    let sign = c.from-sign.result in
    let e : sign ≡ from_bool (w.begins_with w.hyphen s) = c.from-sign.ensures ∙ ap from_bool c.begins_with.ensures in
    let d : c.digits_len.result ≡ prefix_len w.is_digit (drop sign s) = rw (take_rest sign s) at c.digits_len.ensures in
    let k = sign + c.digits_len.result in
    let p = rw (take_rest k s) at c.begins_with-2.ensures in
    let cut = cut_more s sign c.digits_len.result _ refl (sign_cuts s sign e) (cut_digits _ _ d) in
    (number_whole s sign c.digits_len.result e d (omega arith) cut.within (sym p ∙ c.if-not-begins_with.true), cut)

pub returns-then-end-point : goal.returns-then-end-point
returns-then-end-point c =
    let s = c.args.text.now in
    let sign = c.from-sign.result in
    let e : sign ≡ from_bool (w.begins_with w.hyphen s) = c.from-sign.ensures ∙ ap from_bool c.begins_with.ensures in
    let d : c.digits_len.result ≡ prefix_len w.is_digit (drop sign s) = rw (take_rest sign s) at c.digits_len.ensures in
    let k = sign + c.digits_len.result in
    let p = rw (take_rest k s) at c.begins_with-2.ensures in
    let f : c.digits_len-2.result ≡ prefix_len w.is_digit (drop (k + 1) s) = rw (take_rest (k + 1) s) at c.digits_len-2.ensures in
    let q : w.begins_with w.dot (drop k s) ≡ true = sym p ∙ c.if-not-begins_with.false in
    let cut = cut_more s sign c.digits_len.result _ refl (sign_cuts s sign e) (cut_digits _ _ d) in (
      number_no_fraction s sign c.digits_len.result (k + 1) c.digits_len-2.result e d (omega arith) refl q f (omega arith),
      cut_more s (k + 1) c.digits_len-2.result _ refl (point_cuts s k cut.within q) (cut_digits _ _ f),
    )

pub returns-else-end-point : goal.returns-else-end-point
returns-else-end-point c =
    let s = c.args.text.now in
    let sign = c.from-sign.result in
    let e : sign ≡ from_bool (w.begins_with w.hyphen s) = c.from-sign.ensures ∙ ap from_bool c.begins_with.ensures in
    let d : c.digits_len.result ≡ prefix_len w.is_digit (drop sign s) = rw (take_rest sign s) at c.digits_len.ensures in
    let k = sign + c.digits_len.result in
    let p = rw (take_rest k s) at c.begins_with-2.ensures in
    let f : c.digits_len-2.result ≡ prefix_len w.is_digit (drop (k + 1) s) = rw (take_rest (k + 1) s) at c.digits_len-2.ensures in
    let q : w.begins_with w.dot (drop k s) ≡ true = sym p ∙ c.if-not-begins_with.false in
    let cut = cut_more s sign c.digits_len.result _ refl (sign_cuts s sign e) (cut_digits _ _ d) in
    let all = cut_more s (k + 1) c.digits_len-2.result _ refl (point_cuts s k cut.within q) (cut_digits _ _ f) in
    (number_with_fraction s sign c.digits_len.result (k + 1) c.digits_len-2.result e d (omega arith) refl q f (omega arith) all.within, all)
