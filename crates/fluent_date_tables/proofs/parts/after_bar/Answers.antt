use Rattle.std.proofs.Common.{◌≡◌, ◌≢◌, ◌∙◌, ◌+◌, ◌<◌, suc, ap, sym, subst, drop, length, get_or, arith}
use Rattle.std.proofs.lemmas.Str.{IsCharBoundary-after_ascii}
use Rattle.fluent_date_tables.specs.Parts.{skipped}
use Rattle.fluent_date_tables.proofs.SkippedParts.{skipped_at_bar, skipped_at_other}
use Rattle.fluent_date_tables.proofs.parts.after_bar.Goals as goal
use Rattle.fluent_date_tables.proofs.parts.after_bar.Goals.{then-byte-eq124+else-left-eq0, else-byte-eq124}

pub range_from-requires : goal.range_from-requires
range_from-requires c _ =
    let same = c.as_bytes-byte-items.ensures.value in
    let at = c.loop-at.at in
    let inside : at < length c.args.text.now = subst (λ t. at < length t) same c.loop-at-test.true in
    let bar : get_or c.args.text.now at 0 ≡ 124 = subst (λ t. get_or t at 0 ≡ 124) same c.if-byte-eq124.true in
    IsCharBoundary-after_ascii c.args.text.now at c.utf8.text inside (omega (arith, bar))

pub loop-at-preserved : goal.loop-at-preserved
loop-at-preserved c =
    let text = c.args.text.now in
    let same = c.as_bytes-byte-items.ensures.value in
    let at = c.loop-at.at in
    let left = c.loop-at.left in
    let inside : at < length text = subst (λ t. at < length t) same c.loop-at-test.true in
    elim c.if-byte-eq124.branch [
      | then-byte-eq124+else-left-eq0 w ↦
          (let bar : get_or text at 0 ≡ 124 = subst (λ t. get_or t at 0 ≡ 124) same w.if-byte-eq124.true in
          let less : suc c.if-byte-eq124.left ≡ left = omega (arith, w.left-is, w.if-left-eq0.false) in
          ap (λ n. skipped (drop (at + 1) text) n) less ∙ sym (skipped_at_bar text at left inside bar) ∙ c.loop-at.invariant)
      | else-byte-eq124 w ↦
          (let other : get_or text at 0 ≢ 124 = subst (λ t. get_or t at 0 ≢ 124) same w.if-byte-eq124.false in
          ap (λ n. skipped (drop (at + 1) text) (suc n)) w.left-is
          ∙ sym (skipped_at_other text at left inside other)
          ∙ c.loop-at.invariant)
    ]
