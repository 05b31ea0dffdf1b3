use Rattle.std.proofs.Common.{◌≡◌, ◌∙◌, true, sym, ap, rules}
use Rattle.fluent_tidy.specs.TidyText.{begins_with_mark}
use Rattle.fluent_tidy.proofs.PlainTexts.{mark_ends}
use Rattle.fluent_tidy.proofs.plain.without_mark.Goals as goal

pub range_from-requires : goal.range_from-requires
range_from-requires c =
    let mark : begins_with_mark c.args.text.now ≡ true = ap begins_with_mark (sym c.as_bytes.ensures.value) ∙ sym c.begins_with_mark.ensures ∙ c.if-begins_with_mark.true in
    λ _. mark_ends c.args.text.now mark c.utf8.text
