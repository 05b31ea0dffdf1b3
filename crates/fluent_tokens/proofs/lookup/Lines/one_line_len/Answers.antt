use Rattle.std.proofs.Common.{◌≡◌, ◌∙◌, ℕ, List, drop, true, Ok, sym, ap, subst}
use Rattle.fluent_grammar.specs.Words.{Text, begins}
use Rattle.fluent_tokens.specs.Counted.{IsText, starts_text}
use Rattle.fluent_tokens.specs.declared.row.Row.{Row}
use Rattle.fluent_tokens.specs.Lookup.{with_line_feed, is_last_line}
use Rattle.fluent_tokens.proofs.OneLines.{one_line, all_three}
use Rattle.fluent_tokens.proofs.lookup.Lines.one_line_len.Goals as goal

pub plain_text_len-requires-clause-plain : goal.plain_text_len-requires-clause-plain
plain_text_len-requires-clause-plain c =
    let told = all_three _ _ _ c.if-is_told.true in
    let here = c.from-text.ensures ∙ ap (drop c.args.place) c.find-row.ensures.text in
    rw (here, c.saturating_sub.ensures) (c.find-row.ensures.holds.plain told.0)

pub returns-then-is_told-clause-value : goal.returns-then-is_told-clause-value
returns-then-is_told-clause-value c =
    let place = c.args.place in
    let s = drop place c.args.self.now.text.now in
    let row = c.find-row.result in
    let told = all_three _ _ _ c.if-is_told.true in
    let holds = c.find-row.ensures.holds in
    let count = c.plain_text_len.result in
    let here = c.from-text.ensures ∙ ap (drop place) c.find-row.ensures.text in
    let begun : begins starts_text s ≡ true = ap (begins starts_text) (sym here) ∙ sym c.begins_text.ensures ∙ told.1 in
    let last = ap (λ (rows : List Row). is_last_line row rows) (sym c.later.ensures) ∙ sym c.is_last_line.ensures ∙ told.2 in
    let len = c.plain_text_len.ensures.len ∙ ap (λ (t : Text). with_line_feed c.saturating_sub.result t) here ∙ ap (λ (k : ℕ). with_line_feed k s) (c.saturating_sub.ensures ∙ holds.end) in
    one_line s place count row _ holds.end holds.behind begun last len (subst (λ (t : Text). IsText t (Ok count)) here c.plain_text_len.ensures.value)
