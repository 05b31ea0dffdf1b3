use Rattle.std.proofs.Common.{◌≡◌, ◌-◌, ◌∙◌, ℕ, List, drop, take, length, true, refl, sym, ap, subst, arith}
use Rattle.std.specs.Prelude.{Ok}
use Rattle.std.proofs.lemmas.List.{length-drop}
use Rattle.fluent_grammar.specs.Words.{Text}
use Rattle.fluent_tokens.specs.Counted.{IsText, is_plain}
use Rattle.fluent_tokens.proofs.Scanned.{test_ne}
use Rattle.fluent_tokens.specs.declared.row.Row.{Row}
use Rattle.fluent_tokens.specs.Table.{Line, line_at, row_view}
use Rattle.fluent_tokens.specs.Lookup.{feeds_last, with_line_feed}
use Rattle.fluent_tokens.proofs.IndentedTexts.{cut_after, spaces_within, line_left, plain_left, text_left}
use Rattle.fluent_tokens.proofs.LineEnds.{line_len}
use Rattle.fluent_tokens.proofs.OneLines.{feed_told}
use Rattle.fluent_tokens.proofs.lookup.Lines.plain_line.Goals as goal

pub from-text-requires : goal.from-text-requires
from-text-requires c =
    let place = c.args.place in
    let text = c.args.self.now.text.now in
    let row = c.find-row.result in
    let line : row_view row ≡ line_at place (drop place text) = c.find-row.ensures.holds.first c.requires.line_start in
    let within = spaces_within (drop place text) row.spaces (ap (λ (l : Line). l.spaces) line) in
    omega (arith, c.requires.within, within, length-drop place text, ap length c.find-row.ensures.text)

pub plain_text_len-count-requires-clause-line : goal.plain_text_len-count-requires-clause-line
plain_text_len-count-requires-clause-line c =
    let s = drop c.args.place c.args.self.now.text.now in
    let n = c.find-row.result.spaces in
    let holds = c.find-row.ensures.holds in
    let line : row_view c.find-row.result ≡ line_at c.args.place s = holds.first c.requires.line_start in
    let len = c.saturating_sub-len.ensures ∙ ap (λ (k : ℕ). k - n) (c.saturating_sub.ensures ∙ holds.end) in
    line_left s n c.saturating_sub-len.result (ap (λ (l : Line). l.spaces) line) len
    ∙ ap line_len (sym (cut_after c.args.place c.find-row.result.spaces c.find-row.ensures.text c.from-text.ensures))

pub plain_text_len-count-requires-clause-plain : goal.plain_text_len-count-requires-clause-plain
plain_text_len-count-requires-clause-plain c =
    let s = drop c.args.place c.args.self.now.text.now in
    let n = c.find-row.result.spaces in
    let holds = c.find-row.ensures.holds in
    let plain = subst (λ (k : ℕ). is_plain (take k s) ≡ true) holds.end (holds.plain c.if-not-row.false) in
    let len = c.saturating_sub-len.ensures ∙ ap (λ (k : ℕ). k - n) (c.saturating_sub.ensures ∙ holds.end) in
    subst (λ (u : Text). is_plain (take c.saturating_sub-len.result u) ≡ true) (sym (cut_after c.args.place c.find-row.result.spaces c.find-row.ensures.text c.from-text.ensures))
    (plain_left s n c.saturating_sub-len.result plain len)

pub returns-clause-line : goal.returns-clause-line
returns-clause-line c =
    let place = c.args.place in
    let s = drop place c.args.self.now.text.now in
    let row = c.find-row.result in
    let n = row.spaces in
    let holds = c.find-row.ensures.holds in
    let line : row_view row ≡ line_at place s = holds.first c.requires.line_start in
    let plain = subst (λ (k : ℕ). is_plain (take k s) ≡ true) holds.end (holds.plain c.if-not-row.false) in
    let len = c.saturating_sub-len.ensures ∙ ap (λ (k : ℕ). k - n) (c.saturating_sub.ensures ∙ holds.end) in
    let here = cut_after c.args.place c.find-row.result.spaces c.find-row.ensures.text c.from-text.ensures in
    let last = c.feeds_last.ensures ∙ ap (λ (rows : List Row). feeds_last row rows place) c.later.ensures ∙ feed_told s place row _ holds.end holds.behind in
    let spaced = ap (λ (l : Line). l.spaces) line in
    let count = c.plain_text_len-count.result in
    record {
      feed = sym last ∙ c.if-feeds_last.false;
      pattern = sym (ap (λ (l : Line). l.ends_pattern) line) ∙ c.if-row.false;
      indent_is = spaced;
      text = text_left s _ c.saturating_sub-len.result spaced (line_left s n c.saturating_sub-len.result spaced len) (plain_left s n c.saturating_sub-len.result plain len)
          (subst (λ (u : Text). IsText u (Ok count)) here c.plain_text_len-count.ensures.value) (c.plain_text_len-count.ensures.len ∙ ap (with_line_feed c.saturating_sub-len.result) here)
          (test_ne count 0 c.if-count-eq0.false) refl refl;
    }
