-- What a search for the next line feed says.
use Rattle.std.proofs.Common.{◌≡◌, ◌∙◌, ℕ, ◌+◌, ◌-◌, ◌<◌, ◌≤◌, Some, None, length, take, drop, get_or, sym, ap, arith, length-drop}
use Rattle.std.proofs.lemmas.Bool.{eqb-true, eq-eqb}
use Rattle.std.proofs.lemmas.List.{get_or-drop, get_or-take, length-take-le}
use Rattle.fluent_grammar.specs.Words.{Text}
use Rattle.memchr.specs.Find.{IsFirstByte, is_byte}
use Rattle.lint_findings.specs.PlaceView.{IsNextFeed, NoFeeds}

module _ (s : Text) (at end : ℕ) (ordered : at ≤ end) (within : end ≤ length s) where
  abbrev between : Text
  between = take (end - at) (drop at s)

  long : length between ≡ end - at
  long = length-take-le (end - at) (drop at s) (omega (arith, length-drop at s))

  byte_at : (k : ℕ) → k < end - at → get_or between k 0 ≡ get_or s (at + k) 0
  byte_at k inside = get_or-take (end - at) (drop at s) k 0 inside ∙ get_or-drop at s k 0

  feed_between : (j : ℕ) → at ≤ j → j < end → get_or s j 0 ≡ 10 → get_or between (j - at) 0 ≡ 10
  feed_between j after before feed =
      let same : at + (j - at) ≡ j = omega arith in
      byte_at (j - at) (omega arith) ∙ ap (λ i. get_or s i 0) same ∙ feed

  pub next_feed : (k : ℕ) → IsFirstByte (is_byte 10) between (Some k) → IsNextFeed s at (at + k)
  next_feed k found =
      let inside : k < end - at = omega (arith, found.0.high, long) in
      record {
        not_before = omega arith;
        within = omega arith;
        ends = sym (byte_at k inside) ∙ eqb-true (get_or between k 0) 10 found.1;
        first = λ j after before feed.
            found.0.before (j - at) (omega arith) (omega arith)
            (eq-eqb (get_or between (j - at) 0) 10 (feed_between j after (omega arith) feed));
      }

  pub no_feeds : IsFirstByte (is_byte 10) between None → NoFeeds s at end
  no_feeds none = λ j after before feed.
      none (j - at) (omega arith) (omega (arith, long))
      (eq-eqb (get_or between (j - at) 0) 10 (feed_between j after before feed))
