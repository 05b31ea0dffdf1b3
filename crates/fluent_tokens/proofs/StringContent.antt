-- What a scan of the bytes says of the content of a string.
use Rattle.std.proofs.Common.{◌≡◌, ◌≢◌, ℕ, suc, ◌+◌, ◌-◌, ◌<◌, ◌≤◌, true, false, ◌||◌, [], ◌∷◌, ◌++◌, length, take, drop, get_or, refl, sym, ap, ◌∙◌, arith, append_assoc}
use Rattle.std.specs.Prelude.{◌==◌, nat_le}
use Rattle.std.specs.List.{prefix_len}
use Rattle.std.proofs.Math.Seq.{take-add, drop-length}
use Rattle.std.proofs.lemmas.Bool.Decides.{nat_tests}
use Rattle.std.proofs.lemmas.List.{length-drop, drop-drop, get_or-drop, append-nil}
use Rattle.fluent_grammar.specs.Words as w
use Rattle.fluent_tokens.specs.Counted.{character_or_space}
use Rattle.fluent_grammar.specs.Words.{Text, hex_digits}
use Rattle.fluent_grammar.specs.Refusal.{Kind, Reading, got, refused, refuse, mapped, ◌>>=◌}
use Rattle.fluent_grammar.specs.Refusal as r
use Rattle.fluent_grammar.specs.Reading.{string_content, before, missing_hex}
use Rattle.fluent_tokens.specs.declared.strings.StringStep.{StringStep}
use Rattle.fluent_tokens.specs.declared.strings.StringStep.TheVariants as step
use Rattle.fluent_tokens.specs.Counted.{IsStringStep, IsHexStep, Cuts}
use Rattle.fluent_tokens.proofs.Counted.{cut_by_ascii, cut_before_ascii, cut_end}
use Rattle.fluent_tokens.proofs.Scanned.{test_eq, test_ne, begins_at}

pub part_one : (s : Text) → 0 < length s → get_or s 0 0 ≢ 34 → get_or s 0 0 ≢ 10 → get_or s 0 0 ≢ 92 → string_content s ≡ before (take 1 s) (string_content (drop 1 s))
unfolding string_content
part_one [] h a b d = absurd (omega arith)
part_one (c ∷ []) h a b d = rw (test_ne c 34 a, test_ne c 10 b, test_ne c 92 d) refl
part_one (c ∷ e ∷ es) h a b d = rw (test_ne c 34 a, test_ne c 10 b, test_ne c 92 d) refl

pub quote_begins : (s : Text) → 0 < length s → get_or s 0 0 ≡ 34 → w.begins_with w.quote s ≡ true
quote_begins [] h e = absurd (omega arith)
quote_begins (c ∷ cs) h e = test_eq c 34 e

pub line_feed_begins : (s : Text) → 0 < length s → get_or s 0 0 ≡ 10 → w.begins_with w.line_feed s ≡ true
line_feed_begins [] h e = absurd (omega arith)
line_feed_begins (c ∷ cs) h e = test_eq c 10 e

backslash_begins : (s : Text) → 0 < length s → get_or s 0 0 ≡ 92 → w.begins_with w.backslash s ≡ true
backslash_begins [] h e = absurd (omega arith)
backslash_begins (c ∷ cs) h e = test_eq c 92 e

pub escape_at_end : (s : Text) → 0 < length s → get_or s 0 0 ≡ 92 → length s < 2 → IsStringStep s step.UnknownEscape
unfolding string_content
escape_at_end [] h e l = absurd (omega arith)
escape_at_end (c ∷ []) h e l = let x : c ≡ 92 = e in (test_eq c 92 e, rw x refl)
escape_at_end (c ∷ d ∷ ds) h e l = absurd (omega arith)

pub escape_plain : (s : Text) (b : ℕ) → get_or s 0 0 ≡ 92 → 2 ≤ length s → get_or s 1 0 ≡ b → (b == 92 || b == 34) ≡ true → IsStringStep s (step.Part 2)
unfolding string_content
escape_plain [] b e l f g = absurd (omega arith)
escape_plain (c ∷ []) b e l f g = absurd (omega arith)
escape_plain (c ∷ d ∷ ds) b e l f g = let x : c ≡ 92 = e in let y : d ≡ b = f in (rw (x, y, g) refl, omega arith, omega arith)

pub escape_unknown : (s : Text) → get_or s 0 0 ≡ 92 → 2 ≤ length s → get_or s 1 0 ≢ 92 → get_or s 1 0 ≢ 34 → get_or s 1 0 ≢ 117 → get_or s 1 0 ≢ 85 → IsStringStep s step.UnknownEscape
unfolding string_content
escape_unknown [] e l f g h i = absurd (omega arith)
escape_unknown (c ∷ []) e l f g h i = absurd (omega arith)
escape_unknown (c ∷ d ∷ ds) e l f g h i = let x : c ≡ 92 = e in (test_eq c 92 e, rw (x, test_ne d 92 f, test_ne d 34 g, test_ne d 117 h, test_ne d 85 i) refl)

le_true : (a b : ℕ) → a ≤ b → nat_le a b ≡ true
le_true a b h = grind (arith, nat_tests)

le_false : (a b : ℕ) → b < a → nat_le a b ≡ false
le_false a b h = grind (arith, nat_tests)

hex_yes : (n : ℕ) (s : Text) → n ≤ prefix_len w.is_hex_digit s → hex_digits n s ≡ true
unfolding hex_digits
hex_yes n s h = le_true _ _ h

hex_no : (n : ℕ) (s : Text) → prefix_len w.is_hex_digit s < n → hex_digits n s ≡ false
unfolding hex_digits
hex_no n s h = le_false _ _ h

pub escape_small : (s : Text) (found : StringStep) → get_or s 0 0 ≡ 92 → 2 ≤ length s → get_or s 1 0 ≡ 117 → IsHexStep 4 (prefix_len w.is_hex_digit (drop 2 s)) found → IsStringStep s found
unfolding string_content
escape_small [] found e l f g = absurd (omega arith)
escape_small (c ∷ []) found e l f g = absurd (omega arith)
escape_small (c ∷ d ∷ ds) (step.Part count) e l f g = let x : c ≡ 92 = e in let y : d ≡ 117 = f in rw g.1 (rw (x, y, hex_yes 4 ds g.0) refl, omega arith, omega arith)
escape_small (c ∷ d ∷ ds) step.Quote e l f g = absurd g
escape_small (c ∷ d ∷ ds) step.LineFeed e l f g = absurd g
escape_small (c ∷ d ∷ ds) step.UnknownEscape e l f g = absurd g
escape_small (c ∷ d ∷ ds) (step.MissingDigit count) e l f g = let x : c ≡ 92 = e in let y : d ≡ 117 = f in (test_eq c 92 e, omega arith, omega arith, rw (x, y, hex_no 4 ds g.0) refl, g.1)

pub escape_capital : (s : Text) (found : StringStep) → get_or s 0 0 ≡ 92 → 2 ≤ length s → get_or s 1 0 ≡ 85 → IsHexStep 6 (prefix_len w.is_hex_digit (drop 2 s)) found → IsStringStep s found
unfolding string_content
escape_capital [] found e l f g = absurd (omega arith)
escape_capital (c ∷ []) found e l f g = absurd (omega arith)
escape_capital (c ∷ d ∷ ds) (step.Part count) e l f g = let x : c ≡ 92 = e in let y : d ≡ 85 = f in rw g.1 (rw (x, y, hex_yes 6 ds g.0) refl, omega arith, omega arith)
escape_capital (c ∷ d ∷ ds) step.Quote e l f g = absurd g
escape_capital (c ∷ d ∷ ds) step.LineFeed e l f g = absurd g
escape_capital (c ∷ d ∷ ds) step.UnknownEscape e l f g = absurd g
escape_capital (c ∷ d ∷ ds) (step.MissingDigit count) e l f g = let x : c ≡ 92 = e in let y : d ≡ 85 = f in (test_eq c 92 e, omega arith, omega arith, rw (x, y, hex_no 6 ds g.0) refl, g.1)

-- composing
pub before_none : (x : Reading Text) → x ≡ before [] x
before_none (got a rest) = refl
before_none (refused fault) = refl

before_before : (a b : Text) (x : Reading Text) → before a (before b x) ≡ before (a ++ b) x
before_before a b (got c rest) = ap (λ (z : Text). got z rest) (sym (append_assoc a b c))
before_before a b (refused fault) = refl

pub string_more : (s : Text) (end count : ℕ) → end ≤ length s → string_content s ≡ before (take end s) (string_content (drop end s))
    → string_content (drop end s) ≡ before (take count (drop end s)) (string_content (drop count (drop end s)))
    → string_content s ≡ before (take (end + count) s) (string_content (drop (end + count) s))
string_more s end count h e f =
    e ∙ ap (before (take end s)) f ∙ before_before (take end s) (take count (drop end s)) (string_content (drop count (drop end s)))
    ∙ ap (λ (z : Text). before z (string_content (drop count (drop end s)))) (sym (take-add end count s))
    ∙ ap (λ (z : Text). before (take (end + count) s) (string_content z)) (drop-drop count end s)

content_quote : (s : Text) → w.begins_with w.quote s ≡ true → string_content s ≡ got [] (drop 1 s)
unfolding string_content
content_quote [] h = absurd cc
content_quote (c ∷ []) h = rw h refl
content_quote (c ∷ d ∷ ds) h = rw h refl

content_line_feed : (s : Text) → w.begins_with w.line_feed s ≡ true → string_content s ≡ refuse r.unterminated_string_literal s
unfolding string_content
content_line_feed [] h = absurd cc
content_line_feed (c ∷ []) h = let x : c ≡ 10 = grind (arith, nat_tests) in rw x refl
content_line_feed (c ∷ d ∷ ds) h = let x : c ≡ 10 = grind (arith, nat_tests) in rw x refl

content_end : string_content [] ≡ refuse (r.expected_token w.quote) []
unfolding string_content
content_end = refl

pub ends_in_quote : (s : Text) (end : ℕ) → end ≤ length s → string_content s ≡ before (take end s) (string_content (drop end s)) → w.begins_with w.quote (drop end s) ≡ true
    → (string_content s ≡ got (take end s) (drop (suc end) s)) × (w.begins_with w.quote (drop end s) ≡ true) × Cuts s end
ends_in_quote s end h e q =
    let b = begins_at s end w.quote h q in
    let n : end + 1 ≡ suc end = omega arith in (
      e ∙ ap (before (take end s)) (content_quote (drop end s) q) ∙ ap (λ (z : Text). got z (drop 1 (drop end s))) (append-nil (take end s)) ∙ ap (got (take end s)) (drop-drop 1 end s ∙ ap (λ (k : ℕ). drop k s) n),
      q,
      cut_before_ascii s end b.0 (rw b.1 (omega arith)),
    )

pub ends_in_line_feed : (s : Text) (end : ℕ) → end ≤ length s → string_content s ≡ before (take end s) (string_content (drop end s)) → w.begins_with w.line_feed (drop end s) ≡ true
    → (string_content s ≡ refuse r.unterminated_string_literal (drop end s)) × Cuts s end
ends_in_line_feed s end h e q =
    let b = begins_at s end w.line_feed h q in
    (e ∙ ap (before (take end s)) (content_line_feed (drop end s) q), cut_before_ascii s end b.0 (rw b.1 (omega arith)))

pub ends_in_nothing : (s : Text) (end : ℕ) → end ≤ length s → length s ≤ end → string_content s ≡ before (take end s) (string_content (drop end s))
    → (string_content s ≡ refuse (r.expected_token w.quote) (drop end s)) × Cuts s end
ends_in_nothing s end h k e =
    let l : end ≡ length s = omega arith in
    let d : drop end s ≡ [] = rw l (drop-length s) in
    (e ∙ ap (λ (z : Text). before (take end s) (string_content z)) d ∙ ap (before (take end s)) content_end ∙ ap (refuse (r.expected_token w.quote)) (sym d), cut_end s end l)

pub ends_in_escape : (s : Text) (end : ℕ) → end ≤ length s → string_content s ≡ before (take end s) (string_content (drop end s)) → IsStringStep (drop end s) step.UnknownEscape
    → (string_content s ≡ refuse (r.unknown_escape_sequence (character_or_space (drop (suc end) s))) (drop end s)) × (w.begins_with w.backslash (drop end s) ≡ true) × Cuts s end
ends_in_escape s end h e q =
    let b = begins_at s end w.backslash h q.0 in
    let n : end + 1 ≡ suc end = omega arith in (
      e ∙ ap (before (take end s)) q.1 ∙ ap (λ (z : Text). refuse (r.unknown_escape_sequence (character_or_space z)) (drop end s)) (drop-drop 1 end s ∙ ap (λ (k : ℕ). drop k s) n),
      q.0,
      cut_before_ascii s end b.0 (rw b.1 (omega arith)),
    )

before_missing : (a s : Text) → before a (missing_hex s) ≡ missing_hex s
unfolding missing_hex
before_missing a s = refl

pub ends_in_hex : (s : Text) (end count : ℕ) → end ≤ length s → string_content s ≡ before (take end s) (string_content (drop end s)) → IsStringStep (drop end s) (step.MissingDigit count)
    → (string_content s ≡ missing_hex (drop (end + 2) s)) × (end + 2 + prefix_len w.is_hex_digit (drop (end + 2) s) ≡ end + 2 + count) × Cuts s (end + 2)
ends_in_hex s end count h e q =
    let l : end + 2 ≤ length s = omega (arith, q.1, length-drop end s) in
    let n : end + 2 - 1 ≡ end + 1 = omega arith in (
      e ∙ ap (before (take end s)) q.3 ∙ before_missing (take end s) (drop 2 (drop end s)) ∙ ap (λ (z : Text). missing_hex {A = Text} z) (drop-drop 2 end s),
      ap (λ (k : ℕ). end + 2 + k) (ap (λ (z : Text). prefix_len w.is_hex_digit z) (sym (drop-drop 2 end s)) ∙ sym q.4),
      cut_by_ascii s (end + 2) l (λ _. rw n (rw (get_or-drop end s 1 0) at q.2)),
    )
