-- A pattern of one line, read at once.
use Rattle.std.proofs.Common.{◌≡◌, ℕ, zero, suc, Bool, true, false, not, cond, ◌&&◌, ◌||◌, [], ◌∷◌, length, take, drop, refl, sym, ap, ◌∙◌, arith, Some, None}
use Rattle.std.specs.Prelude.{◌==◌}
use Rattle.std.specs.Str.{trim_end}
use Rattle.fluent_grammar.specs.Words.{Text, begins_with, after_line_end, space, line_feed, carriage_return, open_brace}
use Rattle.fluent_grammar.specs.Refusal.{Reading, got, ◌>>=◌}
use Rattle.fluent_grammar.specs.Tree as t
use Rattle.fluent_grammar.specs.Lines.{Piece, in_line, ends_line, pattern_ends, is_blank_text}
use Rattle.fluent_grammar.specs.Reading as g
use Rattle.fluent_tokens.specs.Counted.{starts_text}
use Rattle.fluent_ast.specs.View.{text}
use Rattle.fluent_parsed.specs.Elements.{value_by}
use Rattle.fluent_tokens.proofs.Scanned.{test_of, test_ne}
use Rattle.fluent_parser.specs.Reads.{whole}
use Rattle.fluent_parser.specs.Steps.{pattern_behind, piece_by, kept_piece_by, first_place}
use Rattle.fluent_tokens.specs.Lookup.{is_last_feed, IsOneLine}
use Rattle.fluent_parsed.proofs.Gathering.{gathered_value}
use Rattle.fluent_parser.proofs.Cycle.{pieces_start, piece_read}
use Rattle.fluent_parser.proofs.LastFeeds.{end_piece, kept_end}

-- what a byte is not that begins a text
record Begins (c : ℕ) : Type 0 where
  space : (c == space) ≡ false
  feed : (c == line_feed) ≡ false
  return : (c == carriage_return) ≡ false
  brace : (c == open_brace) ≡ false

none_of_four : (a b d e : Bool) → not (a || (b || (d || e))) ≡ true → (a ≡ false) × (b ≡ false) × (d ≡ false) × (e ≡ false)
none_of_four false false false false h = (refl, refl, refl, refl)
none_of_four false false false true h = absurd cc
none_of_four false false true e h = absurd cc
none_of_four false true d e h = absurd cc
none_of_four true b d e h = absurd cc

begins_text : (c : ℕ) → starts_text c ≡ true → Begins c
begins_text c h =
    let n = none_of_four (c == space) (c == line_feed) (c == carriage_return) (c == open_brace) h in
    record { space = n.0; feed = n.1; return = n.2; brace = n.3 }

-- the text, as a piece
text_first : (c : ℕ) (cs x rest : Text) → Begins c → g.text_run (c ∷ cs) ≡ got x rest → ends_line x ≡ true → piece_by false (c ∷ cs) ≡ got (Some (in_line x, true)) rest
unfolding piece_by
text_first c cs x rest b run ends =
    let n : (length (c ∷ cs) == 0) ≡ false = test_ne (length (c ∷ cs)) 0 (λ e. absurd (omega (arith, e))) in
    rw n (rw b.brace (rw b.return (
    ap (λ (r : Reading Text). r >>= (λ y. got (Some (in_line y.0, ends_line y.0)) y.1)) run
    ∙ ap (λ (z : Bool). got (Some (in_line x, z)) rest) ends)))

no_line_end : (c : ℕ) (cs : Text) → Begins c → (false, c ∷ cs) ≡ first_place (c ∷ cs) (after_line_end (c ∷ cs))
no_line_end c cs b = rw b.feed (rw b.return refl)

-- the end of the pattern after it
end_feed : (cs : Text) → pattern_ends cs ≡ true → kept_piece_by true (line_feed ∷ cs) ≡ got None cs
unfolding kept_piece_by
end_feed cs h = rw h refl

either : (a : Bool) → (a || false) ≡ true → a ≡ true
either true h = refl
either false h = absurd cc

end_case : (c : ℕ) (cs : Text) (b : Bool) → (c == line_feed) ≡ b → (pattern_ends (c ∷ cs) || (b && pattern_ends cs)) ≡ true → kept_piece_by true (c ∷ cs) ≡ got None (cond b cs (c ∷ cs))
unfolding kept_piece_by
end_case c cs true e h = let n : c ≡ line_feed = test_of c line_feed e in rw n (end_feed cs (rw n at h))
end_case c cs false e h = rw e (end_piece (c ∷ cs) (either (pattern_ends (c ∷ cs)) h))

end_here : (s : Text) → (pattern_ends s || is_last_feed s) ≡ true → kept_piece_by true s ≡ got None (cond (begins_with line_feed s) (drop 1 s) s)
unfolding kept_piece_by
end_here [] h = end_piece [] refl
end_here (c ∷ cs) h = end_case c cs (c == line_feed) refl h

-- the pattern
not_blank : (c : ℕ) (cs : Text) (count : ℕ) → Begins c → ends_line (take count (c ∷ cs)) ≡ true → is_blank_text (take count (c ∷ cs)) ≡ false
not_blank c cs zero b e = absurd cc
not_blank c cs (suc n) b e = rw b.space (rw b.feed refl)

value_of_one : (x : Text) → is_blank_text x ≡ false → value_by false None (text x ∷ []) ≡ Some (t.text (trim_end x) t.no_elements)
value_of_one x h = rw h refl

pub one_line : (s : Text) (count : ℕ) → IsOneLine s (Some count) →
    pattern_behind s ≡ got (Some (t.text (trim_end (take count s)) t.no_elements)) (cond (begins_with line_feed (drop count s)) (drop 1 (drop count s)) (drop count s))
one_line [] count h = absurd cc
one_line (c ∷ cs) count h =
    let s = c ∷ cs in
    let x = take count s in
    let rest = drop count s in
    let b = begins_text c h.0 in
    let start = pieces_start (λ (p : Piece). p) [] false s s (after_line_end s) refl (no_line_end c cs b) in
    let same = piece_read [] false true s rest (in_line x) (g.first_pieces_at whole s (after_line_end s)) start (text_first c cs x rest b h.1.0 h.2) in
    let behind = cond (begins_with line_feed rest) (drop 1 rest) rest in
    kept_end rest s behind true (in_line x ∷ []) same (end_here rest h.3)
    ∙ ap (λ z. got z behind) (sym (gathered_value false (in_line x ∷ []) (tt, tt)) ∙ value_of_one x (not_blank c cs count b h.2))
