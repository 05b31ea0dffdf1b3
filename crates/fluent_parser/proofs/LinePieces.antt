-- A piece by what its line's row says.
use Rattle.std.proofs.Common.{◌≡◌, true, false, drop, refl, None}
use Rattle.fluent_grammar.specs.Words.{Text, spaces}
use Rattle.fluent_grammar.specs.Refusal.{got}
use Rattle.fluent_grammar.specs.Lines.{pattern_ends}
use Rattle.fluent_tokens.specs.Lookup.{is_last_feed}
use Rattle.fluent_parser.specs.Steps.{piece_by, kept_piece_by, piece_behind}

pub kept_in_line : (s : Text) → kept_piece_by false s ≡ piece_behind false 0 (drop 0 s)
unfolding kept_piece_by piece_by
kept_in_line s = refl

pub kept_feed : (s : Text) → is_last_feed s ≡ true → kept_piece_by true s ≡ got None (drop 1 s)
unfolding kept_piece_by
kept_feed s h = rw h refl

pub kept_end : (s : Text) → is_last_feed s ≡ false → pattern_ends s ≡ true → kept_piece_by true s ≡ got None s
unfolding kept_piece_by piece_by
kept_end s h e = rw (h, e) refl

pub kept_at_line : (s : Text) → is_last_feed s ≡ false → pattern_ends s ≡ false → kept_piece_by true s ≡ piece_behind true (spaces s) (drop (spaces s) s)
unfolding kept_piece_by piece_by
kept_at_line s h e = rw (h, e) refl
