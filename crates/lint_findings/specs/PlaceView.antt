-- What a place is to contracts.
use Rattle.std.specs.Prelude.{◌≡◌, ℕ, ◌-◌, ◌<◌, ◌≤◌, ◌==◌, nat_lt, ◌&&◌, if◌then◌else◌, ◌++◌, length, drop, slice_index, codes, decimal}
use Rattle.std.specs.Str.{chars}
use Rattle.fluent_grammar.specs.Words.{Text, carriage_return, line_feed}
use Rattle.lint_findings.specs.Position.{Position, position_of, line_from, to_line_end}
use Rattle.lint_findings.specs.declared.places.SourcePosition.{SourcePosition}

abbrev pub place_position : SourcePosition → Position
place_position p = record { line = p.line; column = p.column }

-- `LINE:COLUMN`
abbrev pub place_text : SourcePosition → Text
place_text p = decimal p.line ++ (codes ":" ++ decimal p.column)

-- a line begins at this offset
abbrev pub BeginsLine : Text → ℕ → Type 0
BeginsLine source at = 0 < at → slice_index source (at - 1) ≡ line_feed

-- no line feed is at this offset
abbrev pub IsNoFeed : Text → ℕ → Type 0
IsNoFeed source at = slice_index source at ≡ line_feed → ⊥

-- no line feed is from this offset on up to that one
abbrev pub NoFeeds : Text → ℕ → ℕ → Type 0
NoFeeds source at end = (j : ℕ) → at ≤ j → j < end → IsNoFeed source j

-- the first line feed from this offset on is there
pub record IsNextFeed (source : Text) (at feed : ℕ) : Type 0 where
  pub not_before : at ≤ feed
  pub within : feed < length source
  pub ends : slice_index source feed ≡ line_feed
  pub first : NoFeeds source at feed

-- Whether this is a place of the source: its line and column are those of its offset, and its line begins where it
-- says.
pub record IsPlaceIn (source : Text) (p : SourcePosition) : Type 0 where
  pub within : p.offset ≤ length source
  pub before : p.line_start ≤ p.offset
  pub begins : BeginsLine source p.line_start
  pub position : position_of source p.offset ≡ place_position p
  pub line_position : position_of source p.line_start ≡ record { line = p.line; column = 1 }
  pub line : line_from source p.offset source ≡ drop p.line_start source

-- A place with this many characters before it on its line is after this front of the line. It has no more characters,
-- unless the line ends there.
pub record IsAfter (front rest : Text) (count : ℕ) : Type 0 where
  pub not_less : length (chars front) ≤ count
  pub same : 0 < length (chars (to_line_end rest)) → count ≡ length (chars front)

-- An offset, or one less if it is within a line end.
abbrev pub end_of_front : Text → ℕ → ℕ
end_of_front source n =
    if nat_lt 0 n && (nat_lt n (length source) && (slice_index source n == line_feed && slice_index source (n - 1) == carriage_return))
    then n - 1 else n
