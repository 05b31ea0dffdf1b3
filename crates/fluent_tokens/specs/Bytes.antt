-- Tests of single bytes. Only the crate's private clauses cite them.
use Rattle.std.specs.Prelude.{ℕ, Bool, not, ◌||◌, ◌==◌}
use Rattle.memchr.specs.Find.{is_byte, is_byte3}
use Rattle.fluent_grammar.specs.Words.{is_name_byte, space, open_brace, close_brace, line_feed}

-- a byte that no identifier has
abbrev pub is_no_name_byte : ℕ → Bool
is_no_name_byte c = not (is_name_byte c)

-- a byte that is no space
abbrev pub is_no_space : ℕ → Bool
is_no_space c = not (c == space)

-- a line feed
abbrev pub is_line_feed : ℕ → Bool
is_line_feed = is_byte line_feed

-- an opening or a closing brace
abbrev pub is_brace : ℕ → Bool
is_brace c = c == open_brace || c == close_brace

-- a brace or a line feed, where a text stops
abbrev pub is_stop : ℕ → Bool
is_stop = is_byte3 open_brace close_brace line_feed
