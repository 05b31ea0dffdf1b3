-- Where a message or a term begins.
use Rattle.std.specs.Prelude.{ℕ, Bool, ◌&&◌, ◌||◌, ◌==◌, if◌then◌else◌, [], ◌∷◌}
use Rattle.fluent_grammar.specs.Words.{Text, line_feed, hyphen, is_letter}

-- a byte that a message or a term can begin with, at column 0
abbrev pub starts_entry : ℕ → Bool
starts_entry c = is_letter c || c == hyphen

-- The first place, from here on, that is at column 0 and holds such a byte; otherwise the end of the text.
abbrev pub next_start : Bool → Text → Text
next_start column_zero [] = []
next_start column_zero (c ∷ cs) = if column_zero && starts_entry c then c ∷ cs else next_start (c == line_feed) cs
