-- The cut text of a source: what is left of it without its junk.
use Rattle.std.specs.Prelude.{ℕ, ◌-◌, List, [], ◌∷◌, ◌++◌, take, drop}
use Rattle.fluent_grammar.specs.Words.{Text}
use Rattle.fluent_grammar.specs.Tiling.{ParserError, errors}
use Rattle.fluent_grammar.specs.Tiles.{Part, blank_block, entry, junk, passed_over}

-- What is left of a text that begins at this offset, without the slices of these errors, which ascend.
abbrev pub without_slices : ℕ → List ParserError → Text → Text
without_slices at [] s = s
without_slices at (error ∷ others) s = take (error.slice_start - at) s ++ without_slices error.slice_end others (drop (error.slice_end - at) s)

-- The cut text: a source without the ranges of its junk.
abbrev pub cut : Text → Text
cut source = without_slices 0 (errors source) source

-- the same by the parts of a tiling: their texts, but for junk
abbrev pub kept : List Part → Text
kept [] = []
kept (blank_block s ∷ parts) = s ++ kept parts
kept (entry s e ∷ parts) = s ++ kept parts
kept (junk s kind place ∷ parts) = kept parts
kept (passed_over s ∷ parts) = s ++ kept parts
