-- The lines of a stream of bytes. A line ends before a line feed; a carriage return is part of its line.
use Rattle.std.specs.Prelude.{◌≡◌, ◌⊎◌, ◌==◌, true, not, List, [], ◌∷◌, ◌++◌}
use Rattle.std.specs.List.{slice_split, list_all}
use Rattle.fluent_serve.specs.Text.{Text, line_feed}

-- the bytes cut at their line feeds: one part more than there are line feeds
abbrev pub parts_of : Text → List Text
parts_of bytes = slice_split (λ b. b == line_feed) bytes

abbrev pub all_but_last : List Text → List Text
all_but_last [] = []
all_but_last (p ∷ []) = []
all_but_last (p ∷ q ∷ ps) = p ∷ all_but_last (q ∷ ps)

abbrev pub last_part : List Text → Text
last_part [] = []
last_part (p ∷ []) = p
last_part (p ∷ q ∷ ps) = last_part (q ∷ ps)

-- the lines that a line feed ends
unfoldable pub whole_lines : Text → List Text
whole_lines bytes = all_but_last (parts_of bytes)

-- what is after the last line feed
unfoldable pub unfinished : Text → Text
unfinished bytes = last_part (parts_of bytes)

-- a line, if it holds a byte
abbrev pub unless_empty : Text → List Text
unless_empty [] = []
unless_empty (b ∷ bs) = (b ∷ bs) ∷ []

-- all lines: a last one without line feed counts if it holds a byte
unfoldable pub lines_of : Text → List Text
lines_of bytes = whole_lines bytes ++ unless_empty (unfinished bytes)

-- a line without line feed
abbrev pub IsUnfinished : Text → Type 0
IsUnfinished line = list_all (λ b. not (b == line_feed)) line ≡ true

-- a stream that no line is cut off at the end of: it is empty, or ends in a line feed
abbrev pub EndsWhole : Text → Type 0
EndsWhole bytes = (bytes ≡ []) ⊎ ((front : Text) × (bytes ≡ front ++ (line_feed ∷ [])))
