-- How the pieces of a pattern are gathered as elements that still have their indents.
use Rattle.std.specs.Prelude.{◌≡◌, ℕ, Bool, true, false, List, [], ◌∷◌, ◌++◌, replicate, Option}
use Rattle.fluent_grammar.specs.Words.{space, spaces}
use Rattle.fluent_grammar.specs.Lines.{Piece, at_line_start, in_line, placed, ends_line, dedented}
use Rattle.fluent_ast.specs.View.{Element, text, placeable}

-- the element of a piece, a text with its leading spaces
abbrev pub undented : Piece → Element
undented (at_line_start n s) = text (replicate n space ++ s)
undented (in_line s) = text s
undented (placed z e) = placeable e

-- the element of a piece without this common indent
abbrev pub dedented_piece : Option ℕ → Piece → Element
dedented_piece common (at_line_start n s) = text (dedented common n s)
dedented_piece common (in_line s) = text s
dedented_piece common (placed z e) = placeable e

-- whether a line begins after a piece
abbrev pub line_after : Piece → Bool
line_after (at_line_start n s) = ends_line s
line_after (in_line s) = ends_line s
line_after (placed z e) = false

-- Whether a piece may stand where a line begins, or doesn't. The count of a text's leading spaces is all of them.
abbrev pub Fits : Bool → Piece → Type 0
Fits line (at_line_start n s) = (line ≡ true) × (spaces s ≡ 0)
Fits true (in_line s) = spaces s ≡ 0
Fits false (in_line s) = Unit {0}
Fits line (placed z e) = Unit {0}

-- pieces that may stand one after the other
abbrev pub IsLined : Bool → List Piece → Type 0
IsLined line [] = Unit {0}
IsLined line (p ∷ ps) = Fits line p × IsLined (line_after p) ps

-- whether a line begins after pieces
abbrev pub line_behind_all : Bool → List Piece → Bool
line_behind_all line [] = line
line_behind_all line (p ∷ ps) = line_behind_all (line_after p) ps
