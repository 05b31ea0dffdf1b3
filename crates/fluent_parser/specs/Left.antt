-- The pieces of what is left of a source, and where they begin.
use Rattle.std.specs.Prelude.{ℕ, suc, ◌-◌, List, length}
use Rattle.fluent_grammar.specs.Words.{Text}
use Rattle.fluent_grammar.specs.Tiling.{Piece, pieces_from, runtime_pieces_from}
use Rattle.fluent_text.specs.declared.slice.Texts.{Ghosts}
use Rattle.fluent_parser.specs.Starts.{starts_left}
use Rattle.fluent_parser.specs.declared.parser.Parser.{Parser}

-- the pieces of the end of a source of so many bytes
unfoldable pub pieces_left : ℕ → Text → List Piece
pieces_left total s = pieces_from (suc (length s)) (total - length s) s

-- the same, read for use at run time
unfoldable pub runtime_left : ℕ → Text → List Piece
runtime_left total s = runtime_pieces_from (suc (length s)) (total - length s) s

-- the pieces that a parser stands before
abbrev pub pieces_ahead : {S T : Type 0} {texts : Ghosts T S} → Parser S T texts → List Piece
pieces_ahead p = pieces_left (length p.text.now) p.rest.now

-- the same, read for use at run time
abbrev pub runtime_ahead : {S T : Type 0} {texts : Ghosts T S} → Parser S T texts → List Piece
runtime_ahead p = runtime_left (length p.text.now) p.rest.now

-- where the pieces begin that a parser stands before
abbrev pub starts_ahead : {S T : Type 0} {texts : Ghosts T S} → Parser S T texts → List ℕ
starts_ahead p = starts_left (length p.text.now) p.rest.now
