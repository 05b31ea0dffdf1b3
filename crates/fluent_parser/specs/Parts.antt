-- The parts of a source as they are read.
use Rattle.std.specs.Prelude.{ℕ, ◌-◌, Bool, length, take}
use Rattle.fluent_grammar.specs.Words.{Text}
use Rattle.fluent_grammar.specs.Refusal.{Reading, got, refused}
use Rattle.fluent_grammar.specs.Tree as t
use Rattle.fluent_grammar.specs.Reading.{entry_at}
use Rattle.fluent_text.specs.declared.slice.Texts.{Ghosts}
use Rattle.fluent_parser.specs.declared.parser.Parser.{Parser}
use Rattle.fluent_grammar.specs.Tiling.{Piece, entry, junk, error_of, behind_junk}

-- the piece at the front of a text that begins at this offset, from the reading of an entry there
abbrev pub piece_of : ℕ → Bool → Text → Reading t.Entry → Piece
piece_of at apart s (got e rest) = entry apart e
piece_of at apart s (refused fault) = junk (take (length s - length (behind_junk s fault.at)) s) (error_of at s fault)

-- the piece that a parser stands before, after a blank line or not
abbrev pub next_piece : {S T : Type 0} {texts : Ghosts T S} → Parser S T texts → Bool → Piece
next_piece p apart = piece_of (length p.text.now - length p.rest.now) apart p.rest.now (entry_at p.rest.now)

-- what follows that piece
abbrev pub behind_piece : Text → Reading t.Entry → Text
behind_piece s (got e rest) = rest
behind_piece s (refused fault) = behind_junk s fault.at
