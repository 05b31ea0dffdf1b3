-- What reading a piece of a pattern does to the elements that were gathered before it.
use Rattle.std.specs.Prelude.{◌≡◌, Bool, ◌++◌, ◌∷◌, [], map, Option, Some, None, Result, Ok, Err}
use Rattle.fluent_grammar.specs.Words.{Text}
use Rattle.fluent_grammar.specs.Refusal.{Reading, got}
use Rattle.fluent_grammar.specs.Lines.{Piece, indent_of, lesser}
use Rattle.fluent_ast.specs.View.{element_view}
use Rattle.fluent_parsed.specs.declared.gathered.IndentedElements.{IndentedElements}
use Rattle.fluent_parsed.specs.Pieces.{undented}
use Rattle.fluent_text.specs.declared.slice.Texts.{Ghosts}
use Rattle.fluent_parser.specs.Reads.{Fails}
use Rattle.fluent_parser.specs.declared.fault.Fault.{Fault}
use Rattle.fluent_parser.specs.declared.parser.Parser.{Parser}

module _ (S : Type 0) (text_of : S → Text) where
  -- a piece was put after what was gathered, with its leading spaces
  pub record Puts (old new : IndentedElements S) (piece : Piece) : Type 0 where
    pub elements : map (element_view S text_of) new.elements.items ≡ map (element_view S text_of) old.elements.items ++ undented piece ∷ []
    pub begins_line : new.begins_line ≡ old.begins_line
    pub common_indent : new.common_indent ≡ lesser old.common_indent (indent_of piece)

  -- reading gave a piece, which was put there, and whether it ends its line
  pub record PutsRead (old new : IndentedElements S) (rest : Text) (ends_line : Bool) (read : Reading (Option (Piece × Bool))) : Type 0 where
    pub piece : Piece
    pub read_is : read ≡ got (Some (piece, ends_line)) rest
    pub puts : Puts old new piece

  -- What a reader of a piece returned, and what it left, are what reading gives, unless memory ran out.
  abbrev pub GivesPiece : IndentedElements S → IndentedElements S → Text → Result (Option Bool) Fault → Reading (Option (Piece × Bool)) → Type 0
  GivesPiece old new rest (Ok None) read = (read ≡ got None rest) × (new ≡ old)
  GivesPiece old new rest (Ok (Some ends_line)) read = PutsRead old new rest ends_line read
  GivesPiece old new rest (Err e) read = Fails e rest read

-- the same, where reading goes from where the parser stood
abbrev pub ReadsPiece : {S T : Type 0} {texts : Ghosts T S} → (S → Text) → IndentedElements S → IndentedElements S → Parser S T texts → Parser S T texts → Result (Option Bool) Fault → (Text → Reading (Option (Piece × Bool))) → Type 0
ReadsPiece text_of before after old new result reading = GivesPiece _ text_of before after new.rest.now result (reading old.rest.now)
