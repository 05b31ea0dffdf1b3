-- What readers of patterns in plain lines give.
use Rattle.std.specs.Prelude.{◌≡◌, ℕ, Bool, true, false, not, ◌&&◌, if◌then◌else◌, ◌++◌, ◌∷◌, [], drop, map, Option, Some, None, Result, Ok, Err}
use Rattle.fluent_grammar.specs.Words.{Text}
use Rattle.fluent_grammar.specs.Refusal.{got}
use Rattle.fluent_grammar.specs.Lines.{Piece, indent_of, lesser}
use Rattle.fluent_ast.specs.declared.Pattern.{Pattern}
use Rattle.fluent_ast.specs.View.{element_view, pattern_view}
use Rattle.fluent_parsed.specs.declared.dedented.DedentedElements.{DedentedElements}
use Rattle.fluent_parsed.specs.Pieces.{dedented_piece}
use Rattle.fluent_parser.specs.Reads.{Fails}
use Rattle.fluent_tokens.specs.IndentedTexts.{IsTextOf}
use Rattle.fluent_tokens.specs.declared.plain.PlainLine.{PlainLine}
use Rattle.fluent_parser.specs.Steps.{pattern_behind, kept_piece_by, text_from, indent_at}
use Rattle.fluent_parser.specs.declared.fault.Fault.{Fault}

-- A text after its indent is the next piece of a pattern.
pub record IsNextText (at_line_start : Bool) (s : Text) (line : PlainLine) : Type 0 where
  pub indent_is : line.indent ≡ indent_at at_line_start s
  pub text : IsTextOf line (drop line.indent s)
  pub next : kept_piece_by at_line_start s ≡ text_from at_line_start line.indent s

-- what a text says of the common indent: nothing within a line or if it is blank
abbrev pub said : Bool → PlainLine → Option ℕ
said at_line_start line = if at_line_start && not line.is_blank then Some line.indent else None

-- whether a pattern ends here, and what follows it
abbrev pub EndsPattern : Bool → Bool → Text → Text → Type 0
EndsPattern true at_line_start s rest = kept_piece_by at_line_start s ≡ got None rest
EndsPattern false at_line_start s rest = Unit {0}

module _ (S : Type 0) (text_of : S → Text) where
  -- The next piece of a pattern was put, without the indent that was told, and it ends its line or not.
  pub record PutsPiece (at_line_start : Bool) (s rest : Text) (old new : DedentedElements S) (ends_line : Bool) : Type 0 where
    pub piece : Piece
    pub read_is : kept_piece_by at_line_start s ≡ got (Some (piece, ends_line)) rest
    pub elements : map (element_view S text_of) new.elements.items ≡ map (element_view S text_of) old.elements.items ++ dedented_piece (Some old.told) piece ∷ []
    pub told : new.told ≡ old.told
    pub common_indent : new.common_indent ≡ lesser old.common_indent (indent_of piece)

  -- the same, if there was one
  abbrev pub PutsPlain : Bool → Text → Text → DedentedElements S → DedentedElements S → Option Bool → Type 0
  PutsPlain at_line_start s rest old new None = (rest ≡ s) × (new ≡ old)
  PutsPlain at_line_start s rest old new (Some ends_line) = PutsPiece at_line_start s rest old new ends_line

  -- A pattern was read, or nothing.
  abbrev pub GivesPlain : Text → Text → Result (Option (Pattern S)) Fault → Type 0
  GivesPlain s rest (Ok None) = rest ≡ s
  GivesPlain s rest (Ok (Some p)) = pattern_behind s ≡ got (Some (pattern_view S text_of p)) rest
  GivesPlain s rest (Err e) = Fails e rest (pattern_behind s)
