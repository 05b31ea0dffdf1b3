-- The pieces of a pattern, gathered one after the other.
use Rattle.std.proofs.Common.{◌≡◌, ℕ, Bool, List, [], ◌∷◌, ◌++◌, map, refl, sym, ap, subst, ◌∙◌, None}
use Rattle.std.proofs.lemmas.List.{map-append}
use Rattle.fluent_grammar.specs.Words.{Text, after_line_end}
use Rattle.fluent_grammar.specs.Refusal.{got, mapped}
use Rattle.fluent_grammar.specs.Lines as l
use Rattle.fluent_grammar.specs.Lines.{Piece}
use Rattle.fluent_grammar.specs.Reading as g
use Rattle.fluent_ast.specs.View.{element_view}
use Rattle.fluent_parsed.specs.declared.gathered.IndentedElements.{IndentedElements}
use Rattle.fluent_parsed.specs.Elements.{value_by}
use Rattle.fluent_parsed.specs.Pieces.{undented, IsLined, Fits, line_behind_all}
use Rattle.fluent_parsed.proofs.Gathering.{common_more, lined_more, behind_more, gathered_value}
use Rattle.fluent_parser.specs.Pieces.{PutsRead}
use Rattle.fluent_parser.specs.Reads.{whole}
use Rattle.fluent_parser.specs.Steps.{pattern_behind, pieces_by, kept_piece_by, first_place}
use Rattle.fluent_parser.proofs.Cycle.{pieces_start, piece_read}
use Rattle.fluent_parser.proofs.LastFeeds.{kept_some, kept_end}
use Rattle.fluent_parser.proofs.FittingPieces.{piece_stands}

module _ (S : Type 0) (text_of : S → List ℕ) where
  -- What was gathered of the pattern that begins with u are some pieces, and what is left of it are the pieces read from here on.
  pub record Gathers (gathered : IndentedElements S) (line : Bool) (rest u : Text) : Type 0 where
    pub pieces : List Piece
    pub elements : map (element_view S text_of) gathered.elements.items ≡ map undented pieces
    pub common : gathered.common_indent ≡ l.common_indent pieces
    pub lined : IsLined gathered.begins_line pieces
    pub line_is : line ≡ line_behind_all gathered.begins_line pieces
    pub same : mapped (λ more. pieces ++ more) (pieces_by line rest) ≡ g.first_pieces_at whole u (after_line_end u)

  pub gathers_none : (gathered : IndentedElements S) (line : Bool) (rest u : Text) → gathered.elements.items ≡ [] → gathered.begins_line ≡ line → gathered.common_indent ≡ None →
      (line, rest) ≡ first_place u (after_line_end u) → Gathers gathered line rest u
  gathers_none gathered line rest u e b c p = record {
    pieces = [];
    elements = ap (map (element_view S text_of)) e;
    common = c;
    lined = tt;
    line_is = sym b;
    same = pieces_start (λ (q : Piece). q) [] line u rest (after_line_end u) refl p;
  }

  pub gathers_more : (old new : IndentedElements S) (line next : Bool) (s rest u : Text) → Gathers old line s u → PutsRead S text_of old new rest next (kept_piece_by line s) → Gathers new next rest u
  gathers_more old new line next s rest u h r =
      let p = r.piece in
      let taken = kept_some line s rest (p, next) r.read_is in
      let stands = piece_stands line s rest p next taken in
      record {
        pieces = h.pieces ++ p ∷ [];
        elements = r.puts.elements ∙ ap (λ z. z ++ undented p ∷ []) h.elements ∙ sym (map-append undented h.pieces (p ∷ []));
        common = r.puts.common_indent ∙ ap (λ z. l.lesser z (l.indent_of p)) h.common ∙ sym (common_more h.pieces p);
        lined = subst (λ (z : Bool). IsLined z (h.pieces ++ p ∷ [])) (sym r.puts.begins_line) (lined_more old.begins_line h.pieces p h.lined (subst (λ (z : Bool). Fits z p) h.line_is stands.1));
        line_is = stands.0 ∙ sym (behind_more new.begins_line h.pieces p);
        same = piece_read h.pieces line next s rest p (g.first_pieces_at whole u (after_line_end u)) h.same taken;
      }

  pub gathers_all : (gathered : IndentedElements S) (line : Bool) (s rest u : Text) → Gathers gathered line s u → kept_piece_by line s ≡ got None rest →
      pattern_behind u ≡ got (value_by gathered.begins_line gathered.common_indent (map (element_view S text_of) gathered.elements.items)) rest
  gathers_all gathered line s rest u h k =
      kept_end s u rest line h.pieces h.same k
      ∙ ap (λ z. got z rest) (sym (ap (λ z. value_by gathered.begins_line z (map (element_view S text_of) gathered.elements.items)) h.common
      ∙ ap (value_by gathered.begins_line (l.common_indent h.pieces)) h.elements
      ∙ gathered_value gathered.begins_line h.pieces h.lined))
