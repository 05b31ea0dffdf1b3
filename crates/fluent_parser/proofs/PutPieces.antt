-- A piece that was put after those that were gathered.
use Rattle.std.proofs.Common.{◌≡◌, ℕ, ◌+◌, Bool, true, false, ◌&&◌, [], ◌∷◌, ◌++◌, length, take, drop, map, refl, ap, subst, ◌∙◌, Option, Some, None}
use Rattle.std.specs.Prelude.{◌==◌, Ok}
use Rattle.std.specs.Bool.{then_some}
use Rattle.std.proofs.lemmas.List.{map-append}
use Rattle.fluent_grammar.specs.Words.{Text, open_brace, begins_with}
use Rattle.fluent_grammar.specs.Refusal.{Reading, got, mapped}
use Rattle.fluent_grammar.specs.Tree as t
use Rattle.fluent_grammar.specs.Lines.{Piece, in_line, placed, ends_line, indent_of, lesser}
use Rattle.fluent_grammar.specs.Reading.{text_run}
use Rattle.fluent_ast.specs.declared.Expression.{Expression}
use Rattle.fluent_ast.specs.declared.PatternElement.{PatternElement}
use Rattle.fluent_ast.specs.declared.PatternElement.TheVariants.{TextElement, Placeable}
use Rattle.fluent_ast.specs.View.{element_view, expression_view}
use Rattle.fluent_ast.proofs.Views.{element_view-TextElement, element_view-Placeable}
use Rattle.fluent_parsed.specs.declared.gathered.IndentedElements.{IndentedElements}
use Rattle.fluent_parsed.specs.Pieces.{undented}
use Rattle.fluent_parser.specs.Pieces.{Puts, PutsRead, GivesPiece}
use Rattle.fluent_parser.specs.Steps.{text_piece, text_step, piece_behind, placed_piece, placeable_piece_by, indent_at}
use Rattle.fluent_parser.proofs.Runs.{text_read, undented_text}

-- a placeable is the next piece
pub placeable_next : (line zero : Bool) (n : ℕ) (u : Text) → (length u == 0) ≡ false → begins_with open_brace u ≡ true → zero ≡ (line && n == 0) → placeable_piece_by zero u ≡ piece_behind line n u
placeable_next line zero n u some brace z = rw (some, brace, z) refl

module _ (S : Type 0) (text_of : S → Text) where
  -- an element was put after what was gathered, with what it says of the common indent
  pub record Pushes (old new : IndentedElements S) (e : PatternElement S) (said : Option ℕ) : Type 0 where
    pub elements : new.elements.items ≡ old.elements.items ++ e ∷ []
    pub begins_line : new.begins_line ≡ old.begins_line
    pub common_indent : new.common_indent ≡ lesser old.common_indent said

  put : (old new : IndentedElements S) (e : PatternElement S) (said : Option ℕ) (p : Piece) → Pushes old new e said → element_view S text_of e ≡ undented p → said ≡ indent_of p → Puts S text_of old new p
  put old new e said p h v i = record {
    elements = ap (map (element_view S text_of)) h.elements ∙ map-append (element_view S text_of) old.elements.items (e ∷ []) ∙ ap (λ z. map (element_view S text_of) old.elements.items ++ z ∷ []) v;
    begins_line = h.begins_line;
    common_indent = h.common_indent ∙ ap (lesser old.common_indent) i;
  }

  pub text_put : (old new : IndentedElements S) (s u rest : Text) (x : S) (line ends : Bool) (n k : ℕ) (said : Option ℕ) → n ≡ indent_at line s → u ≡ drop n s → text_run u ≡ got (take k u) (drop k u)
      → ends ≡ ends_line (take k u) → rest ≡ drop (n + k) s → text_of x ≡ take (n + k) s → said ≡ indent_of (text_piece line n (take k u)) → Pushes old new (TextElement x) said
      → PutsRead S text_of old new rest ends (text_step line n (drop n s))
  text_put old new s u rest x line ends n k said i f run b r t h p =
      let piece = text_piece line n (take k (drop n s)) in
      record {
        piece = piece;
        read_is = text_read s u rest line n k piece ends f run refl b r;
        puts = put old new (TextElement x) said piece p (element_view-TextElement S text_of x ∙ undented_text s (text_of x) line n k i t) (h ∙ ap (λ z. indent_of (text_piece line n (take k z))) f);
      }

  zero_or_none : (z : Bool) (e : Expression S) → then_some z 0 ≡ indent_of (placed z (expression_view S text_of e))
  zero_or_none true e = refl
  zero_or_none false e = refl

  pub placeable_put : (old new : IndentedElements S) (rest : Text) (e : Expression S) (zero : Bool) (said : Option ℕ) (read : Reading t.Expression) → read ≡ got (expression_view S text_of e) rest
      → said ≡ then_some zero 0 → Pushes old new (Placeable e) said → PutsRead S text_of old new rest false (mapped (placed_piece zero) read)
  placeable_put old new rest e zero said read r h p =
      let piece = placed zero (expression_view S text_of e) in
      record {
        piece = piece;
        read_is = rw r refl;
        puts = put old new (Placeable e) said piece p (element_view-Placeable S text_of e) (h ∙ zero_or_none zero e);
      }

  pub feed_put : (old new : IndentedElements S) (rest : Text) (x : S) (read : Reading (Option (Piece × Bool))) → read ≡ got (Some (in_line (text_of x), true)) rest → Pushes old new (TextElement x) None
      → PutsRead S text_of old new rest true read
  feed_put old new rest x read h p = record {
    piece = in_line (text_of x);
    read_is = h;
    puts = put old new (TextElement x) None (in_line (text_of x)) p (element_view-TextElement S text_of x) refl;
  }

  -- what a reader that returned without an error says
  pub piece_put : (old new : IndentedElements S) (rest : Text) (found : Option Bool) (ends : Bool) (read : Reading (Option (Piece × Bool))) → found ≡ Some ends → GivesPiece S text_of old new rest (Ok found) read → PutsRead S text_of old new rest ends read
  piece_put old new rest found ends read e h = subst (λ o. GivesPiece S text_of old new rest (Ok o) read) e h

  pub no_piece : (old new : IndentedElements S) (rest : Text) (found : Option Bool) (read : Reading (Option (Piece × Bool))) → found ≡ None → GivesPiece S text_of old new rest (Ok found) read → (read ≡ got None rest) × (new ≡ old)
  no_piece old new rest found read e h = subst (λ o. GivesPiece S text_of old new rest (Ok o) read) e h
