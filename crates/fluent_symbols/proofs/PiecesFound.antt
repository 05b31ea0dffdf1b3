-- Where symbols are referred to in the pieces of a pattern.
use Rattle.std.proofs.Common.{◌≡◌, ◌∙◌, ℕ, Bool, true, false, if◌then◌else◌, List, [], ◌∷◌, ◌++◌, Option, length, refl, sym, ap}
use Rattle.std.specs.Prelude.{◌==◌, ◌&&◌}
use Rattle.fluent_grammar.specs.Words.{Text}
use Rattle.fluent_grammar.specs.Lines.{Piece, at_line_start, in_line, placed, elements_of, elements_from, without_blank_end, common_indent, is_blank_text}
use Rattle.lint_nodes.specs.Rests.{after_texts, placeable_rest, within}
use Rattle.lint_nodes.proofs.RestsAreRead.{none_left}
use Rattle.fluent_symbols.specs.Occurrences.{Occurrence, in_elements, in_expression}

module _ (owner : Text) where
  abbrev pub in_pieces : List Piece → Text → List Occurrence
  in_pieces [] s = []
  in_pieces (at_line_start n x ∷ ps) s = in_pieces ps s
  in_pieces (in_line x ∷ ps) s = in_pieces ps s
  in_pieces (placed z e ∷ ps) s = in_expression owner e (within s) ++ in_pieces ps (after_texts (placeable_rest e s))

  from_pieces : (common : Option ℕ) (ps : List Piece) (s : Text) → in_elements owner (elements_from common ps) s ≡ in_pieces ps s
  from_pieces common [] s = refl
  from_pieces common (at_line_start n x ∷ ps) s = from_pieces common ps s
  from_pieces common (in_line x ∷ ps) s = from_pieces common ps s
  from_pieces common (placed z e ∷ ps) s =
      ap (λ os. in_expression owner e (within s) ++ os) (from_pieces common ps (after_texts (placeable_rest e s)))

  -- a blank text at the end has none
  kept_pieces : (p : Piece) (xs : List Piece) (s : Text) (os : List Occurrence) → in_pieces (p ∷ xs) s ≡ in_pieces xs s → in_pieces xs s ≡ os → (b : Bool) → (b ≡ true → xs ≡ []) →
      in_pieces (if b then [] else p ∷ xs) s ≡ os
  kept_pieces p xs s os skips same true none = sym (ap (λ ys. in_pieces ys s) (none refl)) ∙ same
  kept_pieces p xs s os skips same false none = skips ∙ same

  without_end : (ps : List Piece) (s : Text) → in_pieces (without_blank_end ps) s ≡ in_pieces ps s
  without_end [] s = refl
  without_end (at_line_start n x ∷ ps) s =
      kept_pieces (at_line_start n x) (without_blank_end ps) s (in_pieces ps s) refl (without_end ps s) (is_blank_text x && (length (without_blank_end ps) == 0)) (none_left (is_blank_text x) (without_blank_end ps))
  without_end (in_line x ∷ ps) s =
      kept_pieces (in_line x) (without_blank_end ps) s (in_pieces ps s) refl (without_end ps s) (is_blank_text x && (length (without_blank_end ps) == 0)) (none_left (is_blank_text x) (without_blank_end ps))
  without_end (placed z e ∷ ps) s =
      ap (λ os. in_expression owner e (within s) ++ os) (without_end ps (after_texts (placeable_rest e s)))

  pub of_pieces : (ps : List Piece) (s : Text) → in_elements owner (elements_of ps) s ≡ in_pieces ps s
  of_pieces ps s = from_pieces (common_indent ps) (without_blank_end ps) s ∙ without_end ps s
