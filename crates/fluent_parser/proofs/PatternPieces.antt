-- Blank pieces at the end of a pattern.
use Rattle.std.proofs.Common.{◌≡◌, true, cond, ◌&&◌, List, [], ◌∷◌, ◌++◌, length, refl, ap}
use Rattle.std.specs.Prelude.{◌==◌}
use Rattle.fluent_grammar.specs.Lines as l

-- the last piece, if it is blank
pub wbe_blank : (m : List l.Piece) (p : l.Piece) → l.is_blank p ≡ true → l.without_blank_end (m ++ p ∷ []) ≡ l.without_blank_end m
wbe_blank [] p h = rw h refl
wbe_blank (q ∷ m) p h = let i = wbe_blank m p h in ap (λ (z : List l.Piece). cond (l.is_blank q && length z == 0) [] (q ∷ z)) i
