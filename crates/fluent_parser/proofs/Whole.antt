-- Readers of enough levels read what they read with themselves inside.
use Rattle.std.proofs.Common.{◌≡◌, ℕ, suc, ◌<◌, Bool, List, [], ◌∷◌, length, refl, arith}
use Rattle.fluent_grammar.specs.Words.{Text}
use Rattle.fluent_grammar.specs.Reading as g
use Rattle.fluent_grammar.specs.Reading.{Readers, readers}
use Rattle.fluent_grammar.proofs.Within.{readers-fair, end-same, end-le}
use Rattle.fluent_grammar.proofs.Depth.{Agree, levels_are_enough, inline-alike, arguments-alike, variants-alike, line-alike, pieces-alike, pattern-alike}
use Rattle.fluent_parser.specs.Reads.{whole}

agree : (n : ℕ) (w : Text) → length w < n → Agree w (readers n) whole
unfolding whole
agree n w h = record {
  inline = λ {s} e. let l = end-le e in record { same = (levels_are_enough n (suc (length s)) s (omega (arith, l)) (omega arith)).inline };
  arguments = λ names {s} e. let l = end-le e in record { same = (levels_are_enough n (suc (length s)) s (omega (arith, l)) (omega arith)).arguments names };
  variants = λ marked {s} e. let l = end-le e in record { same = (levels_are_enough n (suc (length s)) s (omega (arith, l)) (omega arith)).variants marked };
  line = λ {s} e. let l = end-le e in record { same = (levels_are_enough n (suc (length s)) s (omega (arith, l)) (omega arith)).line };
  pieces = λ {s} e. let l = end-le e in record { same = (levels_are_enough n (suc (length s)) s (omega (arith, l)) (omega arith)).pieces };
}

pub whole-inline : (s : Text) → whole.inline s ≡ g.inline_at whole s
unfolding whole g.inline_at
whole-inline [] = refl
whole-inline (c ∷ cs) = (inline-alike (readers (length (c ∷ cs))) whole cs (agree (length (c ∷ cs)) cs (omega arith)) (readers-fair (length (c ∷ cs))) (c ∷ cs) (end-same cs)).same

pub whole-arguments : (names : List Text) (s : Text) → whole.arguments names s ≡ g.arguments_at whole names s
unfolding whole g.arguments_at
whole-arguments names [] = refl
whole-arguments names (c ∷ cs) = (arguments-alike (readers (length (c ∷ cs))) whole cs (agree (length (c ∷ cs)) cs (omega arith)) (readers-fair (length (c ∷ cs))) names (c ∷ cs) (end-same cs)).same

pub whole-variants : (marked : Bool) (s : Text) → whole.variants marked s ≡ g.variants_at whole marked s
unfolding whole g.variants_at g.variant_or_end_at
whole-variants marked [] = refl
whole-variants marked (c ∷ cs) = (variants-alike (readers (length (c ∷ cs))) whole cs (agree (length (c ∷ cs)) cs (omega arith)) (readers-fair (length (c ∷ cs))) marked (c ∷ cs) (end-same cs)).same

pub whole-line : (s : Text) → whole.line s ≡ g.line_at whole s
unfolding whole g.line_at
whole-line [] = refl
whole-line (c ∷ cs) = (line-alike (readers (length (c ∷ cs))) whole cs (agree (length (c ∷ cs)) cs (omega arith)) (readers-fair (length (c ∷ cs))) (c ∷ cs) (end-same cs)).same

pub whole-pieces : (s : Text) → whole.pieces s ≡ g.pieces_at whole s
unfolding whole g.pieces_at
whole-pieces [] = refl
whole-pieces (c ∷ cs) = (pieces-alike (readers (length (c ∷ cs))) whole cs (agree (length (c ∷ cs)) cs (omega arith)) (readers-fair (length (c ∷ cs))) (c ∷ cs) (end-same cs)).same

pub whole-pattern : (n : ℕ) (s : Text) → length s < n → g.pattern_at (readers n) s ≡ g.pattern_at whole s
whole-pattern n s h = (pattern-alike (readers n) whole s (agree n s h) (readers-fair n) (end-same s)).same
