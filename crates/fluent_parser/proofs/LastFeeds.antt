-- The line feed of a blank line after a pattern adds nothing to it.
use Rattle.std.proofs.Common.{◌≡◌, ℕ, Bool, true, false, cond, ◌&&◌, List, [], ◌∷◌, ◌++◌, length, drop, refl, sym, ap, ◌∙◌, arith, Option, Some, None}
use Rattle.std.specs.Prelude.{◌==◌}
use Rattle.fluent_grammar.specs.Words.{Text, line_feed, after_line_end}
use Rattle.fluent_grammar.specs.Refusal.{Reading, got, mapped, ◌>>=◌}
use Rattle.fluent_grammar.specs.Lines as l
use Rattle.fluent_grammar.specs.Lines.{Piece, at_line_start, pattern_ends, elements_of, value_of}
use Rattle.fluent_grammar.specs.Reading as g
use Rattle.fluent_tokens.proofs.Scanned.{test_of, test_ne}
use Rattle.fluent_parser.specs.declared.fault.Fault.{Fault}
use Rattle.fluent_parser.specs.declared.fault.Fault.TheVariants as fault
use Rattle.fluent_parser.specs.Reads.{whole, Fails}
use Rattle.fluent_parser.specs.Steps.{pattern_behind, pieces_by, pieces_after, piece_by, kept_piece_by}
use Rattle.fluent_tokens.specs.Lookup.{is_last_feed}
use Rattle.fluent_parser.proofs.PatternPieces.{wbe_blank}
use Rattle.fluent_parser.proofs.Steps.{pieces_is}
use Rattle.fluent_parser.proofs.Cycle.{pattern_end}

-- a piece that says nothing of the common indent
indent_behind : (ps : List Piece) (p : Piece) → l.indent_of p ≡ None → l.common_indent (ps ++ p ∷ []) ≡ l.common_indent ps
indent_behind [] p h = rw h refl
indent_behind (q ∷ ps) p h = ap (l.lesser (l.indent_of q)) (indent_behind ps p h)

-- a blank piece at the end
blank_behind : (ps : List Piece) (p : Piece) → l.is_blank p ≡ true → l.indent_of p ≡ None → elements_of (ps ++ p ∷ []) ≡ elements_of ps
blank_behind ps p b i =
    ap (λ (z : Option ℕ). l.elements_from z (l.without_blank_end (ps ++ p ∷ []))) (indent_behind ps p i)
    ∙ ap (l.elements_from (l.common_indent ps)) (wbe_blank ps p b)

-- reading one
feed : Piece
feed = at_line_start 0 (line_feed ∷ [])

feed_piece : (cs : Text) → piece_by true (line_feed ∷ cs) ≡ got (Some (feed, true)) cs
unfolding piece_by g.text_run feed
feed_piece cs = let n : (length (line_feed ∷ cs) == 0) ≡ false = test_ne (length (line_feed ∷ cs)) 0 (λ e. absurd (omega (arith, e))) in rw n refl

pub end_piece : (s : Text) → pattern_ends s ≡ true → piece_by true s ≡ got None s
unfolding piece_by
end_piece s h = rw h refl

both : (a b : Bool) → (a && b) ≡ true → (a ≡ true) × (b ≡ true)
both true true h = (refl, refl)
both true false h = absurd cc
both false b h = absurd cc

feed_alone : (cs : Text) → pattern_ends cs ≡ true → pieces_by true (line_feed ∷ cs) ≡ got (feed ∷ []) cs
feed_alone cs h =
    pieces_is true (line_feed ∷ cs) ∙ ap (λ (x : Reading (Option (Piece × Bool))). x >>= (λ p. pieces_after p.0 p.1)) (feed_piece cs)
    ∙ ap (mapped (λ ps. feed ∷ ps)) (pieces_is true cs ∙ ap (λ (x : Reading (Option (Piece × Bool))). x >>= (λ p. pieces_after p.0 p.1)) (end_piece cs h))

feed_pieces : (s : Text) → is_last_feed s ≡ true → pieces_by true s ≡ got (feed ∷ []) (drop 1 s)
feed_pieces [] h = absurd cc
feed_pieces (c ∷ cs) h =
    let k = both (c == line_feed) (pattern_ends cs) h in
    let e : c ≡ line_feed = test_of c line_feed k.0 in
    rw e (feed_alone cs k.1)

-- what stands after a refusal
fails_by : (e : Fault) (rest u : Text) (b : Bool) (x : Reading (Option (Piece × Bool))) → Fails e rest (cond b (got None u) x) → Fails e rest x
fails_by fault.Memory rest u b x f = tt
fails_by fault.TooDeep rest u b x f = tt
fails_by (fault.Refused kind) rest u true x f = absurd f
fails_by (fault.Refused kind) rest u false x f = f

pub kept_fails : (line : Bool) (s : Text) (e : Fault) (rest : Text) → Fails e rest (kept_piece_by line s) → Fails e rest (piece_by line s)
unfolding kept_piece_by
kept_fails line s e rest f = fails_by e rest (drop 1 s) (line && is_last_feed s) (piece_by line s) f

-- a piece
some_by : (b : Bool) (u rest : Text) (p : Piece × Bool) (x : Reading (Option (Piece × Bool))) → cond b (got None u) x ≡ got (Some p) rest → x ≡ got (Some p) rest
some_by true u rest p x h = absurd cc
some_by false u rest p x h = h

pub kept_some : (line : Bool) (s rest : Text) (p : Piece × Bool) → kept_piece_by line s ≡ got (Some p) rest → piece_by line s ≡ got (Some p) rest
unfolding kept_piece_by
kept_some line s rest p h = some_by (line && is_last_feed s) (drop 1 s) rest p (piece_by line s) h

-- the end of a pattern
end_by : (b line : Bool) (s u rest : Text) (ps : List Piece) → (line && is_last_feed s) ≡ b →
    mapped (λ more. ps ++ more) (pieces_by line s) ≡ g.first_pieces_at whole u (after_line_end u) →
    cond b (got None (drop 1 s)) (piece_by line s) ≡ got None rest → pattern_behind u ≡ got (value_of (elements_of ps)) rest
unfolding pattern_behind feed
end_by false line s u rest ps e same h = pattern_end s u rest line ps same h
end_by true line s u rest ps e same h =
    let k = both line (is_last_feed s) e in
    let r : drop 1 s ≡ rest = cc in
    ap (λ x. mapped value_of (mapped elements_of x))
    (sym same ∙ ap (λ (b : Bool). mapped (λ more. ps ++ more) (pieces_by b s)) k.0 ∙ ap (mapped (λ more. ps ++ more)) (feed_pieces s k.1))
    ∙ ap (λ z. got (value_of z) (drop 1 s)) (blank_behind ps feed refl refl)
    ∙ ap (got (value_of (elements_of ps))) r

pub kept_end : (s u rest : Text) (line : Bool) (ps : List Piece) → mapped (λ more. ps ++ more) (pieces_by line s) ≡ g.first_pieces_at whole u (after_line_end u) →
    kept_piece_by line s ≡ got None rest → pattern_behind u ≡ got (value_of (elements_of ps)) rest
unfolding kept_piece_by
kept_end s u rest line ps same h = end_by (line && is_last_feed s) line s u rest ps refl same h
