-- A piece that was read may stand where it stands, and tells whether a line begins after it.
use Rattle.std.proofs.Common.{◌≡◌, ℕ, ◌+◌, suc, Bool, true, false, cond, ◌&&◌, [], ◌∷◌, length, drop, refl, ap, subst, arith, Option, Some, None}
use Rattle.std.specs.Prelude.{◌==◌}
use Rattle.fluent_grammar.specs.Words.{Text, space, spaces, skip_spaces, line_feed, carriage_return, open_brace, close_brace, begins_with, begins_crlf}
use Rattle.fluent_grammar.specs.Refusal.{Reading, got, refused, refuse, mapped, ◌>>=◌}
use Rattle.fluent_grammar.specs.Refusal as r
use Rattle.fluent_grammar.specs.Tree as t
use Rattle.fluent_grammar.specs.Lines.{Piece, in_line, placed, ends_line, pattern_ends}
use Rattle.fluent_grammar.specs.Reading as g
use Rattle.fluent_grammar.specs.Reading.{before}
use Rattle.fluent_parsed.specs.Pieces.{line_after, Fits}
use Rattle.fluent_parser.specs.Steps.{piece_by, piece_behind, text_piece, indent_at, placeable_by}

-- ---- leading spaces

none_case : (b : Bool) (c : ℕ) (cs : Text) → (c == space) ≡ b → spaces (skip_spaces cs) ≡ 0 → spaces (drop (cond b (1 + spaces cs) 0) (c ∷ cs)) ≡ 0
none_case true c cs e h =
    let n : 1 + spaces cs ≡ suc (spaces cs) = omega arith in
    rw n h
none_case false c cs e h = rw e refl

none_behind : (s : Text) → spaces (skip_spaces s) ≡ 0
none_behind [] = refl
none_behind (c ∷ cs) = none_case (c == space) c cs refl (none_behind cs)

some_spaces : (b : Bool) (c : ℕ) (cs : Text) → (c == space) ≡ b → spaces (c ∷ cs) ≡ 0 → b ≡ false
some_spaces true c cs e h = let k : 1 + spaces cs ≡ 0 = rw e at h in absurd (omega (arith, k))
some_spaces false c cs e h = refl

first_by : (a b d e : Bool) (c : ℕ) (cs x rest : Text) (more : Reading Text) → (c == space) ≡ false →
    cond a (got [] (c ∷ cs)) (cond b (refuse r.unbalanced_closing_brace (c ∷ cs)) (cond d (got (c ∷ []) cs) (cond e (got [] (c ∷ cs)) (before (c ∷ []) more)))) ≡ got x rest → spaces x ≡ 0
first_by true b d e c cs x rest more n h = let k : [] ≡ x = cc in subst (λ (z : Text). spaces z ≡ 0) k refl
first_by false true d e c cs x rest more n h = absurd cc
first_by false false true e c cs x rest more n h = let k : c ∷ [] ≡ x = cc in subst (λ (z : Text). spaces z ≡ 0) k (rw n refl)
first_by false false false true c cs x rest more n h = let k : [] ≡ x = cc in subst (λ (z : Text). spaces z ≡ 0) k refl
first_by false false false false c cs x rest (got y behind) n h = let k : c ∷ y ≡ x = cc in subst (λ (z : Text). spaces z ≡ 0) k (rw n refl)
first_by false false false false c cs x rest (refused fault) n h = absurd cc

run_spaces : (u x rest : Text) → g.text_run u ≡ got x rest → spaces u ≡ 0 → spaces x ≡ 0
unfolding g.text_run
run_spaces [] x rest h n = let k : [] ≡ x = cc in subst (λ (z : Text). spaces z ≡ 0) k refl
run_spaces (c ∷ cs) x rest h n =
    first_by (c == open_brace) (c == close_brace) (c == line_feed) (c == carriage_return && begins_with line_feed cs) c cs x rest (g.text_run cs) (some_spaces (c == space) c cs refl n) h

-- ---- what was read

-- a piece, and whether a line begins after it
abbrev pub found : Piece → Bool → Option (Piece × Bool)
found p next = Some (p, next)

piece_of : Piece × Bool → Reading (Option (Piece × Bool)) → Piece × Bool
piece_of other (got (Some q) rest) = q
piece_of other (got None rest) = other
piece_of other (refused fault) = other

pub same_piece : (p q : Piece) (a b : Bool) (rest behind : Text) → got (found p a) rest ≡ got (found q b) behind → (p ≡ q) × (a ≡ b)
unfolding piece_of
same_piece p q a b rest behind h =
    let k = ap (piece_of (q, b)) h in
    (ap (λ (x : Piece × Bool). x.0) k, ap (λ (x : Piece × Bool). x.1) k)

Stands : Bool → Bool → Piece → Type 0
Stands line next p = (next ≡ line_after p) × Fits line p

text_stands : (line : Bool) (i : ℕ) (y : Text) → (line ≡ true → spaces y ≡ 0) → Stands line (ends_line y) (text_piece line i y)
unfolding Stands
text_stands true i y n = (refl, (refl, n refl))
text_stands false i y n = (refl, tt)

text_case : (line : Bool) (i : ℕ) (u rest : Text) (p : Piece) (next : Bool) (x : Reading Text) → g.text_run u ≡ x → (line ≡ true → spaces u ≡ 0) →
    (x >>= (λ y. got (found (text_piece line i y.0) (ends_line y.0)) y.1)) ≡ got (found p next) rest → Stands line next p
text_case line i u rest p next (got y behind) e n h =
    let k = same_piece (text_piece line i y) p (ends_line y) next behind rest h in
    subst (λ (q : Piece). Stands line next q) k.0 (subst (λ (b : Bool). Stands line b (text_piece line i y)) k.1 (text_stands line i y (λ z. run_spaces u y behind e (n z))))
text_case line i u rest p next (refused fault) e n h = absurd cc

placed_stands : (line z : Bool) (e : t.Expression) → Stands line false (placed z e)
unfolding Stands
placed_stands true z e = (refl, tt)
placed_stands false z e = (refl, tt)

placed_case : (line z : Bool) (rest : Text) (p : Piece) (next : Bool) (x : Reading t.Expression) → mapped (λ e. found (placed z e) false) x ≡ got (found p next) rest → Stands line next p
placed_case line z rest p next (got e behind) h =
    let k = same_piece (placed z e) p false next behind rest h in
    subst (λ (q : Piece). Stands line next q) k.0 (subst (λ (b : Bool). Stands line b (placed z e)) k.1 (placed_stands line z e))
placed_case line z rest p next (refused fault) h = absurd cc

feed_stands : (line : Bool) → Stands line true (in_line (line_feed ∷ []))
unfolding Stands
feed_stands true = (refl, refl)
feed_stands false = (refl, tt)

feed_case : (line : Bool) (behind rest : Text) (p : Piece) (next : Bool) → got (found (in_line (line_feed ∷ [])) true) behind ≡ got (found p next) rest → Stands line next p
feed_case line behind rest p next h =
    let k = same_piece (in_line (line_feed ∷ [])) p true next behind rest h in
    subst (λ (q : Piece). Stands line next q) k.0 (subst (λ (b : Bool). Stands line b (in_line (line_feed ∷ []))) k.1 (feed_stands line))

kind_case : (a b d line z : Bool) (i : ℕ) (u rest : Text) (p : Piece) (next : Bool) → (line ≡ true → spaces u ≡ 0) →
    cond a (got None []) (cond b (mapped (λ e. found (placed z e) false) (placeable_by u)) (cond d (got (found (in_line (line_feed ∷ [])) true) (drop 2 u))
    (g.text_run u >>= (λ y. got (found (text_piece line i y.0) (ends_line y.0)) y.1)))) ≡ got (found p next) rest → Stands line next p
kind_case true b d line z i u rest p next n h = absurd cc
kind_case false true d line z i u rest p next n h = placed_case line z rest p next (placeable_by u) h
kind_case false false true line z i u rest p next n h = feed_case line (drop 2 u) rest p next h
kind_case false false false line z i u rest p next n h = text_case line i u rest p next (g.text_run u) refl n h

no_spaces : (line : Bool) (s : Text) → line ≡ true → spaces (drop (indent_at line s) s) ≡ 0
no_spaces true s h = none_behind s
no_spaces false s h = absurd cc

end_case : (b line : Bool) (s rest : Text) (p : Piece) (next : Bool) → cond b (got None s) (piece_behind line (indent_at line s) (drop (indent_at line s) s)) ≡ got (found p next) rest → Stands line next p
end_case true line s rest p next h = absurd cc
end_case false line s rest p next h =
    let i = indent_at line s in
    let u = drop i s in
    kind_case (length u == 0) (begins_with open_brace u) (begins_crlf u) line (line && i == 0) i u rest p next (no_spaces line s) h

pub piece_stands : (line : Bool) (s rest : Text) (p : Piece) (next : Bool) → piece_by line s ≡ got (found p next) rest → (next ≡ line_after p) × Fits line p
unfolding piece_by Stands
piece_stands line s rest p next h = end_case (line && pattern_ends s) line s rest p next h
