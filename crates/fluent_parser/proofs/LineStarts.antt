-- Where lines start: after a line feed.
use Rattle.std.proofs.Common.{◌≡◌, ◌⊎◌, inl, inr, ℕ, ◌-◌, Bool, true, false, cond, ◌&&◌, ◌||◌, [], ◌∷◌, ◌++◌, length, take, drop, refl, sym, ap, subst, ◌∙◌, Option, Some, None}
use Rattle.std.specs.Prelude.{◌==◌}
use Rattle.std.proofs.lemmas.List.{append_assoc, take-append-drop}
use Rattle.fluent_grammar.specs.Words.{Text, space, line_feed, carriage_return, open_brace, begins_with, begins_crlf, after_line_end, blank_lines, skip_blank_block}
use Rattle.fluent_grammar.specs.Refusal.{Reading, got, refused, mapped, ◌>>=◌}
use Rattle.fluent_grammar.specs.Tree as t
use Rattle.fluent_grammar.specs.Lexical.{SpellsText, to_line_feed, to_brace, to_crlf, to_end, text_byte, is_text_byte}
use Rattle.fluent_grammar.specs.Lines.{Piece, in_line, placed, ends_line, pattern_ends}
use Rattle.fluent_grammar.specs.Tiling.{at_column_zero}
use Rattle.fluent_grammar.specs.Reading as g
use Rattle.fluent_grammar.proofs.Strings.{text_sound}
use Rattle.fluent_grammar.proofs.TilesRecovery.{column-snoc}
use Rattle.fluent_tokens.proofs.Scanned.{test_of}
use Rattle.fluent_parser.specs.Frame.{StartsLine}
use Rattle.fluent_parser.specs.Steps.{piece_by, piece_behind, kept_piece_by, text_piece, indent_at, placeable_by, first_place}
use Rattle.fluent_parser.proofs.FittingPieces.{found, same_piece}
use Rattle.fluent_parser.proofs.LastFeeds.{kept_some}

-- what stands after a line feed of a text
Behind : Text → Text → Type 0
Behind rest whole = (line : Text) × (whole ≡ line ++ line_feed ∷ rest)

behind_front : (front s rest : Text) → Behind rest s → Behind rest (front ++ s)
unfolding Behind
behind_front front s rest b = (front ++ b.0, ap (λ z. front ++ z) b.1 ∙ sym (append_assoc front b.0 (line_feed ∷ rest)))

-- after that again
behind_behind : (v s rest : Text) → Behind v s → Behind rest v → Behind rest s
unfolding Behind
behind_behind v s rest b d =
    let moved = behind_front (b.0 ++ line_feed ∷ []) v rest d in
    (moved.0, b.1 ∙ sym (append_assoc b.0 (line_feed ∷ []) v) ∙ moved.1)

-- it is at column 0 of each text that ends so
column : (text s rest : Text) → s ≡ drop (length text - length s) text → Behind rest s → at_column_zero text rest ≡ true
unfolding Behind
column text s rest e b =
    let front = take (length text - length s) text in
    let whole : text ≡ ((front ++ b.0) ++ line_feed ∷ []) ++ rest =
    sym (take-append-drop (length text - length s) text) ∙ ap (λ z. front ++ z) (sym e ∙ b.1)
    ∙ sym (append_assoc front b.0 (line_feed ∷ rest)) ∙ sym (append_assoc (front ++ b.0) (line_feed ∷ []) rest) in
    ap (λ (z : Text). at_column_zero z rest) whole ∙ column-snoc (front ++ b.0) line_feed rest

-- ---- after a text

last_of : (c : ℕ) (x s rest : Text) → is_text_byte c ≡ true → (ends_line x ≡ true → Behind rest s) → ends_line (c ∷ x) ≡ true → Behind rest (c ∷ s)
last_of c [] s rest b f h = absurd (let k : is_text_byte line_feed ≡ true = subst (λ (z : ℕ). is_text_byte z ≡ true) (test_of c line_feed h) b in cc)
last_of c (d ∷ ds) s rest b f h = behind_front (c ∷ []) s rest (f h)

text_ended : {x s rest : Text} → SpellsText x s rest → ends_line x ≡ true → Behind rest s
unfolding Behind
text_ended (to_line_feed {rest}) h = ([], refl)
text_ended (to_brace {rest}) h = absurd cc
text_ended (to_crlf {rest} c) h = absurd cc
text_ended to_end h = absurd cc
text_ended (text_byte {c} {piece} {s} {rest} b n d) h = last_of c piece s rest b (text_ended d) h

-- ---- after a line end

crlf_case : (a b : Bool) (c d : ℕ) (ds : Text) → (d == line_feed) ≡ b → (a && b) ≡ true → Behind ds (c ∷ d ∷ ds)
unfolding Behind
crlf_case true true c d ds e h = (c ∷ [], ap (λ (z : ℕ). c ∷ z ∷ ds) (test_of d line_feed e))
crlf_case true false c d ds e h = absurd cc
crlf_case false b c d ds e h = absurd cc

no_end : (a : Bool) → (a && false) ≡ true → ⊥
no_end true h = absurd cc
no_end false h = absurd cc

crlf_behind : (s : Text) → begins_crlf s ≡ true → Behind (drop 2 s) s
crlf_behind [] h = absurd cc
crlf_behind (c ∷ []) h = absurd (no_end (c == carriage_return) h)
crlf_behind (c ∷ d ∷ ds) h = crlf_case (c == carriage_return) (d == line_feed) c d ds refl h

feed_behind : (s : Text) → begins_with line_feed s ≡ true → Behind (drop 1 s) s
unfolding Behind
feed_behind [] h = absurd cc
feed_behind (c ∷ cs) h = ([], ap (λ (z : ℕ). z ∷ cs) (test_of c line_feed h))

end_case : (a b : Bool) (s v : Text) → begins_with line_feed s ≡ a → begins_crlf s ≡ b → cond a (Some (drop 1 s)) (cond b (Some (drop 2 s)) None) ≡ Some v → Behind v s
end_case true b s v e f h = let k : drop 1 s ≡ v = cc in subst (λ (z : Text). Behind z s) k (feed_behind s e)
end_case false true s v e f h = let k : drop 2 s ≡ v = cc in subst (λ (z : Text). Behind z s) k (crlf_behind s f)
end_case false false s v e f h = absurd cc

line_end_behind : (s v : Text) → after_line_end s ≡ Some v → Behind v s
line_end_behind s v h = end_case (begins_with line_feed s) (begins_crlf s) s v refl refl h

-- ---- after blank lines

Stays : Text → Text → Type 0
Stays rest v = (rest ≡ v) ⊎ Behind rest v

lines_case : (a b : Bool) (c : ℕ) (cs line v front : Text) → (c == line_feed) ≡ a → v ≡ front ++ c ∷ cs → Stays line v
    → ((l : Text) → Stays l v → Stays (blank_lines l cs) v) → Stays (cond a (blank_lines cs cs) (cond b (blank_lines line cs) line)) v
unfolding Stays Behind
lines_case true b c cs line v front e w h f = f cs (inr (front, w ∙ ap (λ (z : ℕ). front ++ z ∷ cs) (test_of c line_feed e)))
lines_case false true c cs line v front e w h f = f line h
lines_case false false c cs line v front e w h f = h

lines_stay : (s line v front : Text) → v ≡ front ++ s → Stays line v → Stays (blank_lines line s) v
lines_stay [] line v front w h = h
lines_stay (c ∷ cs) line v front w h =
    lines_case (c == line_feed) (c == space || (c == carriage_return && begins_with line_feed cs)) c cs line v front refl w h
    (λ l k. lines_stay cs l v (front ++ c ∷ []) (w ∙ sym (append_assoc front (c ∷ []) cs)) k)

block_stays : (v : Text) → Stays (skip_blank_block v) v
unfolding Stays
block_stays v = lines_stay v v v [] refl (inl refl)

behind_block : (v s rest : Text) → Behind v s → rest ≡ skip_blank_block v → Behind rest s
unfolding Stays
behind_block v s rest b e =
    let here : Behind (skip_blank_block v) s = elim (block_stays v) [ inl k ↦ subst (λ (z : Text). Behind z s) (sym k) b | inr d ↦ behind_behind v s (skip_blank_block v) b d ] in
    subst (λ (z : Text). Behind z s) (sym e) here

-- ---- what starts a line

starts_if : (line : Bool) (text s rest : Text) → s ≡ drop (length text - length s) text → (line ≡ true → Behind rest s) → StartsLine line text rest
starts_if true text s rest e f = column text s rest e (f refl)
starts_if false text s rest e f = tt

first_case : (o : Option Text) (line : Bool) (s rest : Text) → after_line_end s ≡ o → (line, rest) ≡ first_place s o → line ≡ true → Behind rest s
first_case None line s rest e h n = absurd (let k : line ≡ false = ap (λ (x : Bool × Text). x.0) h in cc)
first_case (Some v) line s rest e h n = behind_block v s rest (line_end_behind s v e) (ap (λ (x : Bool × Text). x.1) h)

-- after a line end and the blank lines that follow it
pub first_starts : (line : Bool) (text s rest : Text) → s ≡ drop (length text - length s) text → (line, rest) ≡ first_place s (after_line_end s) → StartsLine line text rest
first_starts line text s rest e h = starts_if line text s rest e (first_case (after_line_end s) line s rest refl h)

rest_of : {A : Type 0} → Text → Reading A → Text
rest_of other (got a rest) = rest
rest_of other (refused fault) = other

same_rest : {A : Type 0} (a b : A) (rest behind : Text) → got a rest ≡ got b behind → rest ≡ behind
unfolding rest_of
same_rest a b rest behind h = ap (rest_of rest) h

text_case : (line : Bool) (i : ℕ) (u rest : Text) (p : Piece) (next : Bool) (x : Reading Text) → g.text_run u ≡ x
    → (x >>= (λ y. got (found (text_piece line i y.0) (ends_line y.0)) y.1)) ≡ got (found p next) rest → next ≡ true → Behind rest u
text_case line i u rest p next (got y behind) e h n =
    let k = same_piece (text_piece line i y) p (ends_line y) next behind rest h in
    subst (λ (z : Text). Behind z u) (same_rest _ _ behind rest h) (text_ended (text_sound u y behind e) (k.1 ∙ n))
text_case line i u rest p next (refused fault) e h n = absurd cc

placed_case : (z : Bool) (rest : Text) (p : Piece) (next : Bool) (x : Reading t.Expression) → mapped (λ e. found (placed z e) false) x ≡ got (found p next) rest → next ≡ true → ⊥
placed_case z rest p next (got e behind) h n = let k : false ≡ next = (same_piece (placed z e) p false next behind rest h).1 in absurd cc
placed_case z rest p next (refused fault) h n = absurd cc

kind_case : (a b d line z : Bool) (i : ℕ) (u rest : Text) (p : Piece) (next : Bool) → begins_crlf u ≡ d →
    cond a (got None []) (cond b (mapped (λ e. found (placed z e) false) (placeable_by u)) (cond d (got (found (in_line (line_feed ∷ [])) true) (drop 2 u))
    (g.text_run u >>= (λ y. got (found (text_piece line i y.0) (ends_line y.0)) y.1)))) ≡ got (found p next) rest → next ≡ true → Behind rest u
kind_case true b d line z i u rest p next e h n = absurd cc
kind_case false true d line z i u rest p next e h n = absurd (placed_case z rest p next (placeable_by u) h n)
kind_case false false true line z i u rest p next e h n = subst (λ (x : Text). Behind x u) (same_rest _ _ (drop 2 u) rest h) (crlf_behind u e)
kind_case false false false line z i u rest p next e h n = text_case line i u rest p next (g.text_run u) refl h n

piece_case : (b line : Bool) (s rest : Text) (p : Piece) (next : Bool) → cond b (got None s) (piece_behind line (indent_at line s) (drop (indent_at line s) s)) ≡ got (found p next) rest → next ≡ true → Behind rest s
piece_case true line s rest p next h n = absurd cc
piece_case false line s rest p next h n =
    let i = indent_at line s in
    let u = drop i s in
    subst (λ (z : Text). Behind rest z) (take-append-drop i s)
    (behind_front (take i s) u rest (kind_case (length u == 0) (begins_with open_brace u) (begins_crlf u) line (line && i == 0) i u rest p next refl h n))

read_behind : (line : Bool) (s rest : Text) (p : Piece) (next : Bool) → piece_by line s ≡ got (found p next) rest → next ≡ true → Behind rest s
unfolding piece_by
read_behind line s rest p next h n = piece_case (line && pattern_ends s) line s rest p next h n

-- after a piece that ends its line
pub piece_starts : (line : Bool) (text s rest : Text) (p : Piece) (next : Bool) → s ≡ drop (length text - length s) text → kept_piece_by line s ≡ got (Some (p, next)) rest → StartsLine next text rest
piece_starts line text s rest p next e h = starts_if next text s rest e (read_behind line s rest p next (kept_some line s rest (p, next) h))
