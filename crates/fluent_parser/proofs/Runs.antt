-- The pieces of a pattern that the parser takes.
use Rattle.std.proofs.Common.{◌≡◌, ℕ, suc, ◌+◌, ◌<◌, ◌≤◌, Bool, true, false, cond, ◌&&◌, [], ◌∷◌, ◌++◌, length, take, drop, replicate, refl, sym, ap, ◌∙◌, arith, subst, Some}
use Rattle.std.specs.Prelude.{◌==◌}
use Rattle.std.proofs.lemmas.List.{drop-drop, length-drop}
use Rattle.std.proofs.Math.Seq.{take-add}
use Rattle.fluent_grammar.specs.Words as w
use Rattle.fluent_grammar.specs.Words.{Text, space, line_feed, spaces, begins_with, begins_crlf}
use Rattle.fluent_grammar.specs.Refusal.{Reading, got, ◌>>=◌}
use Rattle.fluent_grammar.specs.Lines.{Piece, in_line, ends_line}
use Rattle.fluent_grammar.specs.Reading.{text_run}
use Rattle.fluent_grammar.specs.Ends.{EndsIn}
use Rattle.fluent_grammar.proofs.Within.{end-same, end-le}
use Rattle.fluent_grammar.proofs.Taken.{Leaves, text_run-leaves}
use Rattle.fluent_tokens.specs.Counted.{Cuts}
use Rattle.fluent_ast.specs.View.{text}
use Rattle.fluent_parsed.specs.Pieces.{undented}
use Rattle.fluent_tokens.specs.IndentedTexts.{IsTextStart}
use Rattle.fluent_parser.specs.Steps.{text_piece, text_step, piece_behind, indent_at}
use Rattle.fluent_tokens.proofs.Counted.{cut_none, cut_spaces, cut_begun}
use Rattle.fluent_tokens.proofs.Scanned.{cut_more, test_of}

pub cut_indent_at : (line : Bool) (s : Text) (n : ℕ) → n ≡ indent_at line s → Cuts s n
cut_indent_at true s n e = cut_spaces s n e
cut_indent_at false s n e = cut_none s n e

pub cut_behind_indent : (line : Bool) (s u : Text) (n k : ℕ) → n ≡ indent_at line s → u ≡ drop n s → Cuts u k → Cuts s (n + k)
cut_behind_indent line s u n k e f c = cut_more s n k (n + k) refl (cut_indent_at line s n e) (subst (λ (z : Text). Cuts z k) f c)

-- a carriage return at the front
crlf_first : (c : ℕ) (cs : Text) → begins_crlf (c ∷ cs) ≡ true → (c == w.carriage_return) ≡ true
crlf_first c cs h = first (c == w.carriage_return) (begins_with line_feed cs) h
  where
    first : (a b : Bool) → (a && b) ≡ true → a ≡ true
    first true b h = refl
    first false b h = absurd cc

pub cut_crlf : (s : Text) → begins_crlf s ≡ true → Cuts s 1
cut_crlf [] h = absurd cc
cut_crlf (c ∷ cs) h = cut_begun (c ∷ cs) 13 (omega arith) (crlf_first c cs h)

-- spaces at the front
front_case : (b : Bool) (c : ℕ) (cs : Text) → (c == space) ≡ b → take (spaces cs) cs ≡ replicate (spaces cs) space → take (cond b (1 + spaces cs) 0) (c ∷ cs) ≡ replicate (cond b (1 + spaces cs) 0) space
front_case true c cs e h =
    let n : 1 + spaces cs ≡ suc (spaces cs) = omega arith in
    rw n (ap (λ z. z ∷ take (spaces cs) cs) (test_of c space e) ∙ ap (λ z. space ∷ z) h)
front_case false c cs e h = refl

spaces_front : (s : Text) → take (spaces s) s ≡ replicate (spaces s) space
spaces_front [] = refl
spaces_front (c ∷ cs) = front_case (c == space) c cs refl (spaces_front cs)

indented : (s x : Text) (n k : ℕ) → n ≡ spaces s → x ≡ take (n + k) s → x ≡ replicate n space ++ take k (drop n s)
indented s x n k e f = f ∙ take-add n k s ∙ ap (λ (z : Text). z ++ take k (drop n s)) (ap (λ (i : ℕ). take i s) e ∙ spaces_front s ∙ ap (λ (i : ℕ). replicate i space) (sym e))

-- the leading spaces of a text piece and the text, as they were taken
pub undented_text : (s x : Text) (line : Bool) (n k : ℕ) → n ≡ indent_at line s → x ≡ take (n + k) s → text x ≡ undented (text_piece line n (take k (drop n s)))
undented_text s x true n k e f = ap text (indented s x n k e f)
undented_text s x false n k e f =
    let z : n + k ≡ k = omega (arith, e) in
    ap text (f ∙ ap (λ (i : ℕ). take i s) z ∙ ap (λ (i : ℕ). take k (drop i s)) (sym e))

pub text_read : (s u rest : Text) (line : Bool) (n k : ℕ) (p : Piece) (b : Bool) → u ≡ drop n s → text_run u ≡ got (take k u) (drop k u) → p ≡ text_piece line n (take k (drop n s)) → b ≡ ends_line (take k u) → rest ≡ drop (n + k) s →
    text_step line n (drop n s) ≡ got (Some (p, b)) rest
text_read s u rest line n k p b e h q f r =
    let run : text_run (drop n s) ≡ got (take k (drop n s)) (drop k (drop n s)) = subst (λ (z : Text). text_run z ≡ got (take k z) (drop k z)) e h in
    let ends : b ≡ ends_line (take k (drop n s)) = f ∙ ap (λ (z : Text). ends_line (take k z)) e in
    let at : drop k (drop n s) ≡ rest = drop-drop k n s ∙ sym r in
    ap (λ (x : Reading Text). x >>= (λ x. got (Some (text_piece line n x.0, ends_line x.0)) x.1)) run
    ∙ ap (λ (z : Text). got (Some (text_piece line n (take k (drop n s)), ends_line (take k (drop n s)))) z) at
    ∙ ap (λ (z : Piece). got (Some (z, ends_line (take k (drop n s)))) rest) (sym q)
    ∙ ap (λ (z : Bool). got (Some (p, z)) rest) (sym ends)

left_of : (x : Reading Text) (w a rest : Text) → Leaves x w → x ≡ got a rest → EndsIn rest w
left_of x w a rest l h = let q : Leaves (got a rest) w = subst (λ (y : Reading Text). Leaves y w) h l in q.parts

pub text_shorter : (s u rest : Text) (n k : ℕ) → u ≡ drop n s → text_run u ≡ got (take k u) (drop k u) → IsTextStart (drop n s) → rest ≡ drop (n + k) s → length rest < length s
text_shorter s u rest n k e h t r =
    let run : text_run (drop n s) ≡ got (take k (drop n s)) (drop k (drop n s)) = subst (λ (z : Text). text_run z ≡ got (take k z) (drop k z)) e h in
    let l = left_of (text_run (drop n s)) (drop 1 (drop n s)) (take k (drop n s)) (drop k (drop n s)) (text_run-leaves (drop n s) t.some t.brace t.crlf (end-same (drop 1 (drop n s)))) run in
    let a : length (drop k (drop n s)) ≤ length (drop 1 (drop n s)) = end-le l in
    let b : length rest ≡ length (drop k (drop n s)) = ap length (r ∙ sym (drop-drop k n s)) in
    omega (arith, a, b, length-drop 1 (drop n s), length-drop n s, some_left (drop n s) t.some)
  where
    some_left : (x : Text) → (length x == 0) ≡ false → 0 < length x
    some_left [] h = absurd cc
    some_left (c ∷ cs) h = omega arith

-- CR LF
feed_behind : (u : Text) → begins_crlf u ≡ true → begins_with line_feed (drop 1 u) ≡ true
feed_behind u h = both (begins_with w.carriage_return u) (begins_with line_feed (drop 1 u)) h
  where
    both : (a b : Bool) → (a && b) ≡ true → b ≡ true
    both true b h = h
    both false b h = absurd cc

behind_one : (s : Text) (n : ℕ) → drop (n + 1) s ≡ drop 1 (drop n s)
behind_one s n = sym (drop-drop 1 n s)

pub cut_line_feed : (s u rest : Text) (n : ℕ) → u ≡ drop n s → begins_crlf u ≡ true → rest ≡ drop (n + 1) s → Cuts rest 1
cut_line_feed s u rest n e h r =
    cut_begun rest line_feed (omega arith) (ap (begins_with line_feed) (r ∙ behind_one s n ∙ ap (λ (z : Text). drop 1 z) (sym e)) ∙ feed_behind u h)

one_feed : (v : Text) → begins_with line_feed v ≡ true → take 1 v ≡ line_feed ∷ []
one_feed [] h = absurd cc
one_feed (c ∷ cs) h = ap (λ z. z ∷ []) (test_of c line_feed h)

pub line_feed_read : (s u rest behind x : Text) (line : Bool) (n : ℕ) → u ≡ drop n s → (length u == 0) ≡ false → begins_with w.open_brace u ≡ false → begins_crlf u ≡ true → rest ≡ drop (n + 1) s → x ≡ take 1 rest → behind ≡ drop 1 rest →
    piece_behind line n (drop n s) ≡ got (Some (in_line x, true)) behind
line_feed_read s u rest behind x line n e some brace crlf r f b =
    let v : rest ≡ drop 1 u = r ∙ behind_one s n ∙ ap (λ (z : Text). drop 1 z) (sym e) in
    let x_is : line_feed ∷ [] ≡ x = sym (f ∙ ap (λ (z : Text). take 1 z) v ∙ one_feed (drop 1 u) (feed_behind u crlf)) in
    let at : drop 2 u ≡ behind = sym (b ∙ ap (λ (z : Text). drop 1 z) v ∙ drop-drop 1 1 u) in
    rw (← e) (rw (some, brace, crlf) (ap (λ (z : Text). got (Some (in_line z, true)) (drop 2 u)) x_is ∙ ap (λ (z : Text). got (Some (in_line x, true)) z) at))

-- a byte that stands at the front makes what follows shorter
pub begun_shorter : (s rest : Text) (b : ℕ) → begins_with b s ≡ true → rest ≡ drop 1 s → length rest < length s
begun_shorter [] rest b h r = absurd cc
begun_shorter (c ∷ cs) rest b h r = rw r (omega arith)

-- an arrow
pub cut_arrow : (s : Text) → w.begins_arrow s ≡ true → Cuts s 2
cut_arrow s h = cut_more s 1 1 2 refl (cut_begun s w.hyphen (omega arith) (first (begins_with w.hyphen s) (begins_with w.greater (drop 1 s)) h)) (cut_begun (drop 1 s) w.greater (omega arith) (second (begins_with w.hyphen s) (begins_with w.greater (drop 1 s)) h))
  where
    first : (a b : Bool) → (a && b) ≡ true → a ≡ true
    first true b h = refl
    first false b h = absurd cc

    second : (a b : Bool) → (a && b) ≡ true → b ≡ true
    second true b h = h
    second false b h = absurd cc
