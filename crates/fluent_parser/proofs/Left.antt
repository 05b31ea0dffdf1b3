-- The pieces of what is left of a source, one by one.
use Rattle.std.proofs.Common.{◌≡◌, ℕ, zero, suc, ◌+◌, ◌-◌, ◌<◌, ◌≤◌, Bool, true, false, cond, not, ◌&&◌, List, [], ◌∷◌, length, refl, sym, ap, ◌∙◌, arith}
use Rattle.std.specs.Prelude.{◌==◌}
use Rattle.std.proofs.lemmas.Bool.Decides.{nat_tests}
use Rattle.fluent_grammar.specs.Words.{Text, line_feed, carriage_return, number_sign, begins_with, skip_blank_block, rest_of_line}
use Rattle.fluent_grammar.specs.Refusal.{Reading, got, refused}
use Rattle.fluent_grammar.specs.Tree as t
use Rattle.fluent_grammar.specs.Reading.{entry_at}
use Rattle.fluent_grammar.specs.Ends.{EndsIn}
use Rattle.fluent_grammar.specs.Tiling.{Piece, pieces_from, runtime_pieces_from, and_pieces, pieces, runtime_pieces}
use Rattle.fluent_grammar.proofs.Within.{end-same, end-le, end-blank_block}
use Rattle.fluent_grammar.proofs.Repeated.{rest_of_line-tail}
use Rattle.fluent_grammar.proofs.TilesPieces.{pieces_need_no_more_steps}
use Rattle.fluent_tokens.proofs.Scanned.{test_of}
use Rattle.fluent_tokens.specs.Lookup.{past_comments}
use Rattle.fluent_parser.specs.Parts.{piece_of, behind_piece}
use Rattle.fluent_parser.specs.Left.{pieces_left, runtime_left}

second : (a b : Bool) → (a && b) ≡ true → b ≡ true
second true b h = h
second false b h = absurd cc

empty : (n : ℕ) → n ≡ 0 → (n == 0) ≡ true
empty n h = grind (arith, nat_tests)

some : (n : ℕ) → 0 < n → (n == 0) ≡ false
some n h = grind (arith, nat_tests)

and_pieces_is : (left : ℕ → Text → List Piece) (at : ℕ) (apart : Bool) (s : Text) (x : Reading t.Entry)
    → and_pieces left at apart s x ≡ piece_of at apart s x ∷ left (at + (length s - length (behind_piece s x))) (behind_piece s x)
and_pieces_is left at apart s (got e rest) = refl
and_pieces_is left at apart s (refused fault) = refl

blank_le : (s u : Text) → u ≡ skip_blank_block s → length u ≤ length s
blank_le s u e = omega (arith, ap length e, end-le (end-blank_block (end-same s)))

pub nothing_left : (total : ℕ) (s u : Text) → u ≡ skip_blank_block s → length u ≡ 0 → pieces_left total s ≡ []
unfolding pieces_left pieces_from
nothing_left total s u e z = ap (λ (b : Bool). cond b [] (and_pieces (pieces_from (length s)) (total - length s + (length s - length (skip_blank_block s))) (not (length (skip_blank_block s) == length s)) (skip_blank_block s) (entry_at (skip_blank_block s)))) (empty (length (skip_blank_block s)) (omega (arith, ap length e)))

pub piece_left : (total : ℕ) (s u rest : Text) → length s ≤ total → u ≡ skip_blank_block s → 0 < length u → rest ≡ behind_piece u (entry_at u) → length rest < length u
    → pieces_left total s ≡ piece_of (total - length u) (not (length u == length s)) u (entry_at u) ∷ pieces_left total rest
unfolding pieces_left pieces_from
piece_left total s u rest h e z f less =
    let le = blank_le s u e in
    let here : total - length s + (length s - length u) ≡ total - length u = omega arith in
    let next : total - length u + (length u - length rest) ≡ total - length rest = omega arith in
    ap (λ (v : Text). cond (length v == 0) [] (and_pieces (pieces_from (length s)) (total - length s + (length s - length v)) (not (length v == length s)) v (entry_at v))) (sym e)
    ∙ ap (λ (b : Bool). cond b [] (and_pieces (pieces_from (length s)) (total - length s + (length s - length u)) (not (length u == length s)) u (entry_at u))) (some (length u) z)
    ∙ ap (λ (n : ℕ). and_pieces (pieces_from (length s)) n (not (length u == length s)) u (entry_at u)) here
    ∙ and_pieces_is (pieces_from (length s)) (total - length u) (not (length u == length s)) u (entry_at u)
    ∙ ap (λ (v : Text). piece_of (total - length u) (not (length u == length s)) u (entry_at u) ∷ pieces_from (length s) (total - length u + (length u - length v)) v) (sym f)
    ∙ ap (λ (n : ℕ). piece_of (total - length u) (not (length u == length s)) u (entry_at u) ∷ pieces_from (length s) n rest) next
    ∙ ap (λ (ps : List Piece). piece_of (total - length u) (not (length u == length s)) u (entry_at u) ∷ ps) (pieces_need_no_more_steps (length s) (suc (length rest)) (total - length rest) rest (omega arith) (omega arith)).0

pub all_left : (s : Text) → pieces_left (length s) s ≡ pieces s
unfolding pieces_left
all_left s = let z : length s - length s ≡ 0 = omega arith in ap (λ (n : ℕ). pieces_from (suc (length s)) n s) z

pub nothing_left_at_runtime : (total : ℕ) (s u : Text) → u ≡ skip_blank_block s → length u ≡ 0 → runtime_left total s ≡ []
unfolding runtime_left runtime_pieces_from
nothing_left_at_runtime total s u e z =
    ap (λ (b : Bool). cond b [] (cond (begins_with number_sign (skip_blank_block s))
    (runtime_pieces_from (length s) (total - length s + (length s - length (skip_blank_block s)) + (length (skip_blank_block s) - length (rest_of_line (skip_blank_block s)).1)) (rest_of_line (skip_blank_block s)).1)
    (and_pieces (runtime_pieces_from (length s)) (total - length s + (length s - length (skip_blank_block s))) false (skip_blank_block s) (entry_at (skip_blank_block s))))) (empty (length (skip_blank_block s)) (omega (arith, ap length e)))

runtime_some : (total : ℕ) (s u : Text) → length s ≤ total → u ≡ skip_blank_block s → 0 < length u →
    runtime_left total s ≡ cond (begins_with number_sign u)
    (runtime_pieces_from (length s) (total - length u + (length u - length (rest_of_line u).1)) (rest_of_line u).1)
    (and_pieces (runtime_pieces_from (length s)) (total - length u) false u (entry_at u))
unfolding runtime_left runtime_pieces_from
runtime_some total s u h e z =
    let le = blank_le s u e in
    let here : total - length s + (length s - length u) ≡ total - length u = omega arith in
    ap (λ (v : Text). cond (length v == 0) [] (cond (begins_with number_sign v)
    (runtime_pieces_from (length s) (total - length s + (length s - length v) + (length v - length (rest_of_line v).1)) (rest_of_line v).1)
    (and_pieces (runtime_pieces_from (length s)) (total - length s + (length s - length v)) false v (entry_at v)))) (sym e)
    ∙ ap (λ (n : ℕ). cond (length u == 0) [] (cond (begins_with number_sign u)
    (runtime_pieces_from (length s) (n + (length u - length (rest_of_line u).1)) (rest_of_line u).1)
    (and_pieces (runtime_pieces_from (length s)) n false u (entry_at u)))) here
    ∙ ap (λ (b : Bool). cond b [] (cond (begins_with number_sign u)
    (runtime_pieces_from (length s) (total - length u + (length u - length (rest_of_line u).1)) (rest_of_line u).1)
    (and_pieces (runtime_pieces_from (length s)) (total - length u) false u (entry_at u)))) (some (length u) z)

enough_at_runtime : (total : ℕ) (s rest : Text) → length rest < length s → runtime_pieces_from (length s) (total - length rest) rest ≡ runtime_left total rest
unfolding runtime_left
enough_at_runtime total s rest less = (pieces_need_no_more_steps (length s) (suc (length rest)) (total - length rest) rest less (omega arith)).1

pub line_passed : (total : ℕ) (s u rest : Text) → length s ≤ total → u ≡ skip_blank_block s → 0 < length u → begins_with number_sign u ≡ true → rest ≡ (rest_of_line u).1 → length rest < length u
    → runtime_left total s ≡ runtime_left total rest
line_passed total s u rest h e z b f less =
    let le = blank_le s u e in
    let next : total - length u + (length u - length rest) ≡ total - length rest = omega arith in
    runtime_some total s u h e z
    ∙ ap (λ (c : Bool). cond c (runtime_pieces_from (length s) (total - length u + (length u - length (rest_of_line u).1)) (rest_of_line u).1) (and_pieces (runtime_pieces_from (length s)) (total - length u) false u (entry_at u))) b
    ∙ ap (λ (v : Text). runtime_pieces_from (length s) (total - length u + (length u - length v)) v) (sym f)
    ∙ ap (λ (n : ℕ). runtime_pieces_from (length s) n rest) next
    ∙ enough_at_runtime total s rest (omega arith)

pub piece_left_at_runtime : (total : ℕ) (s u rest : Text) → length s ≤ total → u ≡ skip_blank_block s → 0 < length u → begins_with number_sign u ≡ false → rest ≡ behind_piece u (entry_at u) → length rest < length u
    → runtime_left total s ≡ piece_of (total - length u) false u (entry_at u) ∷ runtime_left total rest
piece_left_at_runtime total s u rest h e z b f less =
    let le = blank_le s u e in
    let next : total - length u + (length u - length rest) ≡ total - length rest = omega arith in
    runtime_some total s u h e z
    ∙ ap (λ (c : Bool). cond c (runtime_pieces_from (length s) (total - length u + (length u - length (rest_of_line u).1)) (rest_of_line u).1) (and_pieces (runtime_pieces_from (length s)) (total - length u) false u (entry_at u))) b
    ∙ and_pieces_is (runtime_pieces_from (length s)) (total - length u) false u (entry_at u)
    ∙ ap (λ (v : Text). piece_of (total - length u) false u (entry_at u) ∷ runtime_pieces_from (length s) (total - length u + (length u - length v)) v) (sym f)
    ∙ ap (λ (n : ℕ). piece_of (total - length u) false u (entry_at u) ∷ runtime_pieces_from (length s) n rest) next
    ∙ ap (λ (ps : List Piece). piece_of (total - length u) false u (entry_at u) ∷ ps) (enough_at_runtime total s rest (omega arith))

pub all_left_at_runtime : (s : Text) → runtime_left (length s) s ≡ runtime_pieces s
unfolding runtime_left
all_left_at_runtime s = let z : length s - length s ≡ 0 = omega arith in ap (λ (n : ℕ). runtime_pieces_from (suc (length s)) n s) z

line_less_by : (c : ℕ) (cs rest : Text) → rest ≡ (rest_of_line (c ∷ cs)).1 → EndsIn (rest_of_line (c ∷ cs)).1 cs → length rest < length (c ∷ cs)
line_less_by c cs rest e h = omega (arith, ap length e, end-le h)

-- a line isn't empty, with its line end
pub line_less : (u rest : Text) → 0 < length u → rest ≡ (rest_of_line u).1 → length rest < length u
line_less [] rest h e = absurd (omega arith)
line_less (c ∷ cs) rest h e = line_less_by c cs rest e (rest_of_line-tail (c ∷ cs) (end-same cs))

-- ---- comment lines, passed over at once

-- after the first line
feed_passed : (b d : Bool) (c : ℕ) (cs : Text) → (c == line_feed) ≡ b → (c == carriage_return && begins_with line_feed cs) ≡ d → past_comments false cs ≡ past_comments true (rest_of_line cs).1
    → past_comments false (c ∷ cs) ≡ past_comments true (rest_of_line (c ∷ cs)).1
feed_passed true d c cs e f more = rw e refl
feed_passed false true c [] e f more = rw (e, f) refl
feed_passed false true c (b ∷ bs) e f more =
    let k : (b == line_feed) ≡ true = second (c == carriage_return) (b == line_feed) f in
    rw (e, f, k) refl
feed_passed false false c cs e f more = rw (e, f) more

first_passed : (s : Text) → past_comments false s ≡ past_comments true (rest_of_line s).1
first_passed [] = refl
first_passed (c ∷ cs) = feed_passed (c == line_feed) (c == carriage_return && begins_with line_feed cs) c cs refl refl (first_passed cs)

passed_le_by : (b : Bool) (c : ℕ) (cs : Text) → length (past_comments (c == line_feed) cs) ≤ length cs → length (cond b (c ∷ cs) (past_comments (c == line_feed) cs)) ≤ length (c ∷ cs)
passed_le_by true c cs h = omega arith
passed_le_by false c cs h = omega (arith, h)

passed_le : (b : Bool) (s : Text) → length (past_comments b s) ≤ length s
passed_le b [] = omega arith
passed_le b (c ∷ cs) = passed_le_by (b && not (c == number_sign)) c cs (passed_le (c == line_feed) cs)

-- a comment line isn't blank
sign_first : (s : Text) → begins_with number_sign s ≡ true → (s ≡ skip_blank_block s) × (0 < length s) × (past_comments true s ≡ past_comments false s)
sign_first [] h = absurd cc
sign_first (c ∷ cs) h =
    let e : c ≡ number_sign = test_of c number_sign h in
    (rw e refl, omega arith, rw h refl)

stops_here : (s : Text) → begins_with number_sign s ≡ false → past_comments true s ≡ s
stops_here [] h = refl
stops_here (c ∷ cs) h = rw h refl

each_passed : (n total : ℕ) (s : Text) (b : Bool) → length s < n → length s ≤ total → begins_with number_sign s ≡ b → runtime_left total s ≡ runtime_left total (past_comments true s)
each_passed zero total s b h w e = absurd (omega (arith, h))
each_passed (suc n) total s false h w e = ap (runtime_left total) (sym (stops_here s e))
each_passed (suc n) total s true h w e =
    let f = sign_first s e in
    let rest = (rest_of_line s).1 in
    let less : length rest < length s = line_less s rest f.1 refl in
    line_passed total s s rest w f.0 f.1 e refl less
    ∙ each_passed n total rest (begins_with number_sign rest) (omega (arith, less, h)) (omega (arith, less, w)) refl
    ∙ ap (runtime_left total) (sym (first_passed s) ∙ sym f.2)

pub comments_less : (u rest : Text) → 0 < length u → rest ≡ past_comments false u → length rest < length u
comments_less [] rest h e = absurd (omega arith)
comments_less (c ∷ cs) rest h e = omega (arith, ap length e, passed_le (c == line_feed) cs)

pub comments_passed : (total : ℕ) (s u rest : Text) → length s ≤ total → u ≡ skip_blank_block s → 0 < length u → begins_with number_sign u ≡ true → rest ≡ past_comments false u → runtime_left total s ≡ runtime_left total rest
comments_passed total s u rest h e z b f =
    let line = (rest_of_line u).1 in
    let less : length line < length u = line_less u line z refl in
    let le = blank_le s u e in
    line_passed total s u line h e z b refl less
    ∙ each_passed (suc (length line)) total line (begins_with number_sign line) (omega arith) (omega (arith, less, le, h)) refl
    ∙ ap (runtime_left total) (sym (first_passed u) ∙ sym f)

-- the pieces of a whole source, by the text that a parser holds
pub whole_left : (source text rest : Text) → text ≡ source → rest ≡ source → pieces_left (length text) rest ≡ pieces source
whole_left source text rest e f = ap (λ (v : Text). pieces_left (length v) rest) e ∙ ap (pieces_left (length source)) f ∙ all_left source

pub whole_left_at_runtime : (source text rest : Text) → text ≡ source → rest ≡ source → runtime_left (length text) rest ≡ runtime_pieces source
whole_left_at_runtime source text rest e f = ap (λ (v : Text). runtime_left (length v) rest) e ∙ ap (runtime_left (length source)) f ∙ all_left_at_runtime source
