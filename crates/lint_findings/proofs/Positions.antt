-- Line and column determine an offset between characters.
use Rattle.std.proofs.Common.{◌≡◌, ℕ, zero, suc, ◌<◌, ◌≤◌, ◌⊎◌, inl, inr, Bool, true, false, if◌then◌else◌, ◌==◌, nat_lt, [], ◌∷◌, length, take, refl, sym, ap, arith, slice_index}
use Rattle.std.specs.Str.{IsCharBoundary}
use Rattle.std.proofs.lemmas.Bool.Decides.{nat_tests}
use Rattle.fluent_grammar.specs.Words.{Text, line_feed}
use Rattle.fluent_grammar.specs.Escapes.{is_continuation}
use Rattle.lint_findings.specs.Position.{Position, position_after, position_of, first_position}
use Rattle.lint_findings.specs.PlaceLaws.{PositionsDetermineOffsets}

abbrev Later : Position → Position → Type 0
Later a b = (a.line < b.line) ⊎ ((a.line ≡ b.line) × (a.column < b.column))

abbrev NotBefore : Position → Position → Type 0
NotBefore a b = (a.line < b.line) ⊎ ((a.line ≡ b.line) × (a.column ≤ b.column))

next_line : (m n c d : ℕ) → (suc m < n) ⊎ ((suc m ≡ n) × (1 ≤ d)) → m < n
next_line m n c d (inl h) = omega (arith, h)
next_line m n c d (inr h) = let e = h.0 in omega (arith, e)

next_column : (m n c d : ℕ) → (m < n) ⊎ ((m ≡ n) × (suc c ≤ d)) → (m < n) ⊎ ((m ≡ n) × (c < d))
next_column m n c d (inl h) = inl h
next_column m n c d (inr h) = let below = h.1 in inr (h.0, omega (arith, below))

weaker : (a b : Position) → Later a b → NotBefore a b
weaker a b (inl h) = inl h
weaker a b (inr h) = let below = h.1 in inr (h.0, omega (arith, below))

stays : (a : Position) → NotBefore a a
stays a = inr (refl, omega arith)

step : (p : Position) (a b : Bool) (x y z : Position) → NotBefore (record { line = suc p.line; column = 1 }) x → NotBefore p y → NotBefore (record { line = p.line; column = suc p.column }) z →
    NotBefore p (if a then x else if b then y else z)
step p true b x y z h k l = inl (next_line p.line x.line p.column x.column h)
step p false true x y z h k l = k
step p false false x y z h k l = weaker p z (next_column p.line z.line p.column z.column l)

-- no text leads back
onward : (p : Position) (s : Text) → NotBefore p (position_after p s)
onward p [] = stays p
onward p (c ∷ cs) =
    step p (c == line_feed) (is_continuation c) _ _ _ (onward (record { line = suc p.line; column = 1 }) cs) (onward p cs) (onward (record { line = p.line; column = suc p.column }) cs)

step_on : (p : Position) (a b : Bool) (x y z : Position) → b ≡ false → NotBefore (record { line = suc p.line; column = 1 }) x → NotBefore (record { line = p.line; column = suc p.column }) z →
    Later p (if a then x else if b then y else z)
step_on p true b x y z e h l = inl (next_line p.line x.line p.column x.column h)
step_on p false true x y z e h l = absurd cc
step_on p false false x y z e h l = next_column p.line z.line p.column z.column l

both : (a b : Bool) (x y z u v w : Position) → Later x u → Later y v → Later z w → Later (if a then x else if b then y else z) (if a then u else if b then v else w)
both true b x y z u v w h k l = h
both false true x y z u v w h k l = k
both false false x y z u v w h k l = l

abbrev Starts : ℕ → Type 0
Starts c = 128 ≤ c → 192 ≤ c

starts : (c : ℕ) → Starts c → is_continuation c ≡ false
starts c h = grind (arith, nat_tests)

less_true : (a b : ℕ) → nat_lt a b ≡ true → a < b
less_true a b e = grind (arith, nat_tests)

less_false : (a b : ℕ) → nat_lt a b ≡ false → b ≤ a
less_false a b e = grind (arith, nat_tests)

apart : (s : Text) (p q : ℕ) (a : Position) → Starts (slice_index s p) → p < q → q ≤ length s → Later (position_after a (take p s)) (position_after a (take q s))
apart [] p q a h less within = absurd (omega (arith, less, within))
apart (c ∷ cs) p zero a h less within = absurd (omega (arith, less))
apart (c ∷ cs) zero (suc q) a h less within =
    step_on a (c == line_feed) (is_continuation c) _ _ _ (starts c h) (onward (record { line = suc a.line; column = 1 }) (take q cs)) (onward (record { line = a.line; column = suc a.column }) (take q cs))
apart (c ∷ cs) (suc p) (suc q) a h less within =
    let below : p < q = omega (arith, less) in
    let inside : q ≤ length cs = omega (arith, within) in
    both (c == line_feed) (is_continuation c) _ _ _ _ _ _ (apart cs p q (record { line = suc a.line; column = 1 }) h below inside) (apart cs p q a h below inside)
    (apart cs p q (record { line = a.line; column = suc a.column }) h below inside)

no_later : (a b : Position) → a ≡ b → Later a b → ⊥
no_later a b e (inl h) = let same : a.line ≡ b.line = ap (λ p. p.line) e in absurd (omega (arith, h, same))
no_later a b e (inr h) = let same : a.column ≡ b.column = ap (λ p. p.column) e in let below = h.1 in absurd (omega (arith, below, same))

decide : (source : Text) (p q : ℕ) → IsCharBoundary source p → IsCharBoundary source q → position_of source p ≡ position_of source q → (b c : Bool) → nat_lt p q ≡ b → nat_lt q p ≡ c → p ≡ q
decide source p q at_p at_q same true c e f =
    let less : p < q = less_true p q e in
    let end = at_q.0 in
    absurd (no_later _ _ same (apart source p q first_position (at_p.1 (omega (arith, less, end))) less at_q.0))
decide source p q at_p at_q same false true e f =
    let less : q < p = less_true q p f in
    let end = at_p.0 in
    absurd (no_later _ _ (sym same) (apart source q p first_position (at_q.1 (omega (arith, less, end))) less at_p.0))
decide source p q at_p at_q same false false e f = let below = less_false p q e in let over = less_false q p f in omega (arith, below, over)

pub positions_determine_offsets : PositionsDetermineOffsets
positions_determine_offsets source p q utf8 at_p at_q same = decide source p q at_p at_q same (nat_lt p q) (nat_lt q p) refl refl
