-- Positions and lines, one byte further.
use Rattle.std.proofs.Common.{◌≡◌, ◌∙◌, ℕ, zero, suc, ◌+◌, ◌<◌, ◌≤◌, ◌==◌, true, false, [], ◌∷◌, ◌++◌, length, take, drop, get_or, refl, sym, ap, arith, if◌then◌else◌}
use Rattle.std.proofs.lemmas.List.{length-take-le}
use Rattle.std.proofs.Math.Seq.{take-suc}
use Rattle.fluent_grammar.specs.Words.{Text, line_feed}
use Rattle.fluent_grammar.specs.Escapes.{is_continuation}
use Rattle.lint_findings.specs.Position.{Position, position_after, first_position, position_of, line_from}

-- one byte after a position
abbrev pub step : Position → ℕ → Position
step p c =
    if c == line_feed then record { line = suc p.line; column = 1 }
    else if is_continuation c then p
    else record { line = p.line; column = suc p.column }

pub after_cons : (p : Position) (c : ℕ) (cs : Text) → position_after p (c ∷ cs) ≡ position_after (step p c) cs
after_cons p c cs =
    let A : Position = record { line = suc p.line; column = 1 } in
    let B : Position = record { line = p.line; column = suc p.column } in
    elim (c == line_feed) as (λ b. (if b then position_after A cs else if is_continuation c then position_after p cs else position_after B cs)
    ≡ position_after (if b then A else if is_continuation c then p else B) cs) [
      | true ↦ refl
      | false ↦ elim (is_continuation c) as (λ d. (if d then position_after p cs else position_after B cs)
          ≡ position_after (if d then p else B) cs) [ true ↦ refl | false ↦ refl ]
    ]

pub after_append : (p : Position) (xs ys : Text) → position_after p (xs ++ ys) ≡ position_after (position_after p xs) ys
after_append p [] ys = refl
after_append p (c ∷ cs) ys =
    after_cons p c (cs ++ ys) ∙ after_append (step p c) cs ys ∙ sym (ap (λ q. position_after q ys) (after_cons p c cs))

pub position_step : (source : Text) (n : ℕ) → n < length source →
    position_of source (suc n) ≡ step (position_of source n) (get_or source n 0)
position_step source n within =
    ap (position_after first_position) (take-suc source n 0 within)
    ∙ after_append first_position (take n source) (get_or source n 0 ∷ [])
    ∙ after_cons (position_of source n) (get_or source n 0) []

-- ---- lines and columns are at most the bytes and one

step_bound : (p : Position) (c k : ℕ) → 1 ≤ k → p.line ≤ k → p.column ≤ k → ((step p c).line ≤ suc k) × ((step p c).column ≤ suc k)
step_bound p c k one line column =
    elim (c == line_feed) as (λ b.
    ((if b then (let q : Position = record { line = suc p.line; column = 1 } in q) else if is_continuation c then p else record { line = p.line; column = suc p.column }).line ≤ suc k)
    × ((if b then (let q : Position = record { line = suc p.line; column = 1 } in q) else if is_continuation c then p else record { line = p.line; column = suc p.column }).column ≤ suc k)) [
      | true ↦ (omega arith, omega arith)
      | false ↦ elim (is_continuation c) as (λ d.
          ((if d then p else record { line = p.line; column = suc p.column }).line ≤ suc k)
          × ((if d then p else record { line = p.line; column = suc p.column }).column ≤ suc k)) [
            | true ↦ (omega arith, omega arith)
            | false ↦ (omega arith, omega arith)
          ]
    ]

after_bound : (p : Position) (s : Text) (k : ℕ) → 1 ≤ k → p.line ≤ k → p.column ≤ k →
    ((position_after p s).line ≤ k + length s) × ((position_after p s).column ≤ k + length s)
after_bound p [] k one line column = (omega arith, omega arith)
after_bound p (c ∷ cs) k one line column =
    let bound = step_bound p c k one line column in
    let h : ((position_after (step p c) cs).line ≤ suc k + length cs) × ((position_after (step p c) cs).column ≤ suc k + length cs) =
    after_bound (step p c) cs (suc k) (omega arith) bound.0 bound.1 in
    rw (after_cons p c cs) (omega (arith, h.0), omega (arith, h.1))

pub position_bound : (source : Text) (n : ℕ) → n ≤ length source →
    ((position_of source n).line ≤ n + 1) × ((position_of source n).column ≤ n + 1)
position_bound source n within =
    let h : ((position_of source n).line ≤ 1 + length (take n source)) × ((position_of source n).column ≤ 1 + length (take n source)) =
    after_bound first_position (take n source) 1 (omega arith) (omega arith) (omega arith) in
    let taken : length (take n source) ≡ n = length-take-le n source within in
    (omega (arith, h.0, taken), omega (arith, h.1, taken))

-- ---- the line of an offset

pub line_zero : (line cs : Text) → line_from line 0 cs ≡ line
line_zero line [] = refl
line_zero line (c ∷ cs) = refl

pub line_step : (line cs : Text) (n : ℕ) → n < length cs →
    line_from line (suc n) cs ≡ (if get_or cs n 0 == line_feed then drop (suc n) cs else line_from line n cs)
line_step line [] n within = absurd (omega arith)
line_step line (c ∷ cs) zero within =
    elim (c == line_feed) as (λ b. (if b then line_from cs 0 cs else line_from line 0 cs) ≡ (if b then cs else line)) [
      | true ↦ line_zero cs cs
      | false ↦ line_zero line cs
    ]
line_step line (c ∷ cs) (suc n) within =
    let within' : n < length cs = omega arith in
    elim (c == line_feed) as (λ b. (if b then line_from cs (suc n) cs else line_from line (suc n) cs)
    ≡ (if get_or cs n 0 == line_feed then drop (suc n) cs else if b then line_from cs n cs else line_from line n cs)) [
      | true ↦ line_step cs cs n within'
      | false ↦ line_step line cs n within'
    ]
