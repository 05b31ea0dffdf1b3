-- A line has no line feed before a place, so a place may go back on it.
use Rattle.std.proofs.Common.{◌≡◌, ◌∙◌, ℕ, zero, suc, ◌+◌, ◌-◌, ◌<◌, ◌≤◌, ◌==◌, true, false, [], ◌∷◌, length, drop, get_or, min, refl, sym, ap, arith, if◌then◌else◌, length-drop, inl, inr}
use Rattle.std.proofs.lemmas.Bool.{ne_eqb, cases_lt}
use Rattle.fluent_grammar.specs.Words.{Text, line_feed}
use Rattle.fluent_grammar.specs.Escapes.{is_continuation}
use Rattle.lint_findings.specs.Position.{Position, position_of, line_from}
use Rattle.lint_findings.specs.declared.places.SourcePosition.{SourcePosition}
use Rattle.lint_findings.specs.PlaceView.{IsPlaceIn, place_position}
use Rattle.lint_findings.proofs.Steps.{position_step, line_step}
use Rattle.lint_findings.proofs.Moves.{step_other, made}

-- ---- line feeds before an offset

line_bound : (line cs : Text) (n k : ℕ) → length line ≤ k → length cs ≤ k → length (line_from line n cs) ≤ k
line_bound line [] n k long rest = long
line_bound line (c ∷ cs) zero k long rest = long
line_bound line (c ∷ cs) (suc n) k long rest =
    elim (c == line_feed) as (λ b. length (if b then line_from cs n cs else line_from line n cs) ≤ k) [
      | true ↦ line_bound cs cs n k (omega arith) (omega arith)
      | false ↦ line_bound line cs n k long (omega arith)
    ]

feed_ends : (line cs : Text) (n j : ℕ) → j < n → n ≤ length cs → get_or cs j 0 ≡ 10 → suc j + length (line_from line n cs) ≤ length cs
feed_ends line [] n j before within feed = absurd (omega arith)
feed_ends line (c ∷ cs) zero j before within feed = absurd (omega arith)
feed_ends line (c ∷ cs) (suc n) zero before within feed =
    let bound = line_bound cs cs n (length cs) (omega arith) (omega arith) in
    rw feed (omega (arith, bound))
feed_ends line (c ∷ cs) (suc n) (suc j) before within feed =
    let before' : j < n = omega arith in
    let within' : n ≤ length cs = omega arith in
    elim (c == line_feed) as (λ b. suc (suc j) + length (if b then line_from cs n cs else line_from line n cs) ≤ suc (length cs)) [
      | true ↦ (let h = feed_ends cs cs n j before' within' feed in omega (arith, h))
      | false ↦ (let h = feed_ends line cs n j before' within' feed in omega (arith, h))
    ]

pub no_feed : (source : Text) (p : SourcePosition) → IsPlaceIn source p → (j : ℕ) → p.line_start ≤ j → j < p.offset → get_or source j 0 ≡ 10 → ⊥
no_feed source p is j after before feed =
    let within : p.offset ≤ length source = is.within in
    let bound = feed_ends source source p.offset j before within feed in
    let line : length (line_from source p.offset source) ≡ length source - p.line_start = ap length is.line ∙ length-drop p.line_start source in
    omega (arith, bound, line)

-- ---- one byte back

module _ (source : Text) (p : SourcePosition) (is : IsPlaceIn source p) (m : ℕ) (here : suc m ≡ p.offset) (inside : p.line_start ≤ m) where
  other : get_or source m 0 ≡ 10 → ⊥
  other feed = no_feed source p is m inside (omega arith) feed

  short : m < length source
  short = let within : p.offset ≤ length source = is.within in omega arith

  stepped : place_position p ≡ (if is_continuation (get_or source m 0) then position_of source m
      else record { line = (position_of source m).line; column = suc (position_of source m).column })
  stepped =
      sym is.position ∙ ap (position_of source) (sym here) ∙ position_step source m short
      ∙ step_other (position_of source m) (get_or source m 0) other

  same_line : line_from source m source ≡ drop p.line_start source
  same_line =
      let at : line_from source (suc m) source ≡ line_from source m source = line_step source source m short ∙ rw (ne_eqb (get_or source m 0) 10 other) refl in
      sym at ∙ ap (λ k. line_from source k source) here ∙ is.line

  pub before_continuation : is_continuation (get_or source m 0) ≡ true →
      IsPlaceIn source (record { offset = m; line_start = p.line_start; line = p.line; column = p.column })
  before_continuation continues =
      let at : place_position p ≡ position_of source m = rw continues at stepped in
      let end : m < length source = short in
      record {
        within = omega arith;
        before = inside;
        begins = is.begins;
        position = sym at;
        line_position = is.line_position;
        line = same_line;
      }

  at_character : is_continuation (get_or source m 0) ≡ false →
      place_position p ≡ record { line = (position_of source m).line; column = suc (position_of source m).column }
  at_character begins_one = rw begins_one at stepped

  pub has_column : is_continuation (get_or source m 0) ≡ false → p.column ≡ suc (position_of source m).column
  has_column begins_one = ap (λ (q : Position). q.column) (at_character begins_one)

  pub before_character : is_continuation (get_or source m 0) ≡ false →
      IsPlaceIn source (record { offset = m; line_start = p.line_start; line = p.line; column = p.column - 1 })
  before_character begins_one =
      let line : p.line ≡ (position_of source m).line = ap (λ (q : Position). q.line) (at_character begins_one) in
      let column : p.column - 1 ≡ (position_of source m).column = omega (arith, has_column begins_one) in
      let end : m < length source = short in
      record {
        within = omega arith;
        before = inside;
        begins = is.begins;
        position = made (position_of source m) p.line (p.column - 1) (sym line) (sym column);
        line_position = is.line_position;
        line = same_line;
      }

-- ---- offsets after the end

line_over : (line cs : Text) (n : ℕ) → length cs ≤ n → line_from line n cs ≡ line_from line (length cs) cs
line_over line [] n over = refl
line_over line (c ∷ cs) zero over = absurd (omega arith)
line_over line (c ∷ cs) (suc n) over =
    elim (c == line_feed) as (λ b. (if b then line_from cs n cs else line_from line n cs)
    ≡ (if b then line_from cs (length cs) cs else line_from line (length cs) cs)) [
      | true ↦ line_over cs cs n (omega arith)
      | false ↦ line_over line cs n (omega arith)
    ]

line_min : (source : Text) (n : ℕ) → line_from source n source ≡ line_from source (min n (length source)) source
line_min source n =
    elim (cases_lt n (length source)) [
      | inl less ↦ (let same : n ≡ min n (length source) = omega arith in ap (λ k. line_from source k source) same)
      | inr over ↦ (let same : length source ≡ min n (length source) = omega arith in
          line_over source source n over ∙ ap (λ k. line_from source k source) same)
    ]

-- the line of an offset, by that of a place
pub line_at_place : (source : Text) (p : SourcePosition) (n : ℕ) → IsPlaceIn source p → p.offset ≡ min n (length source) →
    line_from source n source ≡ drop p.line_start source
line_at_place source p n is e = line_min source n ∙ ap (λ k. line_from source k source) (sym e) ∙ is.line
