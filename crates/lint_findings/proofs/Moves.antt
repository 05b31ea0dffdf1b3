-- A place after one byte, at the start of its line, and above it.
use Rattle.std.proofs.Common.{◌≡◌, ◌∙◌, ℕ, zero, suc, ◌+◌, ◌-◌, ◌<◌, ◌≤◌, true, false, length, drop, get_or, refl, sym, ap, arith, min, if◌then◌else◌, add-one}
use Rattle.std.proofs.lemmas.Bool.{ne_eqb}
use Rattle.std.proofs.lemmas.List.{take_min}
use Rattle.fluent_grammar.specs.Words.{Text}
use Rattle.fluent_grammar.specs.Escapes.{is_continuation}
use Rattle.lint_findings.specs.Position.{Position, position_after, first_position, position_of, line_from}
use Rattle.lint_findings.specs.declared.places.SourcePosition.{SourcePosition}
use Rattle.lint_findings.specs.PlaceView.{IsPlaceIn, IsNextFeed, NoFeeds, BeginsLine, place_position}
use Rattle.lint_findings.proofs.Steps.{step, position_step, position_bound, line_zero, line_step}

step_feed : (p : Position) (c : ℕ) → c ≡ 10 → step p c ≡ record { line = suc p.line; column = 1 }
step_feed p c feed = rw feed

pub step_other : (p : Position) (c : ℕ) → (c ≡ 10 → ⊥) → step p c ≡ (if is_continuation c then p else record { line = p.line; column = suc p.column })
step_other p c other = rw (ne_eqb c 10 other) refl

step_line : (p : Position) (c : ℕ) → (c ≡ 10 → ⊥) → (step p c).line ≡ p.line
step_line p c other =
    ap (λ (q : Position). q.line) (step_other p c other)
    ∙ elim (is_continuation c) as (λ b. (if b then p else record { line = p.line; column = suc p.column }).line ≡ p.line) [ true ↦ refl | false ↦ refl ]

-- ---- where a line begins

pub line_begins : (source : Text) (n : ℕ) → n ≤ length source → BeginsLine source n →
    ((position_of source n).column ≡ 1) × (line_from source n source ≡ drop n source)
line_begins source zero within begins = (refl, line_zero source source)
line_begins source (suc n) within begins =
    let within' : n < length source = omega arith in
    let less : suc n - 1 ≡ n = omega arith in
    let feed : get_or source n 0 ≡ 10 = rw less at (begins (omega arith)) in (
      ap (λ (q : Position). q.column) (position_step source n within' ∙ step_feed (position_of source n) (get_or source n 0) feed),
      line_step source source n within' ∙ rw feed,
    )

-- ---- after one byte

module _ (source : Text) (p : SourcePosition) (is : IsPlaceIn source p) (more : p.offset < length source) where
  moved : position_of source (p.offset + 1) ≡ step (place_position p) (get_or source p.offset 0)
  moved = rw add-one (position_step source p.offset more ∙ ap (λ q. step q (get_or source p.offset 0)) is.position)

  same_line : (get_or source p.offset 0 ≡ 10 → ⊥) → line_from source (p.offset + 1) source ≡ drop p.line_start source
  same_line other = rw add-one (line_step source source p.offset more ∙ rw (ne_eqb (get_or source p.offset 0) 10 other) is.line)

  pub after_continuation : (get_or source p.offset 0 ≡ 10 → ⊥) → is_continuation (get_or source p.offset 0) ≡ true →
      IsPlaceIn source (record { offset = p.offset + 1; line_start = p.line_start; line = p.line; column = p.column })
  after_continuation other continues =
      let before : p.line_start ≤ p.offset = is.before in
      record {
        within = omega arith;
        before = omega arith;
        begins = is.begins;
        position = moved ∙ step_other (place_position p) (get_or source p.offset 0) other ∙ rw continues;
        line_position = is.line_position;
        line = same_line other;
      }

  pub after_character : (get_or source p.offset 0 ≡ 10 → ⊥) → is_continuation (get_or source p.offset 0) ≡ false →
      IsPlaceIn source (record { offset = p.offset + 1; line_start = p.line_start; line = p.line; column = p.column + 1 })
  after_character other begins_one =
      let before : p.line_start ≤ p.offset = is.before in
      record {
        within = omega arith;
        before = omega arith;
        begins = is.begins;
        position = rw (add-one p.column) (moved ∙ step_other (place_position p) (get_or source p.offset 0) other ∙ rw begins_one);
        line_position = is.line_position;
        line = same_line other;
      }

-- ---- back to the start of the line, and above it

pub at_start : (source : Text) (p : SourcePosition) → IsPlaceIn source p →
    IsPlaceIn source (record { offset = p.line_start; line_start = p.line_start; line = p.line; column = 1 })
at_start source p is =
    let within : p.offset ≤ length source = is.within in
    let before : p.line_start ≤ p.offset = is.before in
    record {
      within = omega arith;
      before = omega arith;
      begins = is.begins;
      position = is.line_position;
      line_position = is.line_position;
      line = (line_begins source p.line_start (omega arith) is.begins).1;
    }

-- the line of an offset, and of the one before it if no line ends there
pub line_goes_on : (source : Text) (n : ℕ) → 0 < n → n ≤ length source → (get_or source (n - 1) 0 ≡ 10 → ⊥) →
    (position_of source (n - 1)).line ≡ (position_of source n).line
line_goes_on source zero some within other = absurd (omega arith)
line_goes_on source (suc n) some within other =
    let less : suc n - 1 ≡ n = omega arith in
    let other' : get_or source n 0 ≡ 10 → ⊥ = rw less at other in
    rw less (sym (ap (λ (q : Position). q.line) (position_step source n (omega arith)) ∙ step_line (position_of source n) (get_or source n 0) other'))

-- ---- past the next line feed

-- the line of an offset, and of an earlier one if no line ends between
line_until : (source : Text) (n k m : ℕ) → n + k ≡ m → m ≤ length source → NoFeeds source n m →
    (position_of source m).line ≡ (position_of source n).line
line_until source n zero m sum within none =
    let same : m ≡ n = omega (arith, sum) in
    ap (λ i. (position_of source i).line) same
line_until source n (suc k) m sum within none =
    sym (line_goes_on source m (omega (arith, sum)) within (none (m - 1) (omega (arith, sum)) (omega (arith, sum))))
    ∙ line_until source n k (m - 1) (omega (arith, sum)) (omega (arith, within)) (λ j after before. none j after (omega (arith, before)))

pub after_line : (source : Text) (p : SourcePosition) (feed : ℕ) → IsPlaceIn source p → IsNextFeed source p.offset feed →
    IsPlaceIn source (record { offset = feed + 1; line_start = feed + 1; line = p.line + 1; column = 1 })
after_line source p feed is next =
    let not_before : p.offset ≤ feed = next.not_before in
    let within : feed < length source = next.within in
    let on : (position_of source feed).line ≡ p.line =
    line_until source p.offset (feed - p.offset) feed (omega arith) (omega arith) next.first
    ∙ ap (λ (q : Position). q.line) is.position in
    let stepped : position_of source (suc feed) ≡ record { line = suc p.line; column = 1 } =
    position_step source feed within ∙ step_feed (position_of source feed) (get_or source feed 0) next.ends
    ∙ ap (λ n. record { line = suc n; column = 1 }) on in
    let here : position_of source (feed + 1) ≡ record { line = p.line + 1; column = 1 } = rw (add-one feed, add-one p.line) stepped in
    let less : feed + 1 - 1 ≡ feed = omega arith in
    let begins : BeginsLine source (feed + 1) = λ h. rw less next.ends in
    record {
      within = omega arith;
      before = omega arith;
      begins = begins;
      position = here;
      line_position = here;
      line = (line_begins source (feed + 1) (omega arith) begins).1;
    }

-- the line of a place, by that of the line feed before it
pub line_ended : (source : Text) (p : SourcePosition) → IsPlaceIn source p → 0 < p.line_start →
    p.line ≡ suc (position_of source (p.line_start - 1)).line
line_ended source p is some =
    let within : p.offset ≤ length source = is.within in
    let before : p.line_start ≤ p.offset = is.before in
    let less : suc (p.line_start - 1) ≡ p.line_start = omega arith in
    let stepped = position_step source (p.line_start - 1) (omega arith)
    ∙ step_feed (position_of source (p.line_start - 1)) (get_or source (p.line_start - 1) 0) (is.begins some) in
    let at : position_of source p.line_start ≡ record { line = suc (position_of source (p.line_start - 1)).line; column = 1 } = rw less at stepped in
    ap (λ (q : Position). q.line) (sym is.line_position ∙ at)

pub made : (q : Position) (l c : ℕ) → q.line ≡ l → q.column ≡ c → q ≡ record { line = l; column = c }
made q l c line column =
    let first : q ≡ record { line = l; column = q.column } = ap (λ n. record { line = n; column = q.column }) line in
    let second : record { line = l; column = q.column } ≡ record { line = l; column = c } = ap (λ n. record { line = l; column = n }) column in
    first ∙ second

pub above : (source : Text) (p : SourcePosition) (start : ℕ) → IsPlaceIn source p → 0 < p.line_start → start < p.line_start →
    BeginsLine source start → (position_of source start).line ≡ (position_of source (p.line_start - 1)).line →
    IsPlaceIn source (record { offset = start; line_start = start; line = p.line - 1; column = 1 })
above source p start is some earlier begins same =
    let within : p.offset ≤ length source = is.within in
    let before : p.line_start ≤ p.offset = is.before in
    let parts = line_begins source start (omega arith) begins in
    let ended : p.line ≡ suc (position_of source (p.line_start - 1)).line = line_ended source p is some in
    let line : (position_of source start).line ≡ p.line - 1 = omega arith in
    let here : position_of source start ≡ record { line = p.line - 1; column = 1 } = made (position_of source start) (p.line - 1) 1 line parts.0 in
    record {
      within = omega arith;
      before = omega arith;
      begins = begins;
      position = here;
      line_position = here;
      line = parts.1;
    }

-- the position of an offset, by that of a place
pub position_at : (source : Text) (p : SourcePosition) (n : ℕ) → IsPlaceIn source p → p.offset ≡ min n (length source) →
    position_of source n ≡ place_position p
position_at source p n is e =
    ap (position_after first_position) (sym (take_min n source)) ∙ ap (position_of source) (sym e) ∙ is.position

-- a place's numbers are at most the bytes before it, and one
pub numbers_bound : (source : Text) (p : SourcePosition) → IsPlaceIn source p → (p.line ≤ p.offset + 1) × (p.column ≤ p.offset + 1)
numbers_bound source p is =
    let bound = position_bound source p.offset is.within in
    let line : (position_of source p.offset).line ≡ p.line = ap (λ (q : Position). q.line) is.position in
    let column : (position_of source p.offset).column ≡ p.column = ap (λ (q : Position). q.column) is.position in
    (omega (arith, bound.0, line), omega (arith, bound.1, column))
