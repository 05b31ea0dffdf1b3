-- A line in two parts: its front up to a place between characters, and the text after that.
use Rattle.std.proofs.Common.{◌≡◌, ◌∙◌, ℕ, zero, suc, ◌+◌, ◌-◌, ◌<◌, ◌≤◌, ◌==◌, ◌&&◌, nat_lt, ◌⊎◌, Bool, true, false, [], ◌∷◌, ◌++◌, length, take, drop, get_or, refl, sym, ap, subst, arith, inl, inr, if◌then◌else◌, length-append}
use Rattle.std.specs.List.{slice_range}
use Rattle.std.specs.Str.{chars, IsUtf8, IsCharBoundary}
use Rattle.std.proofs.lemmas.Bool.{cases_lt}
use Rattle.std.proofs.lemmas.Bool.Decides.{nat_tests}
use Rattle.std.proofs.lemmas.List.{drop-drop, drop-take, drop_more, get_or-drop, get_or-take, get_or_past, length-take, length-drop, take-append-drop, take-take, take_more}
use Rattle.std.proofs.lemmas.Str.{chars-append, chars-nil, IsUtf8-between, IsCharBoundary-start, IsCharBoundary-after_ascii, IsCharBoundary-before_ascii}
use Rattle.fluent_grammar.specs.Words.{Text, carriage_return, line_feed}
use Rattle.lint_findings.specs.Position.{Position, position_after, first_position, to_line_end}
use Rattle.lint_findings.specs.declared.places.SourcePosition.{SourcePosition}
use Rattle.lint_findings.specs.PlaceView.{IsAfter, IsPlaceIn, end_of_front}
use Rattle.lint_findings.proofs.Steps.{after_append}
use Rattle.lint_findings.proofs.Within.{no_feed}
use Rattle.lint_findings.proofs.Seams.{line_seam}
use Rattle.lint_findings.proofs.Columns.{past_text}

-- ---- where the front ends

-- a line end is cut at n
pub record CutsLineEnd (source : Text) (n : ℕ) : Type 0 where
  pub some : 0 < n
  pub feed : get_or source n 0 ≡ 10
  pub return_before : get_or source (n - 1) 0 ≡ 13

abbrev cuts_line_end : Text → ℕ → Bool
cuts_line_end source n =
    nat_lt 0 n && (nat_lt n (length source) && ((get_or source n 0 == line_feed) && (get_or source (n - 1) 0 == carriage_return)))

cuts_is : (source : Text) (n : ℕ) → cuts_line_end source n ≡ true → CutsLineEnd source n
cuts_is source n e = record { some = grind (arith, nat_tests); feed = grind (arith, nat_tests); return_before = grind (arith, nat_tests) }

cuts_not : (source : Text) (n : ℕ) → cuts_line_end source n ≡ false → CutsLineEnd source n → ⊥
cuts_not source n e cut =
    let within : n < length source = elim (cases_lt n (length source)) [
      | inl less ↦ less
      | inr over ↦ absurd (let none : get_or source n 0 ≡ 0 = get_or_past source n 0 over in let feed = cut.feed in omega (arith, none, feed))
    ] in
    let some = cut.some in
    let feed = cut.feed in
    let return_before = cut.return_before in
    grind (arith, nat_tests)

abbrev Ends : Text → ℕ → ℕ → Type 0
Ends source n e = ((e ≡ n) × (CutsLineEnd source n → ⊥)) ⊎ ((suc e ≡ n) × CutsLineEnd source n)

front_ends : (source : Text) (n : ℕ) → Ends source n (end_of_front source n)
front_ends source n = by (cuts_line_end source n) refl
  where
    by : (b : Bool) → cuts_line_end source n ≡ b → Ends source n (if b then n - 1 else n)
    by true e = let cut = cuts_is source n e in let some = cut.some in inr (omega arith, cut)
    by false e = inl (refl, cuts_not source n e)

module _ (source : Text) (utf8 : IsUtf8 source) (p : SourcePosition) (is : IsPlaceIn source p) (between : IsCharBoundary source p.offset) where
  pub starts_between : IsCharBoundary source p.line_start
  starts_between = starts p.line_start refl
    where
      starts : (n : ℕ) → n ≡ p.line_start → IsCharBoundary source p.line_start
      starts zero e = (let B : ℕ → Type 0 = λ k. IsCharBoundary source k in subst B e (IsCharBoundary-start source utf8))
      starts (suc n) e =
          let B : ℕ → Type 0 = λ k. IsCharBoundary source k in
          let within : p.offset ≤ length source = is.within in
          let before : p.line_start ≤ p.offset = is.before in
          let less : p.line_start - 1 ≡ n = omega arith in
          let feed : get_or source n 0 ≡ 10 = rw less at (is.begins (omega arith)) in
          let next : n + 1 ≡ p.line_start = omega arith in
          subst B next (IsCharBoundary-after_ascii source n utf8 (omega arith) (omega arith))

  -- no line feed is in the front
  front_other : (e : ℕ) → e ≤ p.offset → (j : ℕ) → j < e - p.line_start → get_or (drop p.line_start source) j 0 ≡ 10 → ⊥
  front_other e before j within feed =
      no_feed source p is (p.line_start + j) (omega arith) (omega arith) (sym (get_or-drop p.line_start source j 0) ∙ feed)

  -- the front begins before a line end that is cut
  start_before : CutsLineEnd source p.offset → p.line_start < p.offset
  start_before cut =
      let before : p.line_start ≤ p.offset = is.before in
      elim (cases_lt p.line_start p.offset) [
        | inl less ↦ less
        | inr over ↦ absurd (
            let same : p.line_start ≡ p.offset = omega arith in
            let some = cut.some in
            let return_before = cut.return_before in
            let feed : get_or source (p.offset - 1) 0 ≡ 10 = rw same at (is.begins (omega arith)) in
            omega (arith, feed, return_before))
      ]

  start_before_end : (e : ℕ) → Ends source p.offset e → (p.line_start ≤ e) × (e ≤ p.offset)
  start_before_end e (inl h) = let same = h.0 in let before = is.before in (omega (arith, same, before), omega (arith, same))
  start_before_end e (inr h) =
      let same = h.0 in let less = start_before h.1 in (omega (arith, same, less), omega (arith, same))

  whole : (e : ℕ) → Ends source p.offset e → (j : ℕ) → suc j ≡ e - p.line_start → get_or (drop p.line_start source) j 0 ≡ 13 →
      get_or (drop p.line_start source) (suc j) 0 ≡ 10 → ⊥
  whole e (inl h) j at return_at feed_at =
      let same = h.0 in
      let next : p.line_start + suc j ≡ p.offset = omega (arith, same, at) in
      let here : p.line_start + j ≡ p.offset - 1 = omega (arith, same, at) in
      let feed : get_or source p.offset 0 ≡ 10 = rw next at (sym (get_or-drop p.line_start source (suc j) 0) ∙ feed_at) in
      let before : get_or source (p.offset - 1) 0 ≡ 13 = rw here at (sym (get_or-drop p.line_start source j 0) ∙ return_at) in
      h.1 (record { some = omega (arith, next); feed = feed; return_before = before })
  whole e (inr h) j at return_at feed_at =
      let same = h.0 in
      let next : p.line_start + suc j ≡ p.offset - 1 = omega (arith, same, at) in
      let feed : get_or source (p.offset - 1) 0 ≡ 10 = rw next at (sym (get_or-drop p.line_start source (suc j) 0) ∙ feed_at) in
      let return_before = h.1.return_before in
      omega (arith, feed, return_before)

  line_by : (e : ℕ) → Ends source p.offset e →
      to_line_end (drop p.line_start source) ≡ take (e - p.line_start) (drop p.line_start source) ++ to_line_end (drop e source)
  line_by e ends =
      let range = start_before_end e ends in
      let after = range.0 in
      let before = range.1 in
      let within : p.offset ≤ length source = is.within in
      let rest : drop (e - p.line_start) (drop p.line_start source) ≡ drop e source =
      drop-drop (e - p.line_start) p.line_start source ∙ (let sum : p.line_start + (e - p.line_start) ≡ e = omega (arith, after) in ap (λ k. drop k source) sum) in
      line_seam (drop p.line_start source) (e - p.line_start) (omega (arith, length-drop p.line_start source, before))
      (front_other e before) (whole e ends)
      ∙ ap (λ t. take (e - p.line_start) (drop p.line_start source) ++ to_line_end t) rest

  pub line_is : to_line_end (drop p.line_start source)
      ≡ take (end_of_front source p.offset - p.line_start) (drop p.line_start source) ++ to_line_end (drop (end_of_front source p.offset) source)
  line_is = line_by (end_of_front source p.offset) (front_ends source p.offset)

  -- ---- the column

  front_is_text : IsUtf8 (take (p.offset - p.line_start) (drop p.line_start source))
  front_is_text = IsUtf8-between source p.line_start p.offset utf8 is.before starts_between between

  before_offset : take p.offset source ≡ take p.line_start source ++ take (p.offset - p.line_start) (drop p.line_start source)
  before_offset =
      let before : p.line_start ≤ p.offset = is.before in
      let sum : p.line_start + (p.offset - p.line_start) ≡ p.offset = omega (arith, before) in
      let back : drop p.line_start (take p.offset source) ≡ take (p.offset - p.line_start) (drop p.line_start source) =
      rw sum at (drop-take p.line_start (p.offset - p.line_start) source) in
      sym (take-append-drop p.line_start (take p.offset source))
      ∙ ap (λ t. t ++ drop p.line_start (take p.offset source)) (take-take p.line_start p.offset source before)
      ∙ ap (λ t. take p.line_start source ++ t) back

  other_in_front : (j : ℕ) → get_or (take (p.offset - p.line_start) (drop p.line_start source)) j 0 ≡ 10 → ⊥
  other_in_front j feed =
      elim (cases_lt j (p.offset - p.line_start)) [
        | inl less ↦ front_other p.offset (omega arith) j less (sym (get_or-take (p.offset - p.line_start) (drop p.line_start source) j 0 less) ∙ feed)
        | inr over ↦ absurd (
            let short : length (take (p.offset - p.line_start) (drop p.line_start source)) ≤ j =
            omega (arith, length-take (p.offset - p.line_start) (drop p.line_start source), over) in
            let none = get_or_past (take (p.offset - p.line_start) (drop p.line_start source)) j 0 short in
            omega (arith, none, feed))
      ]

  pub column_is : p.column ≡ 1 + length (chars (take (p.offset - p.line_start) (drop p.line_start source)))
  column_is =
      let front = take (p.offset - p.line_start) (drop p.line_start source) in
      ap (λ (q : Position). q.column) (
      sym is.position
      ∙ ap (position_after first_position) before_offset
      ∙ after_append first_position (take p.line_start source) front
      ∙ ap (λ q. position_after q front) is.line_position
      ∙ past_text p.line 1 front front_is_text other_in_front)

  after_by : (e : ℕ) → Ends source p.offset e →
      IsAfter (take (e - p.line_start) (drop p.line_start source)) (drop e source) (p.column - 1)
  after_by e (inl h) =
      let same : e ≡ p.offset = h.0 in
      let count : p.column - 1 ≡ length (chars (take (e - p.line_start) (drop p.line_start source))) =
      rw same (omega (arith, column_is)) in
      record { not_less = omega (arith, count); same = λ more. count }
  after_by e (inr h) =
      let same : suc e ≡ p.offset = h.0 in
      let less = start_before h.1 in
      let inside : p.line_start ≤ e = omega (arith, same, less) in
      let end : p.offset ≤ length source = is.within in
      let feed : get_or source (suc e) 0 ≡ 10 = rw same h.1.feed in
      let back : p.offset - 1 ≡ e = omega (arith, same) in
      let return_at : get_or source e 0 ≡ 13 = rw back at h.1.return_before in
      let feed_inside : suc e < length source = elim (cases_lt (suc e) (length source)) [
        | inl less ↦ less
        | inr over ↦ absurd (let none = get_or_past source (suc e) 0 over in omega (arith, none, feed))
      ] in
      let between_e : IsCharBoundary source e = IsCharBoundary-before_ascii source e (omega (arith, feed_inside)) (omega (arith, return_at)) in
      let front_is : IsUtf8 (take (e - p.line_start) (drop p.line_start source)) =
      IsUtf8-between source p.line_start e utf8 inside starts_between between_e in
      let count : suc (e - p.line_start) ≡ p.offset - p.line_start = omega (arith, same, inside) in
      let longer : take (e - p.line_start + 1) (drop p.line_start source)
      ≡ take (e - p.line_start) (drop p.line_start source) ++ get_or (drop p.line_start source) (e - p.line_start) 0 ∷ [] =
      take_more (drop p.line_start source) (e - p.line_start) 0 (omega (arith, length-drop p.line_start source, feed_inside)) in
      let sum : e - p.line_start + 1 ≡ p.offset - p.line_start = omega (arith, count) in
      let whole_front : take (p.offset - p.line_start) (drop p.line_start source)
      ≡ take (e - p.line_start) (drop p.line_start source) ++ get_or (drop p.line_start source) (e - p.line_start) 0 ∷ [] = rw sum at longer in
      let lengths : length (chars (take (p.offset - p.line_start) (drop p.line_start source)))
      ≡ length (chars (take (e - p.line_start) (drop p.line_start source))) + length (chars (get_or (drop p.line_start source) (e - p.line_start) 0 ∷ [])) =
      ap (λ t. length (chars t)) whole_front
      ∙ ap length (chars-append (take (e - p.line_start) (drop p.line_start source)) (get_or (drop p.line_start source) (e - p.line_start) 0 ∷ []) front_is)
      ∙ length-append (chars (take (e - p.line_start) (drop p.line_start source))) (chars (get_or (drop p.line_start source) (e - p.line_start) 0 ∷ [])) in
      let ended : to_line_end (drop e source) ≡ [] = line_ended_at e return_at feed feed_inside in
      let none : length (chars (to_line_end (drop e source))) ≡ 0 = ap (λ t. length (chars t)) ended ∙ ap length chars-nil in
      record { not_less = omega (arith, column_is, lengths); same = λ more. absurd (omega (arith, more, none)) }
    where
      line_ended_at : (e : ℕ) → get_or source e 0 ≡ 13 → get_or source (suc e) 0 ≡ 10 → suc e < length source → to_line_end (drop e source) ≡ []
      line_ended_at e return_at feed within =
          let first : drop e source ≡ get_or source e 0 ∷ drop (e + 1) source = drop_more source e 0 (omega (arith, within)) in
          let second : drop (suc e) source ≡ get_or source (suc e) 0 ∷ drop (suc e + 1) source = drop_more source (suc e) 0 within in
          let next : e + 1 ≡ suc e = omega arith in
          rw (first, next, second, return_at, feed) refl

  pub after_is : IsAfter (take (end_of_front source p.offset - p.line_start) (drop p.line_start source)) (drop (end_of_front source p.offset) source) (p.column - 1)
  after_is = after_by (end_of_front source p.offset) (front_ends source p.offset)

  -- ---- the two parts

  pub split_line : (start e : ℕ) (bytes front rest : Text) → p.line_start ≡ start → bytes ≡ source → e ≡ end_of_front bytes p.offset →
      front ≡ slice_range source p.line_start e → rest ≡ drop e source → to_line_end (drop start source) ≡ front ++ to_line_end rest
  split_line start e bytes front rest starts same end front_is rest_is =
      let e_is : e ≡ end_of_front source p.offset = end ∙ ap (λ t. end_of_front t p.offset) same in
      ap (λ n. to_line_end (drop n source)) (sym starts) ∙ line_is
      ∙ ap (λ n. take (n - p.line_start) (drop p.line_start source) ++ to_line_end (drop n source)) (sym e_is)
      ∙ ap (λ t. t ++ to_line_end (drop e source)) (sym front_is)
      ∙ ap (λ t. front ++ to_line_end t) (sym rest_is)

  pub split_after : (column e : ℕ) (bytes front rest : Text) → p.column ≡ column → bytes ≡ source → e ≡ end_of_front bytes p.offset →
      front ≡ slice_range source p.line_start e → rest ≡ drop e source → IsAfter front rest (column - 1)
  split_after column e bytes front rest at same end front_is rest_is =
      let e_is : e ≡ end_of_front source p.offset = end ∙ ap (λ t. end_of_front t p.offset) same in
      let A : ℕ → Type 0 = λ n. IsAfter (take (n - p.line_start) (drop p.line_start source)) (drop n source) (p.column - 1) in
      let B : Text → Type 0 = λ t. IsAfter t (drop e source) (p.column - 1) in
      let C : Text → Type 0 = λ t. IsAfter front t (p.column - 1) in
      let D : ℕ → Type 0 = λ n. IsAfter front rest (n - 1) in
      subst D at (subst C (sym rest_is) (subst B (sym front_is) (subst A (sym e_is) after_is)))
