-- Blank inline, line ends and blank: what is skipped is what is spelled.
use Rattle.std.proofs.Common.{◌≡◌, ℕ, true, false, [], ◌∷◌, ◌++◌, drop, take, Some, refl, sym, ap, ◌∙◌, arith, inl, inr}
use Rattle.std.specs.Prelude.{◌==◌, ◌&&◌, ◌||◌}
use Rattle.fluent_grammar.specs.Words.{Text, line_feed, carriage_return, space, spaces, begins_with, skip_spaces, after_line_end, skip_blank, rest_of_line}
use Rattle.fluent_grammar.specs.Lexical.{SpellsLineEnd, lf, crlf, IsBlank, no_blank, then_space, then_lf, then_crlf, SpellsBlank, SpellsBlankInline, SpellsRestOfLine, line_ends, text_ends, line_byte}
use Rattle.fluent_grammar.specs.SpellingLaws.{BlankInlineAgrees, LineEndsAgree, BlankAgrees, RestsOfLinesAgree}
use Rattle.fluent_grammar.proofs.Got.{which, begins_is, same, either, decide}
use Rattle.fluent_grammar.proofs.Runs.{run_counted, drop_run}

-- ---- blank inline

blank_inline_sound : (s rest : Text) → skip_spaces s ≡ rest → (blank : Text) × SpellsBlankInline blank s rest
blank_inline_sound s rest e = (take (spaces s) s, rw e at (run_counted (λ c. c == space) s))

blank_inline_complete : (s rest : Text) → (blank : Text) × SpellsBlankInline blank s rest → skip_spaces s ≡ rest
blank_inline_complete s rest spelled = drop_run spelled.1

pub blank_inline_agrees : BlankInlineAgrees
blank_inline_agrees s rest = (blank_inline_sound s rest, blank_inline_complete s rest)

-- ---- line ends

lf-at : {s rest : Text} → s ≡ line_feed ∷ rest → SpellsLineEnd s rest
lf-at e = rw e lf

crlf-at : {s rest : Text} → s ≡ carriage_return ∷ line_feed ∷ rest → SpellsLineEnd s rest
crlf-at e = rw e crlf

pub line_end_sound : (s rest : Text) → after_line_end s ≡ Some rest → SpellsLineEnd s rest
line_end_sound [] rest e = absurd cc
line_end_sound (c ∷ []) rest e = elim (which (c == line_feed) _ _ _ e) [
  | inl p ↦ let n : c ≡ line_feed = same c line_feed p.0 in let r : [] ≡ rest = cc in lf-at (rw (n, r) refl)
  | inr p ↦ absurd (grind arith)
]
line_end_sound (c ∷ d ∷ ds) rest e = elim (which (c == line_feed) _ _ _ e) [
  | inl p ↦ let n : c ≡ line_feed = same c line_feed p.0 in let r : d ∷ ds ≡ rest = cc in lf-at (rw (n, r) refl)
  | inr p ↦ elim (which (c == carriage_return && d == line_feed) _ _ _ p.1) [
    | inl q ↦ let m : c ≡ carriage_return = grind arith in let n : d ≡ line_feed = grind arith in let r : ds ≡ rest = cc in crlf-at (rw (m, n, r) refl)
    | inr q ↦ absurd cc
  ]
]

pub line_end_complete : {s rest : Text} → SpellsLineEnd s rest → after_line_end s ≡ Some rest
line_end_complete lf = refl
line_end_complete crlf = refl

pub line_ends_agree : LineEndsAgree
line_ends_agree s rest = (line_end_sound s rest, line_end_complete)

-- ---- blank

-- where a line feed stands at the front, blank that is longest begins with it; so a carriage return before it is blank
behind_return : (cs blank rest : Text) → begins_with line_feed cs ≡ true → IsBlank blank → cs ≡ blank ++ rest →
    ((more : Text) → SpellsLineEnd rest more → ⊥) → IsBlank (carriage_return ∷ blank)
behind_return cs _ rest h no_blank split none = absurd (none (drop 1 cs) (lf-at (sym split ∙ begins_is line_feed cs h)))
behind_return cs _ rest h (then_space b) split none = absurd (grind arith)
behind_return cs _ rest h (then_lf b) split none = then_crlf b
behind_return cs _ rest h (then_crlf b) split none = absurd (grind arith)

one-space : (c : ℕ) (cs rest : Text) → c ≡ space → (blank : Text) × SpellsBlank blank cs rest → (blank : Text) × SpellsBlank blank (c ∷ cs) rest
one-space c cs rest e more =
    let d = more.1 in
    (space ∷ more.0, record { split = rw (e, ← d.split) refl; is_blank = then_space d.is_blank; no_space = d.no_space; no_line_end = d.no_line_end })

one-lf : (c : ℕ) (cs rest : Text) → c ≡ line_feed → (blank : Text) × SpellsBlank blank cs rest → (blank : Text) × SpellsBlank blank (c ∷ cs) rest
one-lf c cs rest e more =
    let d = more.1 in
    (line_feed ∷ more.0, record { split = rw (e, ← d.split) refl; is_blank = then_lf d.is_blank; no_space = d.no_space; no_line_end = d.no_line_end })

one-return : (c : ℕ) (cs rest : Text) → c ≡ carriage_return → begins_with line_feed cs ≡ true → (blank : Text) × SpellsBlank blank cs rest →
    (blank : Text) × SpellsBlank blank (c ∷ cs) rest
one-return c cs rest e h more =
    let d = more.1 in (
      carriage_return ∷ more.0,
      record {
        split = rw (e, ← d.split) refl;
        is_blank = behind_return cs more.0 rest h d.is_blank d.split d.no_line_end;
        no_space = d.no_space;
        no_line_end = d.no_line_end;
      },
    )

no_line_end-here : (c : ℕ) (cs more : Text) → (c == line_feed) ≡ false → (c == carriage_return && begins_with line_feed cs) ≡ false → SpellsLineEnd (c ∷ cs) more → ⊥
no_line_end-here c cs more no_lf no_crlf lf = absurd cc
no_line_end-here c cs more no_lf no_crlf crlf = absurd cc

pub blank_sound : (s rest : Text) → skip_blank s ≡ rest → (blank : Text) × SpellsBlank blank s rest
blank_sound [] rest e = ([], record { split = e; is_blank = no_blank; no_space = rw (← e) refl; no_line_end = rw (← e) (λ more d. elim d [ ]) })
blank_sound (c ∷ cs) rest e = elim (which (c == space || c == line_feed) _ _ _ e) [
  | inl p ↦ elim (either (c == space) (c == line_feed) p.0) [
    | inl q ↦ one-space c cs rest (same c space q) (blank_sound cs rest p.1)
    | inr q ↦ one-lf c cs rest (same c line_feed q) (blank_sound cs rest p.1)
  ]
  | inr p ↦ elim (which (c == carriage_return && begins_with line_feed cs) _ _ _ p.1) [
    | inl q ↦ one-return c cs rest (grind arith) (grind arith) (blank_sound cs rest q.1)
    | inr q ↦
        let no_sp : (c == space) ≡ false = grind arith in
        let no_lf : (c == line_feed) ≡ false = grind arith in
        ([], record { split = q.1; is_blank = no_blank; no_space = rw (← q.1) no_sp; no_line_end = rw (← q.1) (λ more d. no_line_end-here c cs more no_lf q.0 d) })
  ]
]

pub no_line_feed : (c : ℕ) (cs : Text) → ((more : Text) → SpellsLineEnd (c ∷ cs) more → ⊥) → (c == line_feed) ≡ false
no_line_feed c cs none = elim (decide (c == line_feed)) [
  | inl p ↦ absurd (none cs (lf-at (ap (λ x. x ∷ cs) (same c line_feed p))))
  | inr p ↦ p
]

no_return : (c : ℕ) (cs : Text) → ((more : Text) → SpellsLineEnd (c ∷ cs) more → ⊥) → (c == carriage_return && begins_with line_feed cs) ≡ false
no_return c cs none = elim (decide (c == carriage_return && begins_with line_feed cs)) [
  | inl p ↦
      let m : c ≡ carriage_return = grind arith in
      let h : begins_with line_feed cs ≡ true = grind arith in
      absurd (none (drop 1 cs) (crlf-at (ap (λ x. x ∷ cs) m ∙ ap (λ x. carriage_return ∷ x) (begins_is line_feed cs h))))
  | inr p ↦ p
]

stays : (rest : Text) → begins_with space rest ≡ false → ((more : Text) → SpellsLineEnd rest more → ⊥) → skip_blank rest ≡ rest
stays [] no_space no_line_end = refl
stays (c ∷ cs) no_space no_line_end = rw (no_space, no_line_feed c cs no_line_end, no_return c cs no_line_end) refl

blank_skipped : {blank : Text} (rest : Text) → IsBlank blank → skip_blank (blank ++ rest) ≡ skip_blank rest
blank_skipped rest no_blank = refl
blank_skipped rest (then_space b) = blank_skipped rest b
blank_skipped rest (then_lf b) = blank_skipped rest b
blank_skipped rest (then_crlf b) = blank_skipped rest b

pub blank_complete : (s rest : Text) → (blank : Text) × SpellsBlank blank s rest → skip_blank s ≡ rest
blank_complete s rest spelled =
    let d = spelled.1 in
    rw d.split (blank_skipped rest d.is_blank ∙ stays rest d.no_space d.no_line_end)

pub blank_agrees : BlankAgrees
blank_agrees s rest = (blank_sound s rest, blank_complete s rest)

-- ---- the rest of a line

pub rest_of_line_sound : (s line rest : Text) → rest_of_line s ≡ (line, rest) → SpellsRestOfLine line s rest
rest_of_line_sound [] line rest e = let a : [] ≡ line = ap (λ x. x.0) e in let b : [] ≡ rest = ap (λ x. x.1) e in rw (← a, ← b) text_ends
rest_of_line_sound (c ∷ cs) line rest e = elim (which (c == line_feed) _ _ _ e) [
  | inl p ↦
      let n : c ≡ line_feed = same c line_feed p.0 in
      let a : [] ≡ line = ap (λ x. x.0) p.1 in
      let b : cs ≡ rest = ap (λ x. x.1) p.1 in
      rw (← a) (line_ends (lf-at {s = c ∷ cs} {rest = rest} (rw (n, b) refl)))
  | inr p ↦ elim (which (c == carriage_return && begins_with line_feed cs) _ _ _ p.1) [
    | inl q ↦
        let m : c ≡ carriage_return = grind arith in
        let h : begins_with line_feed cs ≡ true = grind arith in
        let a : [] ≡ line = ap (λ x. x.0) q.1 in
        let b : drop 1 cs ≡ rest = ap (λ x. x.1) q.1 in
        rw (← a, ← b) (line_ends (crlf-at (ap (λ x. x ∷ cs) m ∙ ap (λ x. carriage_return ∷ x) (begins_is line_feed cs h))))
    | inr q ↦
        let a : c ∷ (rest_of_line cs).0 ≡ line = ap (λ x. x.0) q.1 in
        let b : (rest_of_line cs).1 ≡ rest = ap (λ x. x.1) q.1 in
        rw (← a, ← b) (line_byte (λ more d. no_line_end-here c cs more p.0 q.0 d) (rest_of_line_sound cs (rest_of_line cs).0 (rest_of_line cs).1 refl))
  ]
]

pub rest_of_line_complete : {s line rest : Text} → SpellsRestOfLine line s rest → rest_of_line s ≡ (line, rest)
rest_of_line_complete (line_ends lf) = refl
rest_of_line_complete (line_ends crlf) = refl
rest_of_line_complete text_ends = refl
rest_of_line_complete (line_byte {c} {line} {s} {rest} none d) = rw (no_line_feed c s none, no_return c s none, rest_of_line_complete d) refl

pub rests_of_lines_agree : RestsOfLinesAgree
rests_of_lines_agree s line rest = (rest_of_line_sound s line rest, rest_of_line_complete)
