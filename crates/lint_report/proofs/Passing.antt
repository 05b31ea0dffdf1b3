-- Characters of a text that were passed, from its start on or from its end back.
use Rattle.std.proofs.Common.{◌≡◌, ◌∙◌, ℕ, suc, ◌+◌, ◌-◌, ◌<◌, ◌≤◌, ◌&&◌, ◌==◌, Bool, true, false, not, nat_lt, List, [], ◌∷◌, ◌++◌, length, take, drop, Option, Some, None, is_some, refl, sym, ap, subst, arith, append_assoc, append-nil, length-append}
use Rattle.std.specs.List.{slice_range}
use Rattle.std.specs.Str.{chars, IsUtf8, IsCharBoundary, all_scalars, encode_utf8_all}
use Rattle.std.specs.Prelude.{encode_utf8}
use Rattle.std.specs.Str.Iter.{chars_steps, chars_steps_back}
use Rattle.std.specs.declared.str.Chars.{Chars}
use Rattle.std.proofs.lemmas.Bool.{ne_eqb}
use Rattle.std.proofs.lemmas.Bool.Decides.{nat_tests}
use Rattle.std.proofs.lemmas.List.{take_all, take_at, drop_at, length_push}
use Rattle.std.proofs.lemmas.Str.{chars-append, chars-nil, chars-encodes, chars_from_encodes, cons_from_encodes, encodes-append, encodes-chars, length-le-encodes, IsCharBoundary-at_seam, IsCharBoundary-from_take}
use Rattle.std.proofs.str.Laws.{Shape, of1, of2, of3, of4, shape}
use lib.Utf8.{scalar, scalar_cases}
use Rattle.fluent_grammar.specs.Words.{Text, after_line_end}
use Rattle.lint_findings.specs.Position.{to_line_end, stop_at_end}
use Rattle.lint_report.specs.declared.excerpts.Excerpt.{Excerpt}
use Rattle.lint_report.specs.Excerpts.{is_at_line_end, IsFront, IsEnd}

-- ---- a character within a line

plain_byte : (b : ℕ) (s : Text) → 128 ≤ b → to_line_end (b ∷ s) ≡ b ∷ to_line_end s
plain_byte b s high = rw (ne_eqb b 10 (λ e. absurd (omega arith)), ne_eqb b 13 (λ e. absurd (omega arith))) refl

first_byte : (b : ℕ) (s : Text) → is_at_line_end (b ∷ s) ≡ false → to_line_end (b ∷ s) ≡ b ∷ to_line_end s
first_byte b s inside = by (after_line_end (b ∷ s)) inside
  where
    by : (o : Option Text) → is_some o ≡ false → stop_at_end (b ∷ to_line_end s) o ≡ b ∷ to_line_end s
    by None e = refl
    by (Some rest) e = absurd cc

in_line : (c : ℕ) (s : Text) → Shape c → is_at_line_end (encode_utf8 c ++ s) ≡ false → to_line_end (encode_utf8 c ++ s) ≡ encode_utf8 c ++ to_line_end s
in_line c s (of1 low e) inside =
    let inside' : is_at_line_end (c ∷ s) ≡ false = rw e at inside in
    rw e (first_byte c s inside')
in_line c s (of2 a b a1 a2 b1 v e) inside =
    rw e (plain_byte a (b ∷ s) (omega arith) ∙ ap (λ t. a ∷ t) (plain_byte b s b1.0))
in_line c s (of3 a b d a1 a2 b1 d1 v e) inside =
    rw e (plain_byte a (b ∷ d ∷ s) (omega arith) ∙ ap (λ t. a ∷ t) (plain_byte b (d ∷ s) b1.0 ∙ ap (λ t. b ∷ t) (plain_byte d s d1.0)))
in_line c s (of4 a b d f a1 a2 b1 d1 f1 v e) inside =
    rw e (plain_byte a (b ∷ d ∷ f ∷ s) (omega arith)
    ∙ ap (λ t. a ∷ t) (plain_byte b (d ∷ f ∷ s) b1.0 ∙ ap (λ t. b ∷ t) (plain_byte d (f ∷ s) d1.0 ∙ ap (λ t. d ∷ t) (plain_byte f s f1.0))))

first_true : (a b : Bool) → (a && b) ≡ true → a ≡ true
first_true true b e = refl
first_true false b e = absurd cc

-- a character that a text begins with is one
is_character : (text rest : Text) (c : ℕ) → IsUtf8 text → text ≡ encode_utf8 c ++ rest → scalar c ≡ true
is_character text rest c utf8 is =
    let cons = cons_from_encodes utf8.0 rest c (utf8.1.1 ∙ is) in
    let all : all_scalars (c ∷ cons.0) ≡ true = ap all_scalars (sym cons.1) ∙ utf8.1.0 in
    first_true (scalar c) (all_scalars cons.0) all

in_line_is : (text rest : Text) (c : ℕ) → IsUtf8 text → text ≡ encode_utf8 c ++ rest → is_at_line_end text ≡ false →
    to_line_end text ≡ encode_utf8 c ++ to_line_end rest
in_line_is text rest c utf8 is inside =
    ap to_line_end is
    ∙ in_line c rest (shape c (scalar_cases c (is_character text rest c utf8 is))) (ap is_at_line_end (sym is) ∙ inside)

-- ---- from the start on

pub record FrontPassed (text rest : Text) (count : ℕ) : Type 0 where
  pub passed : List ℕ
  pub text_is : text ≡ encode_utf8_all passed ++ rest
  pub line_is : to_line_end text ≡ encode_utf8_all passed ++ to_line_end rest
  pub count_is : count ≡ length passed

pub front_start : (text : Text) → FrontPassed text text 0
front_start text = record { passed = []; text_is = refl; line_is = refl; count_is = refl }

one_more : (passed : List ℕ) (c : ℕ) (t : Text) → encode_utf8_all passed ++ (encode_utf8 c ++ t) ≡ encode_utf8_all (passed ++ c ∷ []) ++ t
one_more passed c t =
    sym (append_assoc (encode_utf8_all passed) (encode_utf8 c) t)
    ∙ ap (λ e. (encode_utf8_all passed ++ e) ++ t) (sym (append-nil (encode_utf8 c)))
    ∙ ap (λ s. s ++ t) (sym (encodes-append passed (c ∷ [])))

pub front_next : (text rest next : Text) (count c : ℕ) → FrontPassed text rest count → IsUtf8 rest → rest ≡ encode_utf8 c ++ next →
    is_at_line_end rest ≡ false → FrontPassed text next (count + 1)
front_next text rest next count c so_far utf8 is inside = record {
  passed = so_far.passed ++ c ∷ [];
  text_is = so_far.text_is ∙ ap (λ t. encode_utf8_all so_far.passed ++ t) is ∙ one_more so_far.passed c next;
  line_is =
      so_far.line_is ∙ ap (λ t. encode_utf8_all so_far.passed ++ t) (in_line_is rest next c utf8 is inside) ∙ one_more so_far.passed c (to_line_end next);
  count_is = ap (λ n. n + 1) so_far.count_is ∙ sym (length_push so_far.passed c);
}

pub front_length : (text rest : Text) (count : ℕ) (so_far : FrontPassed text rest count) → length text ≡ length (encode_utf8_all so_far.passed) + length rest
front_length text rest count so_far = ap length so_far.text_is ∙ length-append (encode_utf8_all so_far.passed) rest

pub front_boundary : (text rest : Text) (count : ℕ) → FrontPassed text rest count → IsUtf8 rest → IsCharBoundary text (length text - length rest)
front_boundary text rest count so_far utf8 =
    let B : ℕ → Type 0 = λ n. IsCharBoundary text n in
    let here : length (encode_utf8_all so_far.passed) ≡ length text - length rest = omega (arith, front_length text rest count so_far) in
    subst B here (IsCharBoundary-at_seam text (encode_utf8_all so_far.passed) rest so_far.text_is utf8)

front_shown : (text rest : Text) (count : ℕ) (so_far : FrontPassed text rest count) → take (length text - length rest) text ≡ encode_utf8_all so_far.passed
front_shown text rest count so_far =
    let here : length (encode_utf8_all so_far.passed) ≡ length text - length rest = omega (arith, front_length text rest count so_far) in
    ap (take (length text - length rest)) so_far.text_is ∙ take_at (encode_utf8_all so_far.passed) rest (length text - length rest) here

at_end : (rest : Text) → is_at_line_end rest ≡ true → to_line_end rest ≡ []
at_end [] e = refl
at_end (b ∷ s) e = by (after_line_end (b ∷ s)) e
  where
    by : (o : Option Text) → is_some o ≡ true → stop_at_end (b ∷ to_line_end s) o ≡ []
    by None f = absurd cc
    by (Some more) f = refl

goes_on : (rest : Text) → IsUtf8 rest → is_at_line_end rest ≡ false → 0 < length (chars (to_line_end rest))
goes_on rest utf8 inside = by utf8.0 utf8.1.0 utf8.1.1
  where
    by : (cs : List ℕ) → all_scalars cs ≡ true → encode_utf8_all cs ≡ rest → 0 < length (chars (to_line_end rest))
    by [] scalars e = absurd (let none : is_at_line_end rest ≡ true = ap is_at_line_end (sym e) in cc)
    by (c ∷ cs) scalars e =
        let is = first_true (scalar c) (all_scalars cs) scalars in
        let one : all_scalars (c ∷ []) ≡ true = ap (λ b. b && true) is in
        let begins : to_line_end rest ≡ encode_utf8 c ++ to_line_end (encode_utf8_all cs) =
        in_line_is rest (encode_utf8_all cs) c utf8 (sym e) inside in
        let char : IsUtf8 (encode_utf8 c) = (c ∷ [], (one, append-nil (encode_utf8 c))) in
        let all : chars (to_line_end rest) ≡ chars (encode_utf8 c) ++ chars (to_line_end (encode_utf8_all cs)) =
        ap chars begins ∙ chars-append (encode_utf8 c) (to_line_end (encode_utf8_all cs)) char in
        let first : chars (encode_utf8 c) ≡ c ∷ [] = ap chars (sym (append-nil (encode_utf8 c))) ∙ chars-encodes (c ∷ []) one in
        let count : length (chars (to_line_end rest)) ≡ length (chars (encode_utf8 c)) + length (chars (to_line_end (encode_utf8_all cs))) =
        ap length all ∙ length-append (chars (encode_utf8 c)) (chars (to_line_end (encode_utf8_all cs))) in
        let first_count : length (chars (encode_utf8 c)) ≡ 1 = ap length first in
        omega (arith, count, first_count)

less_not : (m n : ℕ) → n ≤ m → nat_lt m n ≡ false
less_not m n h = grind (arith, nat_tests)

less_is : (m n : ℕ) → m < n → nat_lt m n ≡ true
less_is m n h = grind (arith, nat_tests)

pub front_done : (text rest : Text) (most : ℕ) (e : Excerpt) → FrontPassed text rest e.count → IsUtf8 rest → IsUtf8 e.text.now →
    e.text.now ≡ take (length text - length rest) text → e.count ≤ most → (is_at_line_end rest ≡ false → most ≤ e.count) →
    e.is_cut ≡ not (is_at_line_end rest) → IsFront text most e
front_done text rest most e so_far rest_utf8 utf8 shown few all cut = by (is_at_line_end rest) refl
  where
    passed : List ℕ
    passed = so_far.passed

    shown_is : chars e.text.now ≡ so_far.passed
    shown_is = sym (chars_from_encodes so_far.passed e.text.now utf8 (sym (shown ∙ front_shown text rest e.count so_far)))

    line_is : chars (to_line_end text) ≡ so_far.passed ++ chars (to_line_end rest)
    line_is =
        let same : encode_utf8_all so_far.passed ≡ e.text.now = sym (shown ∙ front_shown text rest e.count so_far) in
        ap chars (so_far.line_is ∙ ap (λ t. t ++ to_line_end rest) same)
        ∙ chars-append e.text.now (to_line_end rest) utf8
        ∙ ap (λ t. t ++ chars (to_line_end rest)) shown_is

    by : (b : Bool) → is_at_line_end rest ≡ b → IsFront text most e
    by true at =
        let none : chars (to_line_end rest) ≡ [] = ap chars (at_end rest at) ∙ chars-nil in
        let line : chars (to_line_end text) ≡ so_far.passed = line_is ∙ ap (λ t. so_far.passed ++ t) none ∙ append-nil so_far.passed in
        let count = so_far.count_is in
        let short : length so_far.passed ≤ most = omega (arith, count, few) in
        record {
          characters = shown_is ∙ sym (ap (take most) line ∙ take_all most so_far.passed short);
          count = so_far.count_is ∙ ap length (sym shown_is);
          is_cut = cut ∙ ap not at ∙ sym (ap (λ t. nat_lt most (length t)) line ∙ less_not most (length so_far.passed) short);
        }
    by false at =
        let count = so_far.count_is in
        let enough = all at in
        let full : length so_far.passed ≡ most = omega (arith, count, few, enough) in
        let more = goes_on rest rest_utf8 at in
        let lengths : length (chars (to_line_end text)) ≡ length so_far.passed + length (chars (to_line_end rest)) =
        ap length line_is ∙ length-append so_far.passed (chars (to_line_end rest)) in
        record {
          characters = shown_is ∙ sym (ap (take most) line_is ∙ take_at so_far.passed (chars (to_line_end rest)) most full);
          count = so_far.count_is ∙ ap length (sym shown_is);
          is_cut = cut ∙ ap not at ∙ sym (less_is most (length (chars (to_line_end text))) (omega (arith, full, more, lengths)));
        }

-- ---- from the end back

pub record EndPassed (text front : Text) (count : ℕ) : Type 0 where
  pub passed : List ℕ
  pub text_is : text ≡ front ++ encode_utf8_all passed
  pub count_is : count ≡ length passed

pub end_start : (text : Text) → EndPassed text text 0
end_start text = record { passed = []; text_is = sym (append-nil text); count_is = refl }

pub end_next : (text front before : Text) (count c : ℕ) → EndPassed text front count → front ≡ before ++ encode_utf8 c → EndPassed text before (count + 1)
end_next text front before count c so_far is = record {
  passed = c ∷ so_far.passed;
  text_is =
      so_far.text_is ∙ ap (λ t. t ++ encode_utf8_all so_far.passed) is ∙ append_assoc before (encode_utf8 c) (encode_utf8_all so_far.passed);
  count_is = (let count = so_far.count_is in omega (arith, count));
}

pub end_length : (text front : Text) (count : ℕ) → EndPassed text front count → length front ≤ length text
end_length text front count so_far =
    let lengths : length text ≡ length front + length (encode_utf8_all so_far.passed) =
    ap length so_far.text_is ∙ length-append front (encode_utf8_all so_far.passed) in
    omega (arith, lengths)

pub end_boundary : (text front : Text) (count : ℕ) → EndPassed text front count → IsUtf8 text → IsUtf8 front → IsCharBoundary text (length front)
end_boundary text front count so_far utf8 front_utf8 =
    let T : Text → Type 0 = λ t. IsUtf8 t in
    let same : front ≡ take (length front) text = sym (ap (take (length front)) so_far.text_is ∙ take_at front (encode_utf8_all so_far.passed) (length front) refl) in
    IsCharBoundary-from_take text (length front) utf8 (end_length text front count so_far) (subst T same front_utf8)

pub end_done : (text front : Text) (most : ℕ) (e : Excerpt) → EndPassed text front e.count → IsUtf8 front → IsUtf8 e.text.now →
    e.text.now ≡ drop (length front) text → e.count ≤ most → (0 < length front → most ≤ e.count) →
    e.is_cut ≡ nat_lt 0 (length front) → IsEnd text most e
end_done text front most e so_far front_utf8 utf8 shown few all cut = by (chars front) refl
  where
    same : e.text.now ≡ encode_utf8_all so_far.passed
    same = shown ∙ ap (drop (length front)) so_far.text_is ∙ drop_at front (encode_utf8_all so_far.passed) (length front) refl

    shown_is : chars e.text.now ≡ so_far.passed
    shown_is = sym (chars_from_encodes so_far.passed e.text.now utf8 (sym same))

    text_is : chars text ≡ chars front ++ so_far.passed
    text_is =
        ap chars (so_far.text_is ∙ ap (λ t. front ++ t) (sym same)) ∙ chars-append front e.text.now front_utf8 ∙ ap (λ t. chars front ++ t) shown_is

    lengths : length (chars text) ≡ length (chars front) + length so_far.passed
    lengths = ap length text_is ∙ length-append (chars front) so_far.passed

    by : (cs : List ℕ) → chars front ≡ cs → IsEnd text most e
    by [] none =
        let count = so_far.count_is in
        let empty : front ≡ [] = sym (encodes-chars front front_utf8) ∙ ap encode_utf8_all none in
        let no_length : length front ≡ 0 = ap length empty in
        let no_chars : length (chars front) ≡ 0 = ap length none in
        let line : chars text ≡ so_far.passed = text_is ∙ ap (λ t. t ++ so_far.passed) none in
        let nothing : length (chars text) - most ≡ 0 = omega (arith, lengths, count, few, no_chars) in
        record {
          characters = shown_is ∙ sym (ap (λ n. drop n (chars text)) nothing ∙ line);
          count = so_far.count_is ∙ ap length (sym shown_is);
          is_cut = cut ∙ ap (nat_lt 0) no_length ∙ sym (less_not most (length (chars text)) (omega (arith, lengths, count, few, no_chars)));
        }
    by (c ∷ cs) some =
        let count = so_far.count_is in
        let some_chars : length (chars front) ≡ suc (length cs) = ap length some in
        let bytes : length (chars front) ≤ length front =
        rw (encodes-chars front front_utf8) at (length-le-encodes (chars front)) in
        let enough = all (omega (arith, some_chars, bytes)) in
        let first : length (chars text) - most ≡ length (chars front) = omega (arith, lengths, count, few, enough) in
        record {
          characters = shown_is ∙ sym (ap (λ n. drop n (chars text)) first ∙ ap (drop (length (chars front))) text_is ∙ drop_at (chars front) so_far.passed (length (chars front)) refl);
          count = so_far.count_is ∙ ap length (sym shown_is);
          is_cut = cut ∙ less_is 0 (length front) (omega (arith, some_chars, bytes)) ∙ sym (less_is most (length (chars text)) (omega (arith, lengths, count, enough, some_chars)));
        }

-- ---- the steps of an iterator

pub front_step : (text rest : Text) (count : ℕ) (s t : Chars) (r : Option ℕ) → chars_steps s r t → rest ≡ s.rest.now → IsUtf8 rest →
    is_at_line_end rest ≡ false → FrontPassed text s.rest.now count → FrontPassed text t.rest.now (count + 1)
front_step text rest count s t None steps same utf8 inside so_far =
    absurd (at_none rest (ap length same ∙ steps.0.0) inside)
  where
    at_none : (rest : Text) → length rest ≡ 0 → is_at_line_end rest ≡ false → ⊥
    at_none [] none e = cc
    at_none (b ∷ s) none e = omega arith
front_step text rest count s t (Some c) steps same utf8 inside so_far =
    let F : Text → Type 0 = λ u. FrontPassed text u count in
    front_next text rest t.rest.now count c (subst F (sym same) so_far) utf8 (same ∙ steps.0) inside

pub end_step : (text front : Text) (count : ℕ) (s t : Chars) (r : Option ℕ) → chars_steps_back s r t → front ≡ s.rest.now →
    0 < length front → EndPassed text s.rest.now count → EndPassed text t.rest.now (count + 1)
end_step text front count s t None steps same some so_far = absurd (let none : length front ≡ 0 = ap length same ∙ steps.0 in omega (arith, none, some))
end_step text front count s t (Some c) steps same some so_far = end_next text s.rest.now t.rest.now count c so_far steps

-- ---- empty texts

pub not_empty : (s : Text) (b : Bool) → b ≡ (length s == 0) → b ≡ false → 0 < length s
not_empty [] b e f = absurd cc
not_empty (c ∷ s) b e f = omega arith

pub cut_by_rest : (s : Text) (b : Bool) → b ≡ (length s == 0) → not b ≡ nat_lt 0 (length s)
cut_by_rest [] b e = ap not e
cut_by_rest (c ∷ s) b e = ap not e ∙ grind (arith, nat_tests)

pub front_range : (s : Text) (n : ℕ) → slice_range s 0 n ≡ take n s
front_range s n = let same : n - 0 ≡ n = omega arith in ap (λ k. take k s) same

pub empty_not : (s : Text) (b : Bool) → b ≡ (length s == 0) → b ≡ true → 0 < length s → ⊥
empty_not [] b e f some = omega (arith, some)
empty_not (c ∷ s) b e f some =
    let none : (length (c ∷ s) == 0) ≡ false = grind (arith, nat_tests) in cc
