-- What is found in a string literal is a placeable by the grammar.
use Rattle.std.proofs.Common.{◌≡◌, ◌∙◌, ℕ, suc, ◌-◌, Bool, true, false, not, if◌then◌else◌, [], ◌∷◌, ◌++◌, length, take, drop, Option, Some, None, option_map, refl, sym, ap, append_assoc, length-append, eqb-true, inl, inr, subst, arith}
use Rattle.std.specs.Prelude.{◌==◌, ◌⊎◌}
use Rattle.std.specs.Option.{option_or}
use Rattle.fluent_grammar.specs.Words.{Text, line_feed, carriage_return, space, quote, dollar, hyphen, dot, open_paren, open_brace, close_brace, begins, begins_with, begins_arrow, is_letter, name_len, skip_blank, skip_spaces}
use Rattle.fluent_grammar.specs.Lexical.{SpellsName, no_accessor}
use Rattle.fluent_grammar.specs.Reading.{identifier_at}
use Rattle.fluent_grammar.specs.Refusal.{got}
use Rattle.fluent_grammar.specs.Spelling.{SpellsInline, a_variable_reference, a_term_reference, no_call, in_braces, an_inline, may_stand_alone}
use Rattle.fluent_grammar.specs.Tree as t
use Rattle.fluent_grammar.proofs.Blanks.{skip_spaces-other, skip_spaces-spaced}
use Rattle.fluent_grammar.proofs.Cases.{cases, and-left, and-right}
use Rattle.fluent_grammar.proofs.Got.{begins_is}
use Rattle.fluent_grammar.proofs.Words.{name_sound}
use Rattle.lint_findings.specs.Quoted.{Quoted, quoted_in, reference_in_braces, closed_reference, closed_name, is_closed_name}
use Rattle.lint_findings.specs.QuotedLaws.{IsNamed, named_variable, named_term, IsPlaceableAt, QuotedAreSpelled}

if_some : {A : Type 0} (b : Bool) (x y : A) → (if b then Some x else None) ≡ Some y → (b ≡ true) × (x ≡ y)
if_some true x y e = (refl, cc)
if_some false x y e = absurd cc

if_then : {A : Type 0} (b : Bool) (o : Option A) (y : A) → (if b then o else None) ≡ Some y → (b ≡ true) × (o ≡ Some y)
if_then true o y e = (refl, e)
if_then false o y e = absurd cc

-- ---- blank before a byte that is none

stays : (c : ℕ) (cs : Text) → (c == space) ≡ false → (c == line_feed) ≡ false → (c == carriage_return) ≡ false → skip_blank (c ∷ cs) ≡ c ∷ cs
stays c cs p q r = rw (p, q, r) refl

blank_is_spaces : (d : ℕ) (s : Text) → (d == space) ≡ false → (d == line_feed) ≡ false → (d == carriage_return) ≡ false → begins_with d (skip_spaces s) ≡ true → skip_blank s ≡ skip_spaces s
blank_is_spaces d [] p q r h = refl
blank_is_spaces d (c ∷ cs) p q r h = cases (c == space)
    (λ k.
    let e : c ≡ space = eqb-true c space k in
    let there : begins_with d (skip_spaces cs) ≡ true = sym (ap (begins_with d) (skip_spaces-spaced 1 cs)) ∙ ap (λ x. begins_with d (skip_spaces (x ∷ cs))) (sym e) ∙ h in
    ap (λ x. skip_blank (x ∷ cs)) e ∙ blank_is_spaces d cs p q r there ∙ sym (skip_spaces-spaced 1 cs) ∙ ap (λ x. skip_spaces (x ∷ cs)) (sym e))
    (λ k.
    let front : skip_spaces (c ∷ cs) ≡ c ∷ cs = skip_spaces-other c cs k in
    let e : c ≡ d = eqb-true c d (sym (ap (begins_with d) front) ∙ h) in
    stays c cs k (ap (λ x. x == line_feed) e ∙ q) (ap (λ x. x == carriage_return) e ∙ r) ∙ sym front)

-- what begins with a closing brace
no_arrow : (s : Text) → begins_with close_brace s ≡ true → begins_arrow s ≡ false
no_arrow s h = ap begins_arrow (begins_is close_brace s h)

no_paren : (s : Text) → begins_with close_brace s ≡ true → begins_with open_paren s ≡ false
no_paren s h = ap (begins_with open_paren) (begins_is close_brace s h)

-- before spaces and a closing brace no dot stands
no_dot : (s : Text) → begins_with close_brace (skip_spaces s) ≡ true → begins_with dot s ≡ false
no_dot [] h = refl
no_dot (c ∷ cs) h = cases (c == dot)
    (λ k.
    let e : c ≡ dot = eqb-true c dot k in
    let no : false ≡ true = ap (λ x. begins_with close_brace (skip_spaces (x ∷ cs))) (sym e) ∙ h in absurd cc)
    (λ k. k)

-- ---- a name with its sign

no_name : (x : Text) → begins is_letter x ≡ false → name_len x ≡ 0
no_name x k = rw k refl

letter_first : (x : Text) → not (name_len x == 0) ≡ true → begins is_letter x ≡ true
letter_first x h = cases (begins is_letter x)
    (λ k. k)
    (λ k. let no : false ≡ true = ap (λ n. not (n == 0)) (sym (no_name x k)) ∙ h in absurd cc)

name_read : (x : Text) → begins is_letter x ≡ true → identifier_at x ≡ got (take (name_len x) x) (drop (name_len x) x)
unfolding identifier_at
name_read x k = rw k refl

name_there : (x : Text) → not (name_len x == 0) ≡ true → SpellsName (take (name_len x) x) x (drop (name_len x) x)
name_there x h = name_sound x _ _ (name_read x (letter_first x h))

brace_after_blank : (v : Text) → begins_with close_brace (skip_spaces v) ≡ true → begins_with close_brace (skip_blank v) ≡ true
brace_after_blank v h = ap (begins_with close_brace) (blank_is_spaces close_brace v refl refl refl h) ∙ h

-- ---- a name that is closed, after its sign

-- a reference that nothing but blank and a closing brace follow
abbrev Closed : Text → Text → Type 0
Closed s r = (e : t.Inline) × (v : Text) × IsNamed r e × SpellsInline e s v × (may_stand_alone e ≡ true) × (begins_with close_brace (skip_blank v) ≡ true)

variable_closed : (s x : Text) → s ≡ dollar ∷ x → is_closed_name x ≡ true → Closed s (dollar ∷ take (name_len x) x)
variable_closed s x front h =
    let name = and-left (not (name_len x == 0)) _ h in
    let brace = and-right (not (name_len x == 0)) _ h in
    (t.variable_reference (take (name_len x) x), drop (name_len x) x, named_variable, a_variable_reference front (name_there x name), refl, brace_after_blank (drop (name_len x) x) brace)

term_closed : (s x : Text) → s ≡ hyphen ∷ x → is_closed_name x ≡ true → Closed s (hyphen ∷ take (name_len x) x)
term_closed s x front h =
    let v = drop (name_len x) x in
    let name = and-left (not (name_len x == 0)) _ h in
    let brace = and-right (not (name_len x == 0)) _ h in
    let after : begins_with close_brace (skip_blank v) ≡ true = brace_after_blank v brace in
    let again : skip_blank (skip_blank v) ≡ skip_blank v = ap skip_blank (begins_is close_brace (skip_blank v) after) ∙ sym (begins_is close_brace (skip_blank v) after) in (
      t.term_reference (take (name_len x) x) None t.no_arguments,
      skip_blank v,
      named_term,
      a_term_reference front (name_there x name) (no_accessor (no_dot v brace)) (no_call (no_paren (skip_blank v) after)),
      refl,
      ap (begins_with close_brace) again ∙ after,
    )

-- which of two signs is at the front
by_sign : (b c : Bool) (x y : Option Text) (r : Text) → (if b then x else if c then y else None) ≡ Some r → ((b ≡ true) × (x ≡ Some r)) ⊎ ((c ≡ true) × (y ≡ Some r))
by_sign true c x y r h = inl (refl, h)
by_sign false true x y r h = inr (refl, h)
by_sign false false x y r h = absurd cc

-- a reference that is closed, and the sign that it begins with
closed_by : (s r : Text) → ((begins_with dollar s ≡ true) × (closed_name (dollar ∷ []) (drop 1 s) ≡ Some r)) ⊎ ((begins_with hyphen s ≡ true) × (closed_name (hyphen ∷ []) (drop 1 s) ≡ Some r)) →
    Closed s r × ((begins_with dollar s ≡ true) ⊎ (begins_with hyphen s ≡ true))
closed_by s r (inl p) =
    let x = drop 1 s in
    let test = if_some (is_closed_name x) (dollar ∷ take (name_len x) x) r p.1 in
    (subst (Closed s) test.1 (variable_closed s x (begins_is dollar s p.0) test.0), inl p.0)
closed_by s r (inr p) =
    let x = drop 1 s in
    let test = if_some (is_closed_name x) (hyphen ∷ take (name_len x) x) r p.1 in
    (subst (Closed s) test.1 (term_closed s x (begins_is hyphen s p.0) test.0), inr p.0)

closed_is : (s r : Text) → closed_reference s ≡ Some r → Closed s r × ((begins_with dollar s ≡ true) ⊎ (begins_with hyphen s ≡ true))
closed_is s r h = closed_by s r (by_sign (begins_with dollar s) (begins_with hyphen s) (closed_name (dollar ∷ []) (drop 1 s)) (closed_name (hyphen ∷ []) (drop 1 s)) r h)

-- ---- in braces

-- blank before a sign is spaces
blank_before : (u : Text) → ((begins_with dollar (skip_spaces u) ≡ true) ⊎ (begins_with hyphen (skip_spaces u) ≡ true)) → skip_blank u ≡ skip_spaces u
blank_before u (inl h) = blank_is_spaces dollar u refl refl refl h
blank_before u (inr h) = blank_is_spaces hyphen u refl refl refl h

placeable_of : (s u r : Text) → s ≡ open_brace ∷ u → Closed (skip_blank u) r → IsPlaceableAt s r
placeable_of s u r brace closed =
    let v = closed.1 in (
      closed.0,
      drop 1 (skip_blank v),
      closed.2,
      in_braces brace (an_inline closed.3 (no_arrow (skip_blank v) closed.5) closed.4)
          (ap skip_blank (begins_is close_brace (skip_blank v) closed.5)),
    )

braces_are : (s r : Text) → reference_in_braces s ≡ Some r → IsPlaceableAt s r
braces_are s r h =
    let test = if_then (begins_with open_brace s) (closed_reference (skip_spaces (drop 1 s))) r h in
    let inside = closed_is (skip_spaces (drop 1 s)) r test.1 in
    placeable_of s (drop 1 s) r (begins_is open_brace s test.0) (subst (λ x. Closed x r) (sym (blank_before (drop 1 s) inside.1)) inside.0)

-- ---- the first in a text

drop_front : (xs ys : Text) → drop (length xs) (xs ++ ys) ≡ ys
drop_front [] ys = refl
drop_front (x ∷ xs) ys = drop_front xs ys

some_is : {A : Type 0} (x y : A) → Some x ≡ Some y → x ≡ y
some_is x y e = cc

-- what is found at the front of the end of a text that has this many bytes
abbrev found_at : ℕ → Text → Option Text → Option Quoted
found_at n s o = option_map (λ r. record { inside = n - length (drop 1 s); reference = r }) o

-- at a byte that begins a placeable, or else after it
at_first : (xs : Text) (c : ℕ) (cs : Text) (q : Quoted) (o : Option Text) → reference_in_braces (c ∷ cs) ≡ o →
    (quoted_in (length (xs ++ c ∷ cs)) cs ≡ Some q → IsPlaceableAt (drop q.inside (quote ∷ xs ++ c ∷ cs)) q.reference) →
    option_or (found_at (length (xs ++ c ∷ cs)) (c ∷ cs) o) (quoted_in (length (xs ++ c ∷ cs)) cs) ≡ Some q →
    IsPlaceableAt (drop q.inside (quote ∷ xs ++ c ∷ cs)) q.reference
at_first xs c cs q None e later h = later h
at_first xs c cs q (Some r) e later h =
    let s = xs ++ c ∷ cs in
    let it : Quoted = record { inside = length s - length cs; reference = r } in
    let n : length s - length cs ≡ suc (length xs) = omega (arith, length-append xs (c ∷ cs)) in
    let front : drop (length s - length cs) (quote ∷ s) ≡ c ∷ cs = ap (λ k. drop k (quote ∷ s)) n ∙ drop_front xs (c ∷ cs) in
    subst (λ (p : Quoted). IsPlaceableAt (drop p.inside (quote ∷ s)) p.reference) (some_is it q h)
    (subst (λ (x : Text). IsPlaceableAt x r) (sym front) (braces_are (c ∷ cs) r e))

found_in : (xs s : Text) (q : Quoted) → quoted_in (length (xs ++ s)) s ≡ Some q → IsPlaceableAt (drop q.inside (quote ∷ xs ++ s)) q.reference
found_in xs [] q h = absurd cc
found_in xs (c ∷ cs) q h =
    at_first xs c cs q (reference_in_braces (c ∷ cs)) refl
    (subst (λ (ys : Text). quoted_in (length ys) cs ≡ Some q → IsPlaceableAt (drop q.inside (quote ∷ ys)) q.reference) (append_assoc xs (c ∷ []) cs) (found_in (xs ++ c ∷ []) cs q)) h

pub quoted_are_spelled : QuotedAreSpelled
quoted_are_spelled raw q h = found_in [] raw q h
