-- Parts are the same if their text is, but for case and separators.
use Rattle.std.proofs.Common.{◌≡◌, ℕ, Bool, true, false, ◌+◌, ◌≤◌, ◌&&◌, List, [], ◌∷◌, refl, sym, ap, ap₂, subst, ◌∙◌, map, take, drop, length, arith, inl, inr}
use Rattle.std.proofs.lemmas.Bool.{cases_lt, false≢true, ne_eqb, or_parts}
use Rattle.std.proofs.lemmas.List.{take_all}
use Rattle.std.proofs.lemmas.Str.Ascii.{lowercase_is}
use Rattle.std.specs.Char.{to_ascii_lowercase}
use Rattle.std.specs.Prelude.{if◌then◌else◌, ◌==◌}
use Rattle.fluent_languages.proofs.Splitting.{parts_split}
use Rattle.fluent_languages.specs.Tags.{Text, folded, is_separator, more_parts, onto, parts, same_text, same_texts, small}

-- the small form of no other byte is `-`
no_dash : (byte : ℕ) → is_separator byte ≡ false → to_ascii_lowercase byte ≡ 45 → byte ≡ 45
no_dash byte e same = elim (cases_lt byte 65) [
  | inl low ↦ omega (arith, same, (lowercase_is byte).1 low)
  | inr high ↦ elim (cases_lt 90 byte) [
    | inl higher ↦ omega (arith, same, (lowercase_is byte).2 higher)
    | inr within ↦ absurd (omega (arith, same, (lowercase_is byte).0 (high, within)))
  ]
]

is_no_dash : (byte : ℕ) → is_separator byte ≡ false → byte ≡ 45 → false ≡ true
is_no_dash byte e same = sym (or_parts (byte == 45) (byte == 95) e).0 ∙ subst (λ b. (b == 45) ≡ true) (sym same) refl

dash_first : (byte : ℕ) → is_separator byte ≡ false → (45 == to_ascii_lowercase byte) ≡ false
dash_first byte e = ne_eqb 45 (to_ascii_lowercase byte) (λ same. absurd (false≢true (is_no_dash byte e (no_dash byte e (sym same)))))

dash_last : (byte : ℕ) → is_separator byte ≡ false → (to_ascii_lowercase byte == 45) ≡ false
dash_last byte e = ne_eqb (to_ascii_lowercase byte) 45 (λ same. absurd (false≢true (is_no_dash byte e (no_dash byte e same))))

and_again : (a b c : Bool) → ((a && b) && c) ≡ (a && (b && c))
and_again true b c = refl
and_again false b c = refl

both_go_on : (x y : ℕ) (one other : List Text) (p q : Text) (ps qs : List Text) → one ≡ p ∷ ps → other ≡ q ∷ qs
    → same_texts (map small (onto x one)) (map small (onto y other))
    ≡ ((to_ascii_lowercase x == to_ascii_lowercase y) && same_texts (map small one) (map small other))
both_go_on x y one other p q ps qs e f =
    ap₂ (λ u v. same_texts (map small (onto x u)) (map small (onto y v))) e f
    ∙ and_again (to_ascii_lowercase x == to_ascii_lowercase y) (same_text (small p) (small q)) (same_texts (map small ps) (map small qs))
    ∙ sym (ap₂ (λ u v. (to_ascii_lowercase x == to_ascii_lowercase y) && same_texts (map small u) (map small v)) e f)

one_byte : (ends ends' : Bool) (x y : ℕ) (a b : Text) → is_separator x ≡ ends → is_separator y ≡ ends'
    → same_texts (map small (parts a)) (map small (parts b)) ≡ same_text (map folded a) (map folded b)
    → same_texts (map small (if ends then [] ∷ parts a else onto x (parts a))) (map small (if ends' then [] ∷ parts b else onto y (parts b)))
    ≡ (((if ends then 45 else to_ascii_lowercase x) == (if ends' then 45 else to_ascii_lowercase y)) && same_text (map folded a) (map folded b))
one_byte true true x y a b e f same = same
one_byte true false x y a b e f same =
    ap (λ ps. same_texts ([] ∷ map small (parts a)) (map small (onto y ps))) (parts_split b)
    ∙ sym (ap (λ t. t && same_text (map folded a) (map folded b)) (dash_first y f))
one_byte false true x y a b e f same =
    ap (λ ps. same_texts (map small (onto x ps)) ([] ∷ map small (parts b))) (parts_split a)
    ∙ sym (ap (λ t. t && same_text (map folded a) (map folded b)) (dash_last x e))
one_byte false false x y a b e f same =
    both_go_on x y (parts a) (parts b) _ _ _ _ (parts_split a) (parts_split b)
    ∙ ap (λ t. (to_ascii_lowercase x == to_ascii_lowercase y) && t) same

nothing_first : (ends : Bool) (y : ℕ) (b : Text) → same_texts ([] ∷ []) (map small (if ends then [] ∷ parts b else onto y (parts b))) ≡ false
nothing_first true y b = ap (λ ps. same_texts [] (map small ps)) (parts_split b)
nothing_first false y b = ap (λ ps. same_texts ([] ∷ []) (map small (onto y ps))) (parts_split b)

nothing_last : (ends : Bool) (x : ℕ) (a : Text) → same_texts (map small (if ends then [] ∷ parts a else onto x (parts a))) ([] ∷ []) ≡ false
nothing_last true x a = ap (λ ps. same_texts (map small ps) []) (parts_split a)
nothing_last false x a = ap (λ ps. same_texts (map small (onto x ps)) ([] ∷ [])) (parts_split a)

same_parts : (a b : Text) → same_texts (map small (parts a)) (map small (parts b)) ≡ same_text (map folded a) (map folded b)
same_parts [] [] = refl
same_parts [] (y ∷ b) = nothing_first (is_separator y) y b
same_parts (x ∷ a) [] = nothing_last (is_separator x) x a
same_parts (x ∷ a) (y ∷ b) = one_byte (is_separator x) (is_separator y) x y a b refl refl (same_parts a b)

-- variants are the same if what follows their first separators is
pub same_variants : (is_same : Bool) (a b : Text) (j k : ℕ)
    → is_same ≡ same_text (map folded (take j (drop 1 a))) (map folded (take k (drop 1 b)))
    → 1 ≤ length a → 1 ≤ length b → length a ≤ j + 1 → length b ≤ k + 1
    → is_same ≡ same_texts (map small (more_parts a)) (map small (more_parts b))
same_variants is_same [] b j k e some some' l m = absurd (omega (arith, some))
same_variants is_same (x ∷ a) [] j k e some some' l m = absurd (omega (arith, some'))
same_variants is_same (x ∷ a) (y ∷ b) j k e some some' l m =
    e ∙ ap₂ (λ u v. same_text (map folded u) (map folded v)) (take_all j a (omega (arith, l))) (take_all k b (omega (arith, m)))
    ∙ sym (same_parts a b)
