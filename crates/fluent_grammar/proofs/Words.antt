-- Words: reading gives what is spelled, and what is spelled is read.
use Rattle.std.proofs.Common.{◌≡◌, ◌-◌, true, false, ◌||◌, [], ◌∷◌, ◌++◌, length, drop, Option, Some, refl, sym, ap, ◌∙◌, arith, inl, inr, length-append, append_assoc}
use Rattle.std.specs.List.{prefix_len}
use Rattle.std.proofs.Math.Seq.{take-append_seam}
use Rattle.std.proofs.lemmas.Bool.Decides.{nat_tests}
use Rattle.fluent_grammar.specs.Words.{Text, begins, begins_with, is_letter, is_digit, is_name_byte, name_len, hyphen, dot, quote}
use Rattle.fluent_grammar.specs.Refusal.{got, mapped, ◌>>=◌}
use Rattle.fluent_grammar.specs.Tree as t
use Rattle.fluent_grammar.specs.Lexical.{IsLongestRun, SpellsName, SpellsDigits, SpellsUnsigned, whole, decimal, SpellsNumber, unsigned, negative, SpellsAccessor, no_accessor, an_accessor, SpellsKey, number_key, identifier_key, SpellsLiteral, a_string, a_number, SpellsString}
use Rattle.fluent_grammar.specs.Reading.{identifier_at, digits_at, fraction_at, number_at, front, accessor_at, key_at, literal_at}
use Rattle.fluent_grammar.proofs.Got.{bind_got, mapped_got, got_node, which, begins_is, decide}
use Rattle.fluent_grammar.proofs.Strings.{string_sound, string_complete}
use Rattle.fluent_grammar.proofs.Runs.{run_counted, take_run, drop_run}

-- ---- identifiers

name_len_is : (s : Text) → begins is_letter s ≡ true → name_len s ≡ prefix_len is_name_byte s
name_len_is s h = rw h refl

pub name_sound : (s name rest : Text) → identifier_at s ≡ got name rest → SpellsName name s rest
unfolding identifier_at
name_sound s name rest e =
    elim (which (begins is_letter s) _ _ _ e) [
      | inl p ↦ let g = got_node p.1 in
          let run : IsLongestRun is_name_byte name s rest = rw (← g.0, ← g.1, name_len_is s p.0) (run_counted is_name_byte s) in
          record { letter_first = p.0; run = run }
      | inr p ↦ absurd cc
    ]

pub name_complete : {name s rest : Text} → SpellsName name s rest → identifier_at s ≡ got name rest
unfolding identifier_at
name_complete {name} {s} {rest} d = rw (d.letter_first, take_run d.run, drop_run d.run) refl

-- ---- numbers

pub digits_sound : (s digits rest : Text) → digits_at s ≡ got digits rest → SpellsDigits digits s rest
unfolding digits_at
digits_sound s digits rest e =
    elim (which (begins is_digit s) _ _ _ e) [
      | inl p ↦ let g = got_node p.1 in
          let run : IsLongestRun is_digit digits s rest = rw (← g.0, ← g.1) (run_counted is_digit s) in
          record { digit_first = p.0; run = run }
      | inr p ↦ absurd cc
    ]

pub digits_complete : {digits s rest : Text} → SpellsDigits digits s rest → digits_at s ≡ got digits rest
unfolding digits_at
digits_complete {digits} {s} {rest} d = rw (d.digit_first, take_run d.run, drop_run d.run) refl

front-of : (s x rest : Text) → s ≡ x ++ rest → front s rest ≡ x
front-of s x rest e =
    let n : length s - length rest ≡ length x = rw e (omega (arith, length-append x rest)) in
    rw (n, e) (take-append_seam x rest)

unsigned-split : {x s rest : Text} → SpellsUnsigned x s rest → s ≡ x ++ rest
unsigned-split (whole d no_dot) = d.run.split
unsigned-split (decimal {digits} {fraction} {s} {u} {rest} d f) =
    d.run.split ∙ ap (λ y. digits ++ dot ∷ y) f.run.split ∙ sym (append_assoc digits (dot ∷ fraction) rest)

unsigned_sound : (s u digits w v rest : Text) → digits_at u ≡ got digits w → fraction_at s w ≡ got v rest → (x : Text) × SpellsUnsigned x u rest × (v ≡ front s rest)
unfolding fraction_at
unsigned_sound s u digits w v rest d e =
    elim (which (begins_with dot w) _ _ _ e) [
      | inl p ↦ let f = bind_got _ _ _ _ p.1 in
          let g = got_node f.3 in
          let point : w ≡ dot ∷ drop 1 w = begins_is dot w p.0 in
          let ds : SpellsDigits digits u (dot ∷ drop 1 w) = rw point at (digits_sound u digits w d) in
          let fs : SpellsDigits f.0 (drop 1 w) rest = rw g.1 at (digits_sound _ _ _ f.2) in
          (digits ++ dot ∷ f.0, decimal ds fs, rw g.1 at (sym g.0))
      | inr p ↦ let g = got_node p.1 in (digits, rw (← g.1) (whole (digits_sound u digits w d) p.0), rw g.1 at (sym g.0))
    ]

unsigned_complete : {x u rest : Text} (s : Text) → SpellsUnsigned x u rest → (digits_at u >>= (λ d. fraction_at s d.1)) ≡ got (front s rest) rest
unfolding fraction_at
unsigned_complete s (whole d no_dot) = rw (digits_complete d) (rw no_dot refl)
unsigned_complete s (decimal d f) = rw (digits_complete d) (rw (digits_complete f) refl)

pub digit-no_hyphen : (s : Text) → begins is_digit s ≡ true → begins_with hyphen s ≡ false
digit-no_hyphen [] h = refl
digit-no_hyphen (c ∷ cs) h = grind (arith, nat_tests)

pub unsigned-digit : {x s rest : Text} → SpellsUnsigned x s rest → begins is_digit s ≡ true
unsigned-digit (whole d no_dot) = d.digit_first
unsigned-digit (decimal d f) = d.digit_first

negative-at : {v number s u rest : Text} → s ≡ hyphen ∷ u → v ≡ hyphen ∷ number → SpellsUnsigned number u rest → SpellsNumber v s rest
negative-at e f d = rw (e, f) (negative d)

unsigned-at : {v number s rest : Text} → v ≡ number → SpellsUnsigned number s rest → SpellsNumber v s rest
unsigned-at f d = rw f (unsigned d)

pub number_sound : (s v rest : Text) → number_at s ≡ got v rest → SpellsNumber v s rest
unfolding number_at
number_sound s v rest e =
    elim (decide (begins_with hyphen s)) [
      | inl p ↦ let b = bind_got _ _ _ _ (rw p at e) in
          let x = unsigned_sound s _ _ _ v rest b.2 b.3 in
          let minus : s ≡ hyphen ∷ drop 1 s = begins_is hyphen s p in
          let whole_text : s ≡ (hyphen ∷ x.0) ++ rest = minus ∙ ap (λ y. hyphen ∷ y) (unsigned-split x.1) in
          negative-at minus (x.2 ∙ front-of s (hyphen ∷ x.0) rest whole_text) x.1
      | inr p ↦ let b = bind_got _ _ _ _ (rw p at e) in
          let x = unsigned_sound s _ _ _ v rest b.2 b.3 in
          unsigned-at (x.2 ∙ front-of s x.0 rest (unsigned-split x.1)) x.1
    ]

pub number_complete : {v s rest : Text} → SpellsNumber v s rest → number_at s ≡ got v rest
unfolding number_at
number_complete (unsigned {number} {s} {rest} d) =
    let no_minus : begins_with hyphen s ≡ false = digit-no_hyphen s (unsigned-digit d) in
    rw no_minus (unsigned_complete s d ∙ ap (λ y. got y rest) (front-of s number rest (unsigned-split d)))
number_complete (negative {number} {s} {rest} d) =
    unsigned_complete (hyphen ∷ s) d ∙ ap (λ y. got y rest) (front-of (hyphen ∷ s) (hyphen ∷ number) rest (ap (λ y. hyphen ∷ y) (unsigned-split d)))

-- ---- accessors and keys

accessor-at : {a : Option Text} {name s u rest : Text} → s ≡ dot ∷ u → Some name ≡ a → SpellsName name u rest → SpellsAccessor a s rest
accessor-at e f d = rw (e, ← f) (an_accessor d)

pub accessor_sound : (s : Text) (a : Option Text) (rest : Text) → accessor_at s ≡ got a rest → SpellsAccessor a s rest
unfolding accessor_at
accessor_sound s a rest e =
    elim (which (begins_with dot s) _ _ _ e) [
      | inl p ↦ let m = mapped_got _ _ _ _ p.1 in accessor-at (begins_is dot s p.0) m.2 (name_sound _ _ _ m.1)
      | inr p ↦ let g = got_node p.1 in rw (← g.0, ← g.1) (no_accessor p.0)
    ]

pub accessor_complete : {a : Option Text} {s rest : Text} → SpellsAccessor a s rest → accessor_at s ≡ got a rest
unfolding accessor_at
accessor_complete (no_accessor h) = rw h refl
accessor_complete (an_accessor d) = ap (mapped Some) (name_complete d)

pub key_sound : (s : Text) (key : t.VariantKey) (rest : Text) → key_at s ≡ got key rest → SpellsKey key s rest
unfolding key_at
key_sound s key rest e =
    elim (which (begins is_digit s || begins_with hyphen s) _ _ _ e) [
      | inl p ↦ let m = mapped_got _ _ _ _ p.1 in rw (← m.2) (number_key (number_sound _ _ _ m.1))
      | inr p ↦ let m = mapped_got _ _ _ _ p.1 in rw (← m.2) (identifier_key (name_sound _ _ _ m.1))
    ]

-- a letter begins no number
pub letter-no_number : (s : Text) → begins is_letter s ≡ true → (begins is_digit s || begins_with hyphen s) ≡ false
letter-no_number [] h = refl
letter-no_number (c ∷ cs) h = grind (arith, nat_tests)

pub number-begins : {v s rest : Text} → SpellsNumber v s rest → (begins is_digit s || begins_with hyphen s) ≡ true
number-begins (unsigned d) = rw (unsigned-digit d) refl
number-begins (negative d) = refl

pub key_complete : {key : t.VariantKey} {s rest : Text} → SpellsKey key s rest → key_at s ≡ got key rest
unfolding key_at
key_complete (number_key d) = rw (number-begins d) (ap (mapped t.number_key) (number_complete d))
key_complete (identifier_key {name} {s} d) = rw (letter-no_number s d.letter_first) (ap (mapped t.identifier_key) (name_complete d))

-- ---- literals

string-at : {e : t.Inline} {raw s u rest : Text} → s ≡ quote ∷ u → t.string_literal raw ≡ e → SpellsString raw u rest → SpellsLiteral e s rest
string-at e f d = rw (e, ← f) (a_string d)

pub literal_sound : (s : Text) (e : t.Inline) (rest : Text) → literal_at s ≡ got e rest → SpellsLiteral e s rest
unfolding literal_at
literal_sound s e rest h =
    elim (which (begins_with quote s) _ _ _ h) [
      | inl p ↦ let m = mapped_got _ _ _ _ p.1 in string-at (begins_is quote s p.0) m.2 (string_sound _ _ _ m.1)
      | inr p ↦ elim (which (begins is_digit s || begins_with hyphen s) _ _ _ p.1) [
        | inl q ↦ let m = mapped_got _ _ _ _ q.1 in rw (← m.2) (a_number (number_sound _ _ _ m.1))
        | inr q ↦ absurd cc
      ]
    ]

pub number-no_quote : (s : Text) → (begins is_digit s || begins_with hyphen s) ≡ true → begins_with quote s ≡ false
number-no_quote [] h = refl
number-no_quote (c ∷ cs) h = grind (arith, nat_tests)

pub literal_complete : {e : t.Inline} {s rest : Text} → SpellsLiteral e s rest → literal_at s ≡ got e rest
unfolding literal_at
literal_complete (a_string d) = ap (mapped t.string_literal) (string_complete d)
literal_complete (a_number {number} {s} d) =
    rw (number-no_quote s (number-begins d), number-begins d) (ap (mapped t.number_literal) (number_complete d))
