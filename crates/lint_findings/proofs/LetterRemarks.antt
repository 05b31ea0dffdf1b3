-- What is said of characters, which no law is about.
use Rattle.std.proofs.Common.{ℕ, ◌+◌, suc, Bool, true, false, if◌then◌else◌, List, [], ◌∷◌, ◌++◌, Option, Some, None, option_map, refl}
use Rattle.std.specs.Char.{is_ascii}
use Rattle.std.specs.List.{All, list_all}
use Rattle.std.specs.Option.{option_or}
use Rattle.std.proofs.lemmas.List.Elements.{All-nil, All-cons, All-append}
use Rattle.fluent_grammar.specs.Words.{Text}
use Rattle.lint_findings.specs.Finding.{Remark}
use Rattle.lint_findings.specs.Letters.{letters, letters_from, letter_at, placed, begins_after, depth_after, control_of, is_lost, unseen_name, direction_words, control_remark, lost_remark, unseen_remark, direction_remark}
use Rattle.lint_findings.specs.Encodings.{Spelled, or_later, said, spelled_at, spelled_first, spelled_remark, wrong_encodings}
use Rattle.lint_findings.specs.Scripts.{Letter, Script, cyrillic, first_letter, goes_on, greek, if_mixed, latin, letter_remark, letters_at, mixed, mixed_words, other_of, rarer, said_of, word_remarks, words_from}
use Rattle.lint_findings.proofs.NodeRemarks.{IsPlain}

abbrev IsPlainIf : Option Remark → Type 0
IsPlainIf None = Unit {0}
IsPlainIf (Some r) = IsPlain r

or_plain : (a b : Option Remark) → IsPlainIf a → IsPlainIf b → IsPlainIf (option_or a b)
or_plain None b h k = k
or_plain (Some r) b h k = h

said_plain : {A : Type 0} (say : A → Remark) → ((x : A) → IsPlain (say x)) → (o : Option A) → IsPlainIf (option_map say o)
said_plain say h None = tt
said_plain say h (Some x) = h x

if_plain : (b : Bool) (r : Remark) (o : Option Remark) → IsPlain r → IsPlainIf o → IsPlainIf (if b then Some r else o)
if_plain true r o h k = h
if_plain false r o h k = k

letter_plain : (begins : Bool) (d : ℕ) (s : Text) → IsPlainIf (letter_at begins d s)
letter_plain begins d s =
    or_plain (option_map control_remark (control_of s)) _
    (said_plain control_remark (λ c. record { no_syntax = refl; no_reference = refl; no_variant = refl }) (control_of s))
    (if_plain (is_lost s) lost_remark _ (record { no_syntax = refl; no_reference = refl; no_variant = refl })
    (or_plain (option_map unseen_remark (unseen_name begins s)) _
    (said_plain unseen_remark (λ name. record { no_syntax = refl; no_reference = refl; no_variant = refl }) (unseen_name begins s))
    (said_plain direction_remark (λ words. record { no_syntax = refl; no_reference = refl; no_variant = refl }) (direction_words begins d s))))

placed_plain : (n : ℕ) (o : Option Remark) → IsPlainIf o → All IsPlain (placed n o)
placed_plain n None h = All-nil IsPlain
placed_plain n (Some r) h =
    All-cons IsPlain (record r { inside = n }) [] (record { no_syntax = h.no_syntax; no_reference = h.no_reference; no_variant = h.no_variant }) (All-nil IsPlain)

plain_from : (n : ℕ) (begins : Bool) (d : ℕ) (s : Text) → All IsPlain (letters_from n begins d s)
plain_from n begins d [] = All-nil IsPlain
plain_from n begins d (c ∷ s) =
    All-append IsPlain (placed n (letter_at begins d (c ∷ s))) _ (placed_plain n (letter_at begins d (c ∷ s)) (letter_plain begins d (c ∷ s)))
    (plain_from (suc n) (begins_after begins c) (depth_after d (c ∷ s)) s)

-- ---- words of two scripts

script_plain : (n : ℕ) (other : Script) (l : Option Letter) → All IsPlain (said_of n other l)
script_plain n other None = All-nil IsPlain
script_plain n other (Some l) =
    All-cons IsPlain (record (letter_remark l other) { inside = n + l.before }) [] (record { no_syntax = refl; no_reference = refl; no_variant = refl }) (All-nil IsPlain)

mixed_plain : (n : ℕ) (x y : Script) (ls : List Letter) (rare : Option Script) → All IsPlain (if_mixed n x y ls rare)
mixed_plain n x y ls None = All-nil IsPlain
mixed_plain n x y ls (Some rare) = script_plain n (other_of x y rare) (first_letter rare ls)

word_plain : (n : ℕ) (ls : List Letter) → All IsPlain (word_remarks n ls)
word_plain n ls =
    All-append IsPlain (mixed n cyrillic latin ls) _ (mixed_plain n cyrillic latin ls (rarer cyrillic latin ls))
    (All-append IsPlain (mixed n greek latin ls) _ (mixed_plain n greek latin ls (rarer greek latin ls)) (mixed_plain n cyrillic greek ls (rarer cyrillic greek ls)))

unless_plain : (b : Bool) (rs : List Remark) → All IsPlain rs → All IsPlain (if b then [] else rs)
unless_plain true rs h = All-nil IsPlain
unless_plain false rs h = h

words_plain : (n : ℕ) (within : Bool) (s : Text) → All IsPlain (words_from n within s)
words_plain n within [] = All-nil IsPlain
words_plain n within (c ∷ s) =
    All-append IsPlain (if within then [] else word_remarks n (letters_at 0 (c ∷ s))) _ (unless_plain within _ (word_plain n (letters_at 0 (c ∷ s))))
    (words_plain (suc n) (goes_on within (c ∷ s)) s)

-- ---- wrong encodings

spelled_plain : (n : ℕ) (x : Option Spelled) → All IsPlain (said n x)
spelled_plain n None = All-nil IsPlain
spelled_plain n (Some x) =
    All-cons IsPlain (record (spelled_remark x) { inside = n }) [] (record { no_syntax = refl; no_reference = refl; no_variant = refl }) (All-nil IsPlain)

later_plain : (rs later : List Remark) → All IsPlain rs → All IsPlain later → All IsPlain (or_later rs later)
later_plain [] later h k = k
later_plain (r ∷ rs) later h k = h

encodings_plain : (n : ℕ) (s : Text) → All IsPlain (spelled_first n s)
encodings_plain n [] = All-nil IsPlain
encodings_plain n (c ∷ s) = later_plain (said n (spelled_at (c ∷ s))) _ (spelled_plain n (spelled_at (c ∷ s))) (encodings_plain (suc n) s)

-- ---- all

pub all_are_plain : (s : Text) → All IsPlain (letters s ++ (mixed_words s ++ wrong_encodings s))
all_are_plain s =
    All-append IsPlain (letters s) _ (plain_from 0 true 0 s)
    (All-append IsPlain (mixed_words s) _ (unless_plain (list_all is_ascii s) _ (words_plain 0 false s))
    (unless_plain (list_all is_ascii s) _ (encodings_plain 0 s)))
