-- Words with letters of two scripts, of Latin, Greek and Cyrillic.
use Rattle.std.specs.Prelude.{ℕ, suc, ◌+◌, ◌*◌, ◌/◌, ◌%◌, ◌==◌, nat_le, Bool, true, false, not, ◌&&◌, ◌||◌, if◌then◌else◌, List, [], ◌∷◌, ◌++◌, filter, length, Option, Some, None, is_some, codes}
use Rattle.std.specs.Char.{is_ascii}
use Rattle.std.specs.Fmt.{digit_glyph}
use Rattle.std.specs.List.{list_all}
use Rattle.fluent_grammar.specs.Words.{Text, is_between, is_letter}
use Rattle.lint_findings.specs.Finding.{Remark, remark, warning}

pub data Script : Type 0 where
  latin : Script
  greek : Script
  cyrillic : Script

abbrev pub is_same : Script → Script → Bool
is_same latin latin = true
is_same greek greek = true
is_same cyrillic cyrillic = true
is_same _ _ = false

-- ---- letters

-- U+00C0 to U+024F, without the signs of times and divided
abbrev pub is_later_latin : ℕ → ℕ → Bool
is_later_latin c d =
    (c == 0xC3 && not (d == 0x97 || d == 0xB7)) || (is_between 0xC4 0xC8 c || (c == 0xC9 && nat_le d 0x8F))

-- U+0370 to U+03FF, without marks
abbrev pub is_greek : ℕ → ℕ → Bool
is_greek c d =
    (c == 0xCD && (nat_le 0xB0 d && not (d == 0xBE))) || ((c == 0xCE && not (is_between 0x84 0x87 d)) || c == 0xCF)

-- U+0400 to U+052F, without marks
abbrev pub is_cyrillic : ℕ → ℕ → Bool
is_cyrillic c d =
    (c == 0xD2 && not (is_between 0x82 0x89 d)) || ((c == 0xD0 || (c == 0xD1 || c == 0xD3)) || (c == 0xD4 && nat_le d 0xAF))

-- the script of the letter of these two bytes, if it is one
abbrev pub pair_script : ℕ → ℕ → Option Script
pair_script c d =
    if is_later_latin c d then Some latin
    else if is_greek c d then Some greek
    else if is_cyrillic c d then Some cyrillic
    else None

-- after this byte
abbrev pub script_after : ℕ → Text → Option Script
script_after c [] = None
script_after c (d ∷ s) = pair_script c d

-- of the letter at the front
abbrev pub script_at : Text → Option Script
script_at [] = None
script_at (c ∷ s) = if is_letter c then Some latin else script_after c s

-- ---- words

-- the number of the letter of these two bytes
abbrev pub pair_number : ℕ → ℕ → ℕ
pair_number c d = (c % 32) * 64 + d % 64

-- a letter with its number, and how many bytes of the word stand before it
pub record Letter : Type 0 where
  pub script : Script
  pub number : ℕ
  pub before : ℕ

-- a letter before the others, if two bytes are one
abbrev pub with_pair : ℕ → ℕ → ℕ → List Letter → Option Script → List Letter
with_pair n c d ls None = []
with_pair n c d ls (Some x) = record { script = x; number = pair_number c d; before = n } ∷ ls

abbrev pub ascii_letter : ℕ → ℕ → Letter
ascii_letter n c = record { script = latin; number = c; before = n }

-- the letters of the word at the front, which so many bytes of it stand before
abbrev pub letters_at : ℕ → Text → List Letter
letters_at n [] = []
letters_at n (c ∷ []) = if is_letter c then ascii_letter n c ∷ [] else []
letters_at n (c ∷ d ∷ s) =
    if is_letter c then ascii_letter n c ∷ letters_at (suc n) (d ∷ s)
    else with_pair n c d (letters_at (suc (suc n)) s) (pair_script c d)

abbrev pub count : Script → List Letter → ℕ
count x ls = length (filter (λ (l : Letter). is_same x l.script) ls)

-- the rarer of two scripts that a word has, of which the first counts if they are even
abbrev pub rarer : Script → Script → List Letter → Option Script
rarer x y ls =
    if count x ls == 0 || count y ls == 0 then None
    else if nat_le (count x ls) (count y ls) then Some x
    else Some y

abbrev pub first_letter : Script → List Letter → Option Letter
first_letter x [] = None
first_letter x (l ∷ ls) = if is_same x l.script then Some l else first_letter x ls

-- ---- what is said

abbrev pub script_words : Script → Text
script_words latin = codes "Latin"
script_words greek = codes "Greek"
script_words cyrillic = codes "Cyrillic"

-- with four digits
abbrev pub number_text : ℕ → Text
number_text n =
    codes "U+" ++ (digit_glyph true (n / 4096 % 16) ∷ digit_glyph true (n / 256 % 16) ∷ digit_glyph true (n / 16 % 16) ∷ digit_glyph true (n % 16) ∷ [])

-- a letter of one script in a word of another
abbrev pub letter_remark : Letter → Script → Remark
letter_remark l other =
    remark warning (codes "mixed-scripts")
    (number_text l.number ++ (codes " is a " ++ (script_words l.script ++ (codes " letter in a " ++ (script_words other ++ codes " word")))))

abbrev pub other_of : Script → Script → Script → Script
other_of x y rare = if is_same x rare then y else x

-- of the first letter of a script in a word, which this many bytes stand before
abbrev pub said_of : ℕ → Script → Option Letter → List Remark
said_of n other None = []
said_of n other (Some l) = record (letter_remark l other) { inside = n + l.before } ∷ []

abbrev pub if_mixed : ℕ → Script → Script → List Letter → Option Script → List Remark
if_mixed n x y ls None = []
if_mixed n x y ls (Some rare) = said_of n (other_of x y rare) (first_letter rare ls)

-- of two scripts of a word
abbrev pub mixed : ℕ → Script → Script → List Letter → List Remark
mixed n x y ls = if_mixed n x y ls (rarer x y ls)

abbrev pub word_remarks : ℕ → List Letter → List Remark
word_remarks n ls = mixed n cyrillic latin ls ++ (mixed n greek latin ls ++ mixed n cyrillic greek ls)

-- ---- all words of a text

-- After a byte, whether a word goes on.
abbrev pub goes_on : Bool → Text → Bool
goes_on within [] = false
goes_on within (c ∷ s) = if is_between 0x80 0xBF c then within else is_some (script_at (c ∷ s))

abbrev pub words_from : ℕ → Bool → Text → List Remark
words_from n within [] = []
words_from n within (c ∷ s) =
    (if within then [] else word_remarks n (letters_at 0 (c ∷ s))) ++ words_from (suc n) (goes_on within (c ∷ s)) s

abbrev pub mixed_words : Text → List Remark
mixed_words s = if list_all is_ascii s then [] else words_from 0 false s
