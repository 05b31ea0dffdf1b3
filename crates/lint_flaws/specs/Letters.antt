-- What the code's letters and characters stand for, and what is said of them.
use Rattle.std.specs.Prelude.{◌≡◌, ℕ, ◌+◌, ◌^◌, ◌<◌, ◌≤◌, ◌==◌, Bool, true, false, ◌&&◌, if◌then◌else◌, List, [], ◌∷◌, ◌++◌, drop, length, map, Option, Some, None, option_map, Vec}
use Rattle.std.specs.Global.{Global}
use Rattle.fluent_grammar.specs.Words.{Text, is_between}
use Rattle.lint_findings.specs.View.{remark_view}
use Rattle.lint_findings.specs.declared.remark.Remark.{Remark}
use Rattle.lint_findings.specs.Encodings as e
use Rattle.lint_findings.specs.Finding as f
use Rattle.lint_findings.specs.Scripts as s
use Rattle.lint_flaws.specs.declared.encodings.Single.{Single}
use Rattle.lint_flaws.specs.declared.encodings.Spelled.{Spelled}
use Rattle.lint_flaws.specs.declared.scripts.Letter.{Letter}
use Rattle.lint_flaws.specs.declared.scripts.Script.{Script}
use Rattle.lint_flaws.specs.declared.scripts.Script.TheVariants as script

abbrev pub AddsRemarks : Vec Remark Global → Vec Remark Global → List f.Remark → Type 0
AddsRemarks old new added = map remark_view new.items ≡ map remark_view old.items ++ added

-- ---- letters

abbrev pub script_view : Script → s.Script
script_view script.Latin = s.latin
script_view script.Greek = s.greek
script_view script.Cyrillic = s.cyrillic

abbrev pub letter_view : Letter → s.Letter
letter_view l = record { script = script_view l.script; number = l.number; before = l.before }

-- the first letter and how many bytes it has, before the others, if there is one
abbrev pub IsFirstLetter : ℕ → Text → Option (Letter × ℕ) → Type 0
IsFirstLetter n text None = s.letters_at n text ≡ []
IsFirstLetter n text (Some p) =
    (s.letters_at n text ≡ letter_view p.0 ∷ s.letters_at (n + p.1) (drop p.1 text)) × (0 < p.1) × (p.1 ≤ length text)

-- the place of the first letter of a script is a number of the code
abbrev pub AreWithin : ℕ → List Letter → Type 0
AreWithin n letters = (x : s.Script) (l : s.Letter) → s.first_letter x (map letter_view letters) ≡ Some l → n + l.before < 2 ^ 64

-- ---- what is said of words

-- of the word at the front of a text, if it begins there
abbrev pub word_if_begins : Bool → ℕ → Text → List f.Remark
word_if_begins within n text = if within then [] else s.word_remarks n (s.letters_at 0 text)

abbrev pub mixed_in : ℕ → Script → Script → List Letter → List f.Remark
mixed_in place one other letters = s.mixed place (script_view one) (script_view other) (map letter_view letters)

-- that the first letter of a script stands in a word of another
abbrev pub first_in : ℕ → Script → Script → List Letter → List f.Remark
first_in place rare other letters =
    s.said_of place (script_view other) (s.first_letter (script_view rare) (map letter_view letters))

-- ---- characters in a wrong encoding

abbrev pub single_view : Single → e.Single
single_view x = record { byte = x.byte; len = x.len }

abbrev pub last_byte : Option ℕ → Text
last_byte None = []
last_byte (Some b) = b ∷ []

abbrev pub spelled_view : Spelled → e.Spelled
spelled_view x = record { bytes = x.first ∷ x.second ∷ last_byte x.third; len = x.len }

abbrev pub IsSpelled : Option e.Spelled → Option Spelled → Type 0
IsSpelled wanted found = option_map spelled_view found ≡ wanted

-- the bytes of a letter of U+0080 to U+017F, or of a sign of U+2000 to U+213F
abbrev pub is_character : Text → Bool
is_character (a ∷ b ∷ []) = is_between 0xC2 0xC5 a && e.continues b
is_character (a ∷ b ∷ c ∷ []) = a == 0xE2 && (is_between 0x80 0x84 b && e.continues c)
is_character _ = false

abbrev pub IsCharacter : Spelled → Type 0
IsCharacter x = is_character (spelled_view x).bytes ≡ true

-- what is said of the first characters that spell another one, after so many bytes
abbrev pub said_first : Option (ℕ × Spelled) → List f.Remark
said_first None = []
said_first (Some p) = e.said p.0 (Some (spelled_view p.1))

abbrev pub IsFirstSpelled : Text → Option (ℕ × Spelled) → Type 0
IsFirstSpelled text found = e.spelled_first 0 text ≡ said_first found
