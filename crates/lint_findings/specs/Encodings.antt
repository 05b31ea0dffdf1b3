-- Characters that come of UTF-8 which was read as Windows-1252: `Ã¼` for `ü`. Only letters of Latin scripts, signs of
-- punctuation, € and ™ are looked for: others may be meant.
use Rattle.std.specs.Prelude.{ℕ, suc, ◌+◌, ◌==◌, nat_le, Bool, not, ◌&&◌, ◌||◌, if◌then◌else◌, List, [], ◌∷◌, ◌++◌, drop, Option, Some, None, codes}
use Rattle.std.specs.Char.{is_ascii}
use Rattle.std.specs.List.{list_all}
use Rattle.fluent_grammar.specs.Words.{Text, is_between, begins_with}
use Rattle.lint_findings.specs.Finding.{Remark, remark, warning}
use Rattle.lint_findings.specs.SyntaxErrors.{in_backticks}

-- the byte that Windows-1252 has for a character, and how many bytes the character has
pub record Single : Type 0 where
  pub byte : ℕ
  pub len : ℕ

abbrev pub single : ℕ → ℕ → Option Single
single byte len = Some (record { byte = byte; len = len })

-- ---- bytes of Windows-1252

-- of a character of these two bytes: U+0080 to U+00FF are their own numbers
abbrev pub of_two : ℕ → ℕ → Option Single
of_two c d =
    if c == 0xC2 then single d 2
    else if c == 0xC3 then single (d + 64) 2
    else if c == 0xC5 && d == 0x92 then single 0x8C 2
    else if c == 0xC5 && d == 0x93 then single 0x9C 2
    else if c == 0xC5 && d == 0xA0 then single 0x8A 2
    else if c == 0xC5 && d == 0xA1 then single 0x9A 2
    else if c == 0xC5 && d == 0xB8 then single 0x9F 2
    else if c == 0xC5 && d == 0xBD then single 0x8E 2
    else if c == 0xC5 && d == 0xBE then single 0x9E 2
    else if c == 0xC6 && d == 0x92 then single 0x83 2
    else if c == 0xCB && d == 0x86 then single 0x88 2
    else if c == 0xCB && d == 0x9C then single 0x98 2
    else None

-- of U+2000 to U+203F, by the last byte
abbrev pub of_sign : ℕ → Option Single
of_sign e =
    if e == 0x93 then single 0x96 3
    else if e == 0x94 then single 0x97 3
    else if e == 0x98 then single 0x91 3
    else if e == 0x99 then single 0x92 3
    else if e == 0x9A then single 0x82 3
    else if e == 0x9C then single 0x93 3
    else if e == 0x9D then single 0x94 3
    else if e == 0x9E then single 0x84 3
    else if e == 0xA0 then single 0x86 3
    else if e == 0xA1 then single 0x87 3
    else if e == 0xA2 then single 0x95 3
    else if e == 0xA6 then single 0x85 3
    else if e == 0xB0 then single 0x89 3
    else if e == 0xB9 then single 0x8B 3
    else if e == 0xBA then single 0x9B 3
    else None

-- of a character of these three bytes
abbrev pub of_three : ℕ → ℕ → ℕ → Option Single
of_three c d e =
    if not (c == 0xE2) then None
    else if d == 0x80 then of_sign e
    else if d == 0x82 && e == 0xAC then single 0x80 3
    else if d == 0x84 && e == 0xA2 then single 0x99 3
    else None

-- of the character at the front, if it has one above U+007F
abbrev pub single_at : Text → Option Single
single_at (c ∷ d ∷ e ∷ s) = if nat_le c 0xDF then of_two c d else of_three c d e
single_at (c ∷ d ∷ []) = of_two c d
single_at _ = None

-- ---- what they spell

-- the bytes that a character is in UTF-8, and how many bytes of the text spell them
pub record Spelled : Type 0 where
  pub bytes : Text
  pub len : ℕ

abbrev pub continues : ℕ → Bool
continues b = is_between 0x80 0xBF b

-- a letter of U+00A0 to U+017F
abbrev pub letter_of : Single → Single → Option Spelled
letter_of x y =
    if continues y.byte && (is_between 0xC3 0xC5 x.byte || (x.byte == 0xC2 && nat_le 0xA0 y.byte))
    then Some (record { bytes = x.byte ∷ y.byte ∷ []; len = x.len + y.len })
    else None

-- U+2000 to U+206F, U+20AC and U+2122
abbrev pub is_sign : ℕ → ℕ → Bool
is_sign y z =
    (y == 0x80 && continues z) || ((y == 0x81 && is_between 0x80 0xAF z)
    || ((y == 0x82 && z == 0xAC) || (y == 0x84 && z == 0xA2)))

abbrev pub sign_of : Single → Single → Option Single → Option Spelled
sign_of x y None = None
sign_of x y (Some z) =
    if is_sign y.byte z.byte
    then Some (record { bytes = x.byte ∷ y.byte ∷ z.byte ∷ []; len = x.len + (y.len + z.len) })
    else None

-- after the first two characters
abbrev pub spelled_by : Text → Single → Single → Option Spelled
spelled_by s x y =
    if x.byte == 0xE2 then sign_of x y (single_at (drop (x.len + y.len) s)) else letter_of x y

abbrev pub spelled_after : Text → Single → Option Single → Option Spelled
spelled_after s x None = None
spelled_after s x (Some y) = spelled_by s x y

abbrev pub spelled_from : Text → Option Single → Option Spelled
spelled_from s None = None
spelled_from s (Some x) = spelled_after s x (single_at (drop x.len s))

-- By the characters at the front. The first one is of U+00C2 to U+00E2, and so has the byte 0xC3.
abbrev pub spelled_at : Text → Option Spelled
spelled_at s = if begins_with 0xC3 s then spelled_from s (single_at s) else None

-- ---- what is said

abbrev pub spelled_remark : Spelled → Remark
spelled_remark x = remark warning (codes "wrong-encoding") (in_backticks x.bytes ++ codes " is in a wrong encoding")

abbrev pub said : ℕ → Option Spelled → List Remark
said n None = []
said n (Some x) = record (spelled_remark x) { inside = n } ∷ []

abbrev pub or_later : List Remark → List Remark → List Remark
or_later [] later = later
or_later (r ∷ rs) later = r ∷ rs

-- the first in an end of a text that so many bytes stand before
abbrev pub spelled_first : ℕ → Text → List Remark
spelled_first n [] = []
spelled_first n (c ∷ s) = or_later (said n (spelled_at (c ∷ s))) (spelled_first (suc n) s)

abbrev pub wrong_encodings : Text → List Remark
wrong_encodings s = if list_all is_ascii s then [] else spelled_first 0 s
