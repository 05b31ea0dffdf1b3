-- Which texts are tags: those of the form that RFC 5646 gives the tag of a language. A codeset or a modifier of POSIX may follow.
use Rattle.std.specs.Prelude.{ℕ, suc, Bool, true, false, ◌&&◌, ◌||◌, ◌==◌, nat_le, List, [], ◌∷◌, if◌then◌else◌}
use Rattle.std.specs.Char.{is_ascii_alphabetic, is_ascii_alphanumeric}

-- `-` (45) and `_` (95)
abbrev pub is_separator : ℕ → Bool
is_separator byte = byte == 45 || byte == 95

-- `.` (46) before a codeset and `@` (64) before a modifier, as in `oc_FR.UTF-8` and `sr@latin`
abbrev pub begins_posix : ℕ → Bool
begins_posix byte = byte == 46 || byte == 64

-- The first part is the language, of two to eight letters; each other one has one to eight letters and digits.
abbrev pub suits_part : Bool → ℕ → Bool
suits_part true byte = is_ascii_alphabetic byte
suits_part false byte = is_ascii_alphanumeric byte

abbrev pub ends_part : Bool → ℕ → Bool
ends_part true count = nat_le 2 count
ends_part false count = nat_le 1 count

-- A text goes on with a tag, of which a part has `count` bytes so far. It says whether that part is the language.
abbrev pub goes_on : Bool → ℕ → List ℕ → Bool
goes_on first count [] = ends_part first count
goes_on first count (byte ∷ text) =
    if is_separator byte then ends_part first count && goes_on false 0 text
    else if begins_posix byte then ends_part first count
    else suits_part first byte && nat_le (suc count) 8 && goes_on first (suc count) text

abbrev pub is_tag : List ℕ → Bool
is_tag = goes_on true 0
