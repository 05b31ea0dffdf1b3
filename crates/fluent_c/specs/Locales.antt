-- The locales of a program that has set none.
use Rattle.std.specs.Prelude.{◌||◌, ◌&&◌, ◌==◌, Bool, true, false, [], ◌∷◌, if◌then◌else◌, length, nat_le, codes}
use Rattle.std.specs.Char.{to_ascii_lowercase}
use Rattle.fluent_grammar.specs.Words.{Text}
use Rattle.fluent_languages.specs.Tags.{same_text}
use Rattle.fluent_plurals.specs.Plurals.{has_own_rules}
use Rattle.fluent_plurals.specs.Tags.{is_tag}

-- a codeset in small letters, without its `-`
abbrev pub folded : Text → Text
folded [] = []
folded (byte ∷ codeset) = if byte == 45 then folded codeset else to_ascii_lowercase byte ∷ folded codeset

-- the name of a locale in letters of any case, alone or with a `.` and the codeset UTF-8
abbrev pub is_named : Text → Text → Bool
is_named [] [] = true
is_named [] (byte ∷ codeset) = byte == 46 && same_text (folded codeset) (codes "utf8")
is_named (_ ∷ _) [] = false
is_named (letter ∷ name) (byte ∷ locale) = to_ascii_lowercase byte == letter && is_named name locale

-- `C` or `POSIX`, also with UTF-8. The name of a locale has at most 255 bytes.
abbrev pub is_posix : Text → Bool
is_posix locale =
    nat_le (length locale) 255 && (is_named (codes "c") locale || is_named (codes "posix") locale)

-- the language of a locale has plural rules of its own
abbrev pub has_rules : Text → Bool
has_rules locale = is_posix locale || (is_tag locale && has_own_rules locale)
