-- The tag that the name of a locale by POSIX stands for, such as `de_AT.UTF-8@euro`.
use Rattle.std.specs.Prelude.{◌||◌, ◌==◌, nat_le, [], ◌∷◌, Option, None, if◌then◌else◌, length, option_map, codes}
use Rattle.fluent_languages.specs.Tags.{Tag, Text, read_tag, same_text, small}

-- up to a `.` or an `@`
abbrev pub base_of : Text → Text
base_of [] = []
base_of (byte ∷ name) = if byte == 46 || byte == 64 then [] else byte ∷ base_of name

-- what follows the first `@`
abbrev pub modifier_of : Text → Text
modifier_of [] = []
modifier_of (byte ∷ name) = if byte == 64 then name else modifier_of name

abbrev pub with_script : Text → Tag → Tag
with_script script tag = record { language = tag.language; script = script; region = tag.region; variants = tag.variants }

abbrev pub with_variant : Text → Tag → Tag
with_variant variant tag = record { language = tag.language; script = tag.script; region = tag.region; variants = variant ∷ [] }

-- Three modifiers name a script, and one a variant; others, such as `euro`, say nothing of the language.
abbrev pub modified : Text → Tag → Tag
modified modifier tag =
    if same_text modifier (codes "latin") then with_script (codes "latn") tag
    else (if same_text modifier (codes "cyrillic") then with_script (codes "cyrl") tag
    else (if same_text modifier (codes "devanagari") then with_script (codes "deva") tag
    else (if same_text modifier (codes "valencia") then with_variant (codes "valencia") tag
    else tag)))

-- `POSIX` is no language, though it has the form of one; `C` hasn't.
abbrev pub posix_tag : Text → Option Tag
posix_tag name =
    if nat_le (length name) 255 then (if same_text (small (base_of name)) (codes "posix") then None
    else option_map (modified (small (modifier_of name))) (read_tag (base_of name))) else None
