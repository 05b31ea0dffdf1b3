-- Attributes `.style`: which properties they set, and in which units.
use Rattle.std.specs.Prelude.{ℕ, suc, ◌+◌, ◌==◌, Bool, true, false, not, ◌&&◌, ◌||◌, if◌then◌else◌, List, [], ◌∷◌, ◌++◌, drop, take, length, Option, Some, None, option_map, option_and_then, codes}
use Rattle.std.specs.List.{list_all, list_any, prefix_len, slice_split}
use Rattle.std.specs.Str.{bytes_eq}
use Rattle.fluent_value.specs.Matching.{same_option}
use Rattle.fluent_grammar.specs.Words.{Text, colon, dot, hyphen, is_digit, is_letter, is_name_byte, begins, begins_with}
use Rattle.fluent_grammar.specs.Tree.{Elements}
use Rattle.lint_findings.specs.Doubts.{Spotted, changed_style, on_text}
use Rattle.lint_findings.specs.Entities.{semicolon}
use Rattle.lint_findings.specs.Facts.{only_text}
use Rattle.lint_findings.specs.Tags.{skip_blanks}

-- a property, and the unit of its value if that is a number
pub record Property : Type 0 where
  pub name : Text
  pub unit : Option Text

-- ---- values

abbrev pub is_number_byte : ℕ → Bool
is_number_byte c = is_digit c || c == dot

abbrev pub is_unit_byte : ℕ → Bool
is_unit_byte c = is_letter c || c == 37

abbrev pub skip_sign : Text → Text
skip_sign s = if begins (λ c. c == 43 || c == hyphen) s then drop 1 s else s

-- the unit at the front, if nothing but blanks follow it
abbrev pub last_unit : Text → Option Text
last_unit s =
    let n = prefix_len is_unit_byte s in
    if length (skip_blanks (drop n s)) == 0 then Some (take n s) else None

-- the unit of a number: the empty text if it has none
abbrev pub unit_of : Text → Option Text
unit_of s =
    let u = skip_sign s in
    let n = prefix_len is_number_byte u in
    if n == 0 then None else last_unit (drop n u)

-- ---- properties

-- of the name of this length at the front, if a value without colon follows it
abbrev pub property_named : Text → ℕ → Option Property
property_named s n =
    let u = skip_blanks (drop n s) in
    let value = skip_blanks (drop 1 u) in
    if not (n == 0) && (begins_with colon u && (not (length value == 0) && not (list_any (λ c. c == colon) value)))
    then Some (record { name = take n s; unit = unit_of value })
    else None

abbrev pub property_of : Text → Option Property
property_of s = property_named s (prefix_len is_name_byte s)

abbrev pub add_property : Text → List Property → Option (List Property)
add_property s ps = if length s == 0 then Some ps else option_map (λ p. p ∷ ps) (property_of s)

-- those of parts between semicolons, of which some may be blank; None if one can't be read
abbrev pub properties_of : List Text → Option (List Property)
properties_of [] = Some []
properties_of (s ∷ parts) = option_and_then (add_property (skip_blanks s)) (properties_of parts)

abbrev pub style_of : Text → Option (List Property)
style_of s = properties_of (slice_split (λ c. c == semicolon) s)

-- ---- beside the reference

abbrev pub same_property : Property → Property → Bool
same_property p q = bytes_eq p.name q.name && same_option bytes_eq p.unit q.unit

abbrev pub all_among : List Property → List Property → Bool
all_among ps qs = list_all (λ p. list_any (same_property p) qs) ps

-- the same properties, in any order
abbrev pub same_style : List Property → List Property → Bool
same_style ps qs = length ps == length qs && (all_among ps qs && all_among qs ps)

-- of a style, if that of the reference can be read
abbrev pub differs : Option (List Property) → Option (List Property) → Bool
differs mine None = false
differs None (Some qs) = true
differs (Some ps) (Some qs) = not (same_style ps qs)

abbrev pub styles_beside : Option Text → Option Text → List Spotted
styles_beside (Some s) (Some o) = if differs (style_of s) (style_of o) then on_text (changed_style o) ∷ [] else []
styles_beside _ _ = []

-- of patterns that are nothing but text
abbrev pub style_beside : Elements → Elements → List Spotted
style_beside es os = styles_beside (only_text es) (only_text os)
