-- What texts begin and end with beside those of the reference: spaces, and the sign that ends a sentence.
use Rattle.std.specs.Prelude.{ℕ, ◌-◌, ◌==◌, Bool, true, false, not, ◌&&◌, ◌||◌, if◌then◌else◌, List, [], ◌∷◌, ◌++◌, drop, length, map, Option, Some, None, is_some, option_and_then, nat_eq, codes}
use Rattle.std.specs.List.{list_all, list_any, ends_with}
use Rattle.std.specs.Str.{trim_end}
use Rattle.fluent_value.specs.Matching.{same_option}
use Rattle.fluent_grammar.specs.Words.{Text, space, is_between, begins, begins_with}
use Rattle.fluent_grammar.specs.Tree.{Elements}
use Rattle.lint_findings.specs.Doubts.{Edge, Sign, Spotted, colon_sign, edge_space, ellipsis, full_stop, lost_first, lost_last, lost_sign, new_first, new_last, on_text}
use Rattle.lint_findings.specs.Numbers.{untagged}
use Rattle.lint_findings.specs.Runs.{ends, object_sign, own_text}
use Rattle.lint_findings.specs.Tags.{is_blank_byte}

-- ---- spaces

-- the last character of a text
abbrev pub last_character : Text → Text
last_character [] = []
last_character (c ∷ s) = if list_all (is_between 0x80 0xBF) s then c ∷ s else last_character s

-- whether these two bytes are at the front
abbrev pub begins_two : ℕ → ℕ → Text → Bool
begins_two a b s = begins_with a s && begins_with b (drop 1 s)

-- a blank, or a character that may be as wide as two
abbrev pub is_open : Text → Bool
is_open s =
    begins is_blank_byte s || (begins_two 0xC2 0xA0 s || (begins_two 0xE2 0x80 s || (begins (is_between 0xE3 0xED) s
    || begins_two 0xEF 0xBC s)))

-- of an edge of a text, beside that of the reference
abbrev pub edge_beside : Edge → Edge → Text → Text → List Spotted
edge_beside lost new s o =
    if begins_with space o then (if is_open s then [] else on_text (edge_space lost) ∷ [])
    else if begins_with space s then on_text (edge_space new) ∷ []
    else []

abbrev pub edge_spaces : Elements → Elements → List Spotted
edge_spaces es os =
    edge_beside lost_first new_first (own_text es) (own_text os)
    ++ edge_beside lost_last new_last (last_character (own_text es)) (last_character (own_text os))

-- ---- the sign that ends a sentence

abbrev pub same_sign : Sign → Sign → Bool
same_sign ellipsis ellipsis = true
same_sign colon_sign colon_sign = true
same_sign full_stop full_stop = true
same_sign _ _ = false

-- whether one of these texts is at the end
abbrev pub ends_with_one : List Text → Text → Bool
ends_with_one signs s = list_any (λ sign. ends_with nat_eq s sign) signs

abbrev pub ellipses : List Text
ellipses = (0xE2 ∷ 0x80 ∷ 0xA6 ∷ []) ∷ codes "..." ∷ (0xE2 ∷ 0x8B ∷ 0xAF ∷ []) ∷ (0xE3 ∷ 0x80 ∷ 0x82 ∷ 0xE3 ∷ 0x80 ∷ 0x82 ∷ 0xE3 ∷ 0x80 ∷ 0x82 ∷ []) ∷ []

-- U+05C3 is the last one
abbrev pub colons : List Text
colons = codes ":" ∷ (0xEF ∷ 0xBC ∷ 0x9A ∷ []) ∷ (0xD7 ∷ 0x83 ∷ []) ∷ []

-- those of Hindi, Armenian, Amharic, Khmer and Burmese
abbrev pub other_full_stops : List Text
other_full_stops =
    (0xE0 ∷ 0xA5 ∷ 0xA4 ∷ []) ∷ (0xD6 ∷ 0x89 ∷ []) ∷ (0xE1 ∷ 0x8D ∷ 0xA2 ∷ []) ∷ (0xE1 ∷ 0x9F ∷ 0x94 ∷ []) ∷ (0xE1 ∷ 0x81 ∷ 0x8B ∷ []) ∷ []

-- U+06D4 is the fourth
abbrev pub full_stops : List Text
full_stops = codes "." ∷ (0xE3 ∷ 0x80 ∷ 0x82 ∷ []) ∷ (0xEF ∷ 0xBC ∷ 0x8E ∷ []) ∷ (0xDB ∷ 0x94 ∷ []) ∷ other_full_stops

-- other signs, of which U+061F is the third, and a placeable
abbrev pub others_last : List Text
others_last = codes "?" ∷ codes "!" ∷ (0xD8 ∷ 0x9F ∷ []) ∷ (0xEF ∷ 0xBC ∷ 0x81 ∷ []) ∷ (0xEF ∷ 0xBC ∷ 0x9F ∷ []) ∷ object_sign ∷ []

abbrev pub sign_of : Text → Option Sign
sign_of s =
    if ends_with_one ellipses s then Some ellipsis
    else if ends_with_one colons s then Some colon_sign
    else if ends_with_one full_stops s then Some full_stop
    else None

-- the text without tags and without white space at its end
abbrev pub bare_end : Text → Text
bare_end s = trim_end (untagged s)

abbrev pub last_sign : Text → Option Sign
last_sign s = sign_of (bare_end s)

abbrev pub has_sign : Sign → Text → Bool
has_sign sign s = same_option same_sign (last_sign s) (Some sign)

-- a text ends with letters, with nothing that may stand for a sign
abbrev pub is_signless : Text → Bool
is_signless s = not (is_some (last_sign s)) && not (ends_with_one others_last (bare_end s))

-- the sign that all these texts end with
abbrev pub common_sign : List Text → Option Sign
common_sign [] = None
common_sign (s ∷ texts) = option_and_then (λ sign. if list_all (has_sign sign) texts then Some sign else None) (last_sign s)

abbrev pub if_lost : List Text → Option Sign → List Spotted
if_lost texts None = []
if_lost texts (Some sign) = if list_all is_signless texts then on_text (lost_sign sign) ∷ [] else []

-- of the texts that a pattern may end with
abbrev pub final_signs : Elements → Elements → List Spotted
final_signs es os = if_lost (ends es) (common_sign (ends os))
