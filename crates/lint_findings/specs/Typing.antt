-- How texts are typed beside those of the reference: two spaces, three dots, and quotes.
use Rattle.std.specs.Prelude.{ℕ, ◌==◌, ◌%◌, Bool, true, false, not, ◌&&◌, ◌||◌, if◌then◌else◌, List, [], ◌∷◌, ◌++◌, drop, take, length, map, Option, Some, None, is_some, codes}
use Rattle.std.specs.List.{flat_map, list_all, list_any}
use Rattle.std.specs.Option.{option_or, option_to_list}
use Rattle.std.specs.Str.{bytes_eq}
use Rattle.fluent_grammar.specs.Words.{Text, space, quote, dot, colon, is_digit, begins, begins_with, skip_spaces}
use Rattle.lint_findings.specs.Doubts.{Doubt, Spotted, double_space, spotted_at, straight_quote, three_dots, unpaired_quote}
use Rattle.lint_findings.specs.Letters.{begins_three}
use Rattle.lint_findings.specs.Numbers.{plain_parts}
use Rattle.lint_findings.specs.Tags.{is_blank_byte}

-- the first of some texts in which something is found
abbrev pub first_found : (Text → Option Text) → List Text → Option Text
first_found find [] = None
first_found find (s ∷ texts) = option_or (find s) (first_found find texts)

abbrev pub said_at : Doubt → Option Text → List Spotted
said_at d found = map (λ at. spotted_at at d) (option_to_list found)

-- ---- two spaces

-- a byte after which a sentence may begin
abbrev pub ends_sentence : ℕ → Bool
ends_sentence c = c == dot || (c == 33 || (c == 63 || c == colon))

-- two spaces, and then something else
abbrev pub begins_spaces : Text → Bool
begins_spaces s =
    begins_with space s && (begins_with space (drop 1 s) && begins (λ c. not (is_blank_byte c)) (skip_spaces s))

-- from the first two spaces on that a byte stands before which passes
abbrev pub spaces_after : (ℕ → Bool) → Bool → Text → Option Text
spaces_after passes before [] = None
spaces_after passes before (c ∷ s) =
    if before && begins_spaces (c ∷ s) then Some (c ∷ s) else spaces_after passes (passes c) s

abbrev pub is_inside : ℕ → Bool
is_inside c = not (is_blank_byte c)

abbrev pub is_within : ℕ → Bool
is_within c = is_inside c && not (ends_sentence c)

-- what may stand before them, of which not all counts within a sentence
abbrev pub counts : Bool → ℕ → Bool
counts all c = if all then is_inside c else is_within c

abbrev pub two_spaces : Text → Option Text
two_spaces s = spaces_after (counts false) false s

abbrev pub has_spaces : Text → Bool
has_spaces s = is_some (spaces_after (counts true) false s)

abbrev pub spaces_beside : List Text → List Text → List Spotted
spaces_beside texts others = if list_any has_spaces others then [] else said_at double_space (first_found two_spaces texts)

-- ---- three dots

-- from the first of these texts on
abbrev pub from_text : Text → Text → Option Text
from_text part [] = None
from_text part (c ∷ s) = if bytes_eq (take (length part) (c ∷ s)) part then Some (c ∷ s) else from_text part s

abbrev pub has_text : Text → Text → Bool
has_text part s = is_some (from_text part s)

abbrev pub dots_beside : List Text → List Text → List Spotted
dots_beside texts others =
    if list_any (has_text (0xE2 ∷ 0x80 ∷ 0xA6 ∷ [])) others && not (list_any (has_text (codes "...")) others)
    then said_at three_dots (first_found (from_text (codes "...")) texts)
    else []

-- ---- straight quotes

-- from the first `"` outside of tags on, up to the next tag
abbrev pub quote_in : Text → Option Text
quote_in s = first_found (from_text (quote ∷ [])) (plain_parts s)

abbrev pub has_quote : Text → Bool
has_quote s = is_some (quote_in s)

abbrev pub has_curly : Text → Bool
has_curly s = has_text (0xE2 ∷ 0x80 ∷ 0x9C ∷ []) s || has_text (0xE2 ∷ 0x80 ∷ 0x9D ∷ []) s

abbrev pub straight_quotes : List Text → List Text → List Spotted
straight_quotes texts others =
    if list_any has_curly others && not (list_any has_quote others) then said_at straight_quote (first_found quote_in texts) else []

-- ---- quotes without a partner

-- “, ” or „
abbrev pub curly_at : Text → Bool
curly_at s = begins_three 0xE2 0x80 0x9C s || (begins_three 0xE2 0x80 0x9D s || begins_three 0xE2 0x80 0x9E s)

abbrev pub is_even : ℕ → Bool
is_even n = n % 2 == 0

-- the ends of a text that begin with one
abbrev pub curly_from : Text → List Text
curly_from [] = []
curly_from (c ∷ s) = (if curly_at (c ∷ s) then (c ∷ s) ∷ [] else []) ++ curly_from s

-- outside of tags
abbrev pub curly_ends : Text → List Text
curly_ends s = flat_map curly_from (plain_parts s)

-- inches, `12”`
abbrev pub has_inches : Text → Bool
has_inches [] = false
has_inches (c ∷ s) = (is_digit c && begins_three 0xE2 0x80 0x9D s) || has_inches s

abbrev pub first_of : List Text → Option Text
first_of [] = None
first_of (s ∷ ends) = Some s

-- the first of an odd number of quotes
abbrev pub odd_quote : Text → Option Text
odd_quote s = if is_even (length (curly_ends s)) || has_inches s then None else first_of (curly_ends s)

abbrev pub is_paired : Text → Bool
is_paired s = is_even (length (curly_ends s))

abbrev pub unpaired_at : Text → Spotted
unpaired_at s = spotted_at s (unpaired_quote (take 3 s))

abbrev pub unpaired_quotes : List Text → List Text → List Spotted
unpaired_quotes texts others =
    if list_all is_paired others then map unpaired_at (option_to_list (first_found odd_quote texts)) else []
