-- Tags in a text: `<`, perhaps `/`, the name of an element, perhaps a blank and more, and `>`. No HTML is read.
use Rattle.std.specs.Prelude.{ℕ, suc, ◌-◌, ◌==◌, Bool, true, false, not, ◌&&◌, ◌||◌, if◌then◌else◌, List, [], ◌∷◌, ◌++◌, drop, take, map, filter, length, Option, Some, None, is_some, option_map, codes}
use Rattle.std.specs.List.{flat_map, list_any, list_all, prefix_len}
use Rattle.std.specs.Option.{option_or, option_to_list}
use Rattle.std.specs.Str.{bytes_eq}
use Rattle.fluent_grammar.specs.Words.{Text, space, line_feed, carriage_return, quote, hyphen, colon, equals, greater, is_letter, is_digit, begins, begins_with}

abbrev pub apostrophe : ℕ
apostrophe = 39

abbrev pub slash : ℕ
slash = 47

abbrev pub less : ℕ
less = 60

-- whether it closes an element, the name of the element, what stands between the name and `>`, and the text from `<` on
pub record Tag : Type 0 where
  pub closes : Bool
  pub element : Text
  pub inside : Text
  pub at : Text

-- ---- a tag at the front

abbrev pub is_blank_byte : ℕ → Bool
is_blank_byte c = c == space || (c == 9 || (c == line_feed || c == carriage_return))

abbrev pub is_element_byte : ℕ → Bool
is_element_byte c = is_letter c || (is_digit c || (c == hyphen || c == colon))

-- the length of the name of an element at the front, 0 if there is none
abbrev pub element_len : Text → ℕ
element_len s = if begins is_letter s then prefix_len is_element_byte s else 0

-- what ends the quote that a byte begins
abbrev pub quoted_by : ℕ → Option ℕ
quoted_by c = if c == quote || c == apostrophe then Some c else None

-- How many bytes stand before the `>` that ends a tag. It isn't within a quote, and no `<` is before it.
abbrev pub inside_len : Option ℕ → Text → Option ℕ
inside_len q [] = None
inside_len None (c ∷ s) =
    if c == less then None
    else if c == greater then Some 0
    else option_map suc (inside_len (quoted_by c) s)
inside_len (Some q) (c ∷ s) =
    if c == less || c == greater then None
    else option_map suc (inside_len (if c == q then None else Some q) s)

-- `>`, `/>` or a blank
abbrev pub goes_on : Text → Bool
goes_on s = begins_with greater s || ((begins_with slash s && begins_with greater (drop 1 s)) || begins is_blank_byte s)

-- the tag of an element whose name is at the front, and has this length
abbrev pub tag_named : Text → Bool → Text → ℕ → Option Tag
tag_named at closes s n =
    if n == 0 || not (goes_on (drop n s)) then None
    else option_map (λ k. record { closes = closes; element = take n s; inside = take k (drop n s); at = at }) (inside_len None (drop n s))

-- after `<`
abbrev pub tag_after : Text → Text → Option Tag
tag_after at s =
    if begins_with slash s then tag_named at true (drop 1 s) (element_len (drop 1 s)) else tag_named at false s (element_len s)

abbrev pub tag_at : Text → Option Tag
tag_at s = if begins_with less s then tag_after s (drop 1 s) else None

-- ---- the tags of texts

abbrev pub tags_in : Text → List Tag
tags_in [] = []
tags_in (c ∷ s) = option_to_list (tag_at (c ∷ s)) ++ tags_in s

abbrev pub tags : List Text → List Tag
tags texts = flat_map tags_in texts

-- `<` or `</` before a letter, of which only the second counts if not all do
abbrev pub begins_tag : Bool → Text → Bool
begins_tag all s =
    begins_with less s
    && (if begins_with slash (drop 1 s) then begins is_letter (drop 2 s) else all && begins is_letter (drop 1 s))

-- the text from the first such sign on that begins no tag
abbrev pub broken_in : Bool → Text → Option Text
broken_in all [] = None
broken_in all (c ∷ s) =
    if begins_tag all (c ∷ s) && not (is_some (tag_at (c ∷ s))) then Some (c ∷ s) else broken_in all s

abbrev pub first_broken : Bool → List Text → Option Text
first_broken all [] = None
first_broken all (s ∷ texts) = option_or (broken_in all s) (first_broken all texts)

-- ---- the attribute that gives an element a name

abbrev pub naming : Text
naming = codes "data-l10n-name"

abbrev pub skip_blanks : Text → Text
skip_blanks s = drop (prefix_len is_blank_byte s) s

-- the text between the quote at the front and the next one
abbrev pub within_quotes : Text → Option Text
within_quotes [] = None
within_quotes (c ∷ s) = if is_some (quoted_by c) then Some (take (prefix_len (λ d. not (d == c)) s) s) else None

abbrev pub value_at : Text → Option Text
value_at s = if begins_with equals s then within_quotes (skip_blanks (drop 1 s)) else None

-- its value, if it is at the front after a blank
abbrev pub name_at : Text → Option Text
name_at [] = None
name_at (c ∷ s) =
    if is_blank_byte c && bytes_eq (take 14 s) naming then value_at (skip_blanks (drop 14 s)) else None

-- the first name in what is inside of a tag
abbrev pub name_in : Text → Option Text
name_in [] = None
name_in (c ∷ s) = option_or (name_at (c ∷ s)) (name_in s)

abbrev pub tag_name : Tag → Option Text
tag_name tag = name_in tag.inside

-- a tag of an element without content, `<br/>`
abbrev pub is_lone : Tag → Bool
is_lone tag = bytes_eq (drop (length tag.inside - 1) tag.inside) (slash ∷ [])
