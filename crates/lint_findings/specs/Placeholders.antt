-- Placeholders of other formats, which nothing fills in: `%s`, `%1$S`, `%(name)s`, `{0}`.
use Rattle.std.specs.Prelude.{ℕ, ◌+◌, ◌==◌, Bool, not, ◌&&◌, ◌||◌, if◌then◌else◌, List, [], ◌∷◌, ◌++◌, drop, take, length, map, Option, Some, None, codes}
use Rattle.std.specs.List.{flat_map, list_any, prefix_len}
use Rattle.std.specs.Str.{bytes_eq}
use Rattle.fluent_grammar.specs.Words.{Text, dollar, open_brace, close_brace, open_paren, close_paren, underscore, is_between, is_digit, is_letter, is_among, begins, begins_with}
use Rattle.lint_findings.specs.Comparison.{union, without}
use Rattle.lint_findings.specs.Doubts.{Spotted, lost_placeholder, new_placeholder, on_text, spotted_at}

-- its text, and the text from it on
pub record Placeholder : Type 0 where
  pub name : Text
  pub at : Text

abbrev pub percent : ℕ
percent = 37

-- ---- a placeholder at the front

abbrev pub is_text_kind : ℕ → Bool
is_text_kind c = c == 115 || c == 83

abbrev pub is_place_kind : ℕ → Bool
is_place_kind c = is_text_kind c || (c == 100 || (c == 105 || c == 117))

abbrev pub is_kind : ℕ → Bool
is_kind c = is_place_kind c || (c == 120 || (c == 102 || (c == 103 || (c == 99 || c == 64))))

-- `s` without a letter after it
abbrev pub is_plain_kind : Text → Bool
is_plain_kind s = begins is_kind s && not (begins is_letter (drop 1 s))

-- `1$s`
abbrev pub is_placed : Text → Bool
is_placed s = begins (is_between 49 57) s && (begins_with dollar (drop 1 s) && begins is_place_kind (drop 2 s))

abbrev pub is_word_byte : ℕ → Bool
is_word_byte c = is_between 97 122 c || c == underscore

-- the length of `(name)s` for a name of this length, 0 if that isn't at the front
abbrev pub named_len : ℕ → Text → ℕ
named_len n s =
    if not (n == 0) && (begins_with close_paren (drop (1 + n) s) && begins (λ c. c == 115 || c == 100) (drop (2 + n) s))
    then 3 + n
    else 0

-- the length of what follows a percent sign, 0 if that is no placeholder
abbrev pub kind_len : Text → ℕ
kind_len s =
    if is_plain_kind s then 1
    else if is_placed s then 3
    else if begins_with open_paren s then named_len (prefix_len is_word_byte (drop 1 s)) s
    else 0

-- the length of `{0}`
abbrev pub braces_len : ℕ → Text → ℕ
braces_len n s = if not (n == 0) && begins_with close_brace (drop (1 + n) s) then 2 + n else 0

abbrev pub placeholder_len : Text → ℕ
placeholder_len s =
    if begins_with percent s then (if kind_len (drop 1 s) == 0 then 0 else 1 + kind_len (drop 1 s))
    else if begins_with open_brace s then braces_len (prefix_len is_digit (drop 1 s)) s
    else 0

-- ---- those of texts

abbrev pub placeholder_at : Text → ℕ → List Placeholder
placeholder_at s n = if n == 0 then [] else record { name = take n s; at = s } ∷ []

abbrev pub placeholders_in : Text → List Placeholder
placeholders_in [] = []
placeholders_in (c ∷ s) = placeholder_at (c ∷ s) (placeholder_len (c ∷ s)) ++ placeholders_in s

abbrev pub placeholders : List Text → List Placeholder
placeholders texts = flat_map placeholders_in texts

abbrev pub names : List Placeholder → List Text
names ps = union [] (map (λ (p : Placeholder). p.name) ps)

-- ---- beside the reference

-- one for a text or with a place is no percent sign in other words
abbrev pub is_certain : Text → Bool
is_certain name = list_any (λ c. c == dollar || is_text_kind c) name

-- of those of a text that aren't known, each once; all count if the reference has a percent sign
abbrev pub new_placeholders : Bool → List Text → List Placeholder → List Spotted
new_placeholders all known [] = []
new_placeholders all known (p ∷ ps) =
    if is_among p.name known || not (all || is_certain p.name) then new_placeholders all known ps
    else spotted_at p.at (new_placeholder p.name) ∷ new_placeholders all (p.name ∷ known) ps

abbrev pub has_percent : Text → Bool
has_percent s = list_any (λ c. c == percent || c == open_brace) s

abbrev pub changed_placeholders : List Text → List Text → List Spotted
changed_placeholders texts others =
    let mine = placeholders texts in
    let known = names (placeholders others) in
    map (λ name. on_text (lost_placeholder name)) (without known (names mine))
    ++ new_placeholders (list_any has_percent others) known mine
