-- What values of TOML tell a project.
use Rattle.std.specs.Prelude.{ℕ, Bool, true, false, not, ◌&&◌, ◌||◌, ◌==◌, if◌then◌else◌, List, [], ◌∷◌, Option, Some, None, option_map, option_and_then}
use Rattle.std.specs.Char.{is_ascii_alphanumeric}
use Rattle.std.specs.List.{list_all}
use Rattle.toml.specs.Data.{Data, Items, no_items, item, as_array, as_str}
use Rattle.fluent_project.specs.Patterns.{Text}
use Rattle.fluent_project.specs.Taking.{is_none}
use Rattle.fluent_project.specs.Written.{same_text}

-- a text that isn't empty
abbrev pub if_any : Text → Option Text
if_any text = if is_none text then None else Some text

abbrev pub text_of : Data → Option Text
text_of value = option_and_then if_any (as_str value)

abbrev pub with_first : {A : Type 0} → Option A → Option (List A) → Option (List A)
with_first None others = None
with_first (Some first) others = option_map (λ others. first ∷ others) others

-- a list of texts
abbrev pub all_texts : Items → Option (List Text)
all_texts no_items = Some []
all_texts (item value values) = with_first (text_of value) (all_texts values)

abbrev pub list_of : Data → Option (List Text)
list_of value = option_and_then all_texts (as_array value)

-- one text, or a list of one at least
abbrev pub if_filled : List Text → Option (List Text)
if_filled [] = None
if_filled (text ∷ texts) = Some (text ∷ texts)

abbrev pub one_or_more : Option Text → Data → Option (List Text)
one_or_more (Some text) value = option_map (λ text. text ∷ []) (if_any text)
one_or_more None value = option_and_then if_filled (list_of value)

abbrev pub texts_of : Data → Option (List Text)
texts_of value = one_or_more (as_str value) value

-- The tag of a language: letters and digits, with one of these signs between its parts.
abbrev pub is_sign : ℕ → Bool
is_sign byte = byte == 45 || (byte == 46 || (byte == 64 || byte == 95))

-- whether the rest of a tag may follow, where a part begins or goes on
abbrev pub tag_on : Bool → Text → Bool
tag_on begins [] = not begins
tag_on begins (byte ∷ text) = if is_ascii_alphanumeric byte then tag_on false text else not begins && (is_sign byte && tag_on true text)

abbrev pub is_tag : Text → Bool
is_tag text = tag_on true text

abbrev pub is_among : Text → List Text → Bool
is_among text [] = false
is_among text (other ∷ others) = same_text text other || is_among text others

abbrev pub are_different : List Text → Bool
are_different [] = true
are_different (text ∷ texts) = not (is_among text texts) && are_different texts

-- different tags of languages
abbrev pub if_languages : List Text → Option (List Text)
if_languages tags = if list_all is_tag tags && are_different tags then Some tags else None

abbrev pub languages_of : Data → Option (List Text)
languages_of value = option_and_then if_languages (list_of value)
