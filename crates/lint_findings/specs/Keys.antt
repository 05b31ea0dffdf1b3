-- Texts of one character beside those of the reference: access keys and keys.
use Rattle.std.specs.Prelude.{ℕ, ◌+◌, ◌==◌, nat_lt, Bool, true, false, not, ◌&&◌, ◌||◌, if◌then◌else◌, List, [], ◌∷◌, ◌++◌, filter, length, Option, Some, None, codes}
use Rattle.std.specs.List.{list_all, list_any}
use Rattle.std.specs.Option.{option_map_or, option_or}
use Rattle.std.specs.Str.{bytes_eq}
use Rattle.fluent_grammar.specs.Words.{Text, is_between, is_capital, is_letter}
use Rattle.fluent_grammar.specs.Tree as t
use Rattle.fluent_grammar.specs.Tree.{Elements}
use Rattle.lint_findings.specs.Doubts.{Doubt, Spotted, lost_key, on_text}
use Rattle.lint_findings.specs.Facts.{attribute_text, only_text}

-- how many characters a text has
abbrev pub characters : Text → ℕ
characters s = length (filter (λ c. not (is_between 0x80 0xBF c)) s)

-- ---- more than one character

-- of a text beside one that has one
abbrev pub long_beside : (Text → Doubt) → Text → Text → List Spotted
long_beside doubt s o =
    if characters o == 1 && nat_lt 1 (characters s) then on_text (doubt s) ∷ [] else []

abbrev pub long_texts : (Text → Doubt) → Option Text → Option Text → List Spotted
long_texts doubt (Some s) (Some o) = long_beside doubt s o
long_texts doubt _ _ = []

-- of patterns that are nothing but text
abbrev pub long_for : (Text → Doubt) → Elements → Elements → List Spotted
long_for doubt es os = long_texts doubt (only_text es) (only_text os)

-- ---- access keys that their labels don't have

abbrev pub small : ℕ → ℕ
small c = if is_capital c then c + 32 else c

-- the ASCII letter that a text is
abbrev pub as_letter : Text → Option ℕ
as_letter (c ∷ []) = if is_letter c then Some c else None
as_letter _ = None

-- no byte begins a character beyond U+024F that isn't a sign of U+2000 to U+2FFF, and there is an ASCII letter
abbrev pub is_latin : Text → Bool
is_latin s = list_all (λ c. nat_lt c 0xCA || c == 0xE2) s && list_any is_letter s

abbrev pub has_letter : ℕ → Text → Bool
has_letter k s = list_any (λ c. small c == small k) s

abbrev pub has_attribute : Text → List t.Attribute → Bool
has_attribute name as' = list_any (λ (a : t.Attribute). bytes_eq name a.id) as'

abbrev pub value_text : Option Elements → Option Text
value_text None = None
value_text (Some es) = only_text es

-- the label of a message: the attribute, or the value
abbrev pub label_of : t.Message → Option Text
label_of m = if has_attribute (codes "label") m.attributes then attribute_text (codes "label") m.attributes else value_text m.value

abbrev pub access_key : t.Message → Option Text
access_key m = attribute_text (codes "accesskey") m.attributes

-- the access key, if it is a letter that a Latin label doesn't have
abbrev pub lost_letter : Option Text → Option ℕ → Option ℕ
lost_letter (Some s) (Some k) = if is_latin s && not (has_letter k s) then Some k else None
lost_letter _ _ = None

abbrev pub lost_letter_of : t.Message → Option ℕ
lost_letter_of m = lost_letter (label_of m) (option_map_or as_letter (access_key m) None)

-- the label has the access key
abbrev pub keeps_letter : Option Text → Option ℕ → Bool
keeps_letter (Some s) (Some k) = has_letter k s
keeps_letter _ _ = false

abbrev pub keeps_key : t.Message → Bool
keeps_key m = keeps_letter (label_of m) (option_map_or as_letter (access_key m) None)

abbrev pub lost_spotted : Option ℕ → List Spotted
lost_spotted None = []
lost_spotted (Some k) = on_text (lost_key k) ∷ []

-- of the access key of a message m, if that of o in the reference is in its label
abbrev pub outside_label : t.Message → t.Message → List Spotted
outside_label m o = if keeps_key o then lost_spotted (lost_letter_of m) else []
