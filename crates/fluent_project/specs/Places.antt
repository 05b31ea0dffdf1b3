-- Where a key is in the file of a project.
use Rattle.std.specs.Prelude.{ℕ, Bool, true, false, not, ◌&&◌, ◌||◌, ◌+◌, ◌==◌, if◌then◌else◌, List, [], ◌∷◌, Option, Some, None, position, take, drop, option_and_then, unwrap_or, is_none}
use Rattle.std.specs.Char.{is_ascii_alphanumeric}
use Rattle.std.specs.List.{list_all, slice_split}
use Rattle.fluent_project.specs.Patterns.{Text}
use Rattle.fluent_project.specs.Taking.{after}
use Rattle.fluent_project.specs.Written.{same_text, trimmed}

-- A key before all tables, which may also be the name of a table; or a key of the table of this name that has so many of it before it.
pub data Place : Type 0 where
  top : Text → Place
  inside : Text → ℕ → Text → Place

-- the bytes of names that need no quotes, and dots between them
abbrev pub is_name_byte : ℕ → Bool
is_name_byte byte = is_ascii_alphanumeric byte || (byte == 45 || (byte == 46 || byte == 95))

abbrev pub is_name : Text → Bool
is_name [] = false
is_name (byte ∷ name) = is_name_byte byte && list_all is_name_byte name

abbrev pub if_name : Text → Option Text
if_name name = if is_name name then Some name else None

-- what is before the first closing bracket
abbrev pub closed_name : Text → Option Text
closed_name text = option_and_then (λ len. if_name (trimmed (take len text))) (position (λ byte. byte == 93) text)

-- what follows another opening bracket, if one is there
abbrev pub behind_bracket : Text → Text
behind_bracket text = unwrap_or (after (91 ∷ []) text) text

-- The name of the table that a line begins, in one pair of brackets or in two.
abbrev pub header_name : Text → Option Text
header_name line = option_and_then (λ text. closed_name (behind_bracket text)) (after (91 ∷ []) (trimmed line))

abbrev pub is_named : Text → Option Text → Bool
is_named name None = false
is_named name (Some other) = same_text name other

abbrev pub is_header : Text → Text → Bool
is_header name line = is_named name (header_name line)

-- one quotation mark less, if it begins with one
abbrev pub unquoted : Text → Text
unquoted [] = []
unquoted (byte ∷ text) = if byte == 34 || byte == 39 then text else byte ∷ text

abbrev pub starts : ℕ → Text → Bool
starts byte [] = false
starts byte (first ∷ text) = first == byte

abbrev pub is_assigned : Option Text → Bool
is_assigned None = false
is_assigned (Some text) = starts 61 (trimmed (unquoted text))

-- A line gives a key its value: the key, with quotation marks or without, and `=`.
abbrev pub is_key : Text → Text → Bool
is_key key line = is_assigned (after key (unquoted (trimmed line)))

-- The line of a key before all tables, or of the first table that it names, of lines of which so many come before these. Otherwise the first line.
abbrev pub top_line : Text → Bool → ℕ → List Text → ℕ
top_line key at_top n [] = 1
top_line key at_top n (line ∷ lines) =
    if (at_top && is_key key line) || is_header key line then n + 1
    else top_line key (at_top && is_none (header_name line)) (n + 1) lines

-- which line begins a table of a name, if so many of them are to come before it, and so many have
abbrev pub header_at : Text → ℕ → ℕ → ℕ → List Text → Option ℕ
header_at name index seen n [] = None
header_at name index seen n (line ∷ lines) =
    if not (is_header name line) then header_at name index seen (n + 1) lines
    else if seen == index then Some n
    else header_at name index (seen + 1) (n + 1) lines

-- which line of a table gives a key its value
abbrev pub key_at : Text → ℕ → List Text → Option ℕ
key_at key n [] = None
key_at key n (line ∷ lines) =
    if is_key key line then Some n
    else if is_none (header_name line) then key_at key (n + 1) lines
    else None

-- the line of a key of a table, or that of the table
abbrev pub inside_line : Text → List Text → Option ℕ → ℕ
inside_line key lines None = 1
inside_line key lines (Some header) = unwrap_or (key_at key (header + 1) (drop (header + 1) lines)) header + 1

abbrev pub place_line : List Text → Place → ℕ
place_line lines (top key) = top_line key true 0 lines
place_line lines (inside name index key) = inside_line key lines (header_at name index 0 0 lines)

abbrev pub lines_of : Text → List Text
lines_of text = slice_split (λ byte. byte == 10) text

-- The line of a place. If the key isn't there, it is that of its table, and if that isn't there either, the first one.
abbrev pub line_of : Text → Place → ℕ
line_of text place = place_line (lines_of text) place
