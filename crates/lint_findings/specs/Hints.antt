-- What may be the cause of a syntax error.
use Rattle.std.specs.Prelude.{◌==◌, Bool, true, if◌then◌else◌, ◌||◌, not, List, [], ◌∷◌, length, take, Option, Some, None, codes}
use Rattle.std.specs.List.{list_any}
use Rattle.std.specs.Str.{bytes_eq}
use Rattle.fluent_grammar.specs.Words.{Text, space, dot, colon, equals, close_brace, begins, begins_with}
use Rattle.fluent_grammar.specs.Refusal as r
use Rattle.fluent_grammar.specs.Refusal.{Kind, Refusal}
use Rattle.lint_findings.specs.SyntaxErrors.{begins_attribute}

abbrev pub has_prefix : Text → Text → Bool
has_prefix front s = bytes_eq front (take (length front) s)

-- the first hint of a list whose test holds
abbrev pub first_hint : List (Bool × Text) → Option Text
first_hint [] = None
first_hint (h ∷ hs) = if h.0 then Some h.1 else first_hint hs

abbrev pub byte_order_mark : Text
byte_order_mark = 0xEF ∷ 0xBB ∷ 0xBF ∷ []

-- U+0027, U+2018 to U+201A, U+201C to U+201E, U+00AB and U+00BB
abbrev pub other_quotes : List Text
other_quotes =
    (39 ∷ [])
    ∷ (0xE2 ∷ 0x80 ∷ 0x98 ∷ []) ∷ (0xE2 ∷ 0x80 ∷ 0x99 ∷ []) ∷ (0xE2 ∷ 0x80 ∷ 0x9A ∷ [])
    ∷ (0xE2 ∷ 0x80 ∷ 0x9C ∷ []) ∷ (0xE2 ∷ 0x80 ∷ 0x9D ∷ []) ∷ (0xE2 ∷ 0x80 ∷ 0x9E ∷ [])
    ∷ (0xC2 ∷ 0xAB ∷ []) ∷ (0xC2 ∷ 0xBB ∷ []) ∷ []

-- a text begins with a quote that isn't `"`
abbrev pub begins_other_quote : Text → Bool
begins_other_quote s = list_any (λ q. has_prefix q s) other_quotes

-- a text begins with what version control writes into a file at a conflict
abbrev pub begins_conflict : Text → Bool
begins_conflict s = list_any (λ mark. has_prefix mark s) (codes "<<<<<<<" ∷ codes "=======" ∷ codes ">>>>>>>" ∷ [])

-- a text begins with what begins a comment in other formats: `/`, `;` or `<`
abbrev pub begins_other_comment : Text → Bool
begins_other_comment s = begins (λ c. c == 47 || (c == 59 || c == 60)) s

-- ---- the hints, each with its test

-- if `=` is missing
abbrev pub hints_for_equals : Text → Text → List (Bool × Text)
hints_for_equals s at =
    (begins_with dot at, codes "an identifier has only letters, digits, `-` and `_`")
    ∷ (begins_with colon at, codes "write `=` before the value")
    ∷ (not (begins_attribute s), codes "a line that continues a text begins with at least one space") ∷ []

-- if a placeable isn't closed
abbrev pub hints_for_brace : Text → List (Bool × Text)
hints_for_brace at =
    (begins_with dot at, codes "a variable has no attributes")
    ∷ (begins_with 62 at, codes "an arrow has a space before it, as in `{ $name ->`") ∷ []

-- if nothing at the front of junk begins an entry
abbrev pub hints_for_entry : Text → List (Bool × Text)
hints_for_entry s =
    (has_prefix byte_order_mark s, codes "this is a byte order mark; save the file without it")
    ∷ (begins_conflict s, codes "this is an unresolved merge conflict")
    ∷ (begins_with 9 s, codes "a tab isn't an indent; use spaces")
    ∷ (begins_with space s, codes "an entry begins at the start of a line")
    ∷ (begins_other_comment s, codes "a comment begins with `# `") ∷ []

-- if an entry has nothing to hold
abbrev pub hints_for_value : Text → List (Bool × Text)
hints_for_value at =
    (begins_with 9 at, codes "a tab isn't an indent; use spaces")
    ∷ (true, codes "write an empty text as `{ \"\" }`") ∷ []

-- if no expression begins
abbrev pub hints_for_expression : Text → List (Bool × Text)
hints_for_expression at =
    (begins_other_quote at, codes "a string is written between straight quotes, `\"`")
    ∷ (begins_with close_brace at, codes "write a brace in a text as `{ \"{\" }`") ∷ []

abbrev pub always : Text → List (Bool × Text)
always hint = (true, hint) ∷ []

-- The hints for a kind of refusal, in junk that begins with `s`. `at` is the text from the place of the refusal on.
abbrev pub hints : Text → Text → Kind → List (Bool × Text)
hints s at (r.expected_token token) =
    if token == equals then hints_for_equals s at
    else if token == close_brace then hints_for_brace at
    else []
hints s at r.expected_letter = if length at == length s then hints_for_entry s else []
hints s at (r.expected_message_field id) = hints_for_value at
hints s at (r.expected_term_field id) = hints_for_value at
hints s at r.forbidden_callee = always (codes "functions are written in capitals, as `NUMBER($n)`")
hints s at r.missing_value = always (codes "write an empty text as `{ \"\" }`")
hints s at r.missing_default_variant = always (codes "mark the one for all other cases, as `*[other]`")
hints s at r.message_reference_as_selector = always (codes "a variable is written `$name`, and an attribute `message.attribute`")
hints s at r.term_reference_as_selector = always (codes "one of its attributes can, as `-term.attribute`")
hints s at r.expected_simple_expression_as_selector = always (codes "remove the inner braces")
hints s at r.term_attribute_as_placeable = always (codes "it can be a selector, before `->`")
hints s at (r.unknown_escape_sequence c) = always (codes "the escapes are `\\\\`, `\\\"`, `\\u` with 4 hex digits and `\\U` with 6")
hints s at (r.invalid_unicode_escape_sequence c) = always (codes "`\\u` needs 4 hex digits, and `\\U` needs 6")
hints s at r.unbalanced_closing_brace = always (codes "write a brace in a text as `{ \"}\" }`")
hints s at r.expected_inline_expression = hints_for_expression at
hints s at r.expected_digit = []
hints s at r.expected_line_end = []
hints s at r.multiple_default_variants = []
hints s at r.unterminated_string_literal = []
hints s at r.positional_argument_follows_named = []
hints s at (r.duplicated_named_argument name) = []
hints s at r.expected_literal = []

abbrev pub hint : Text → Refusal → Option Text
hint s refusal = first_hint (hints s refusal.at refusal.kind)
