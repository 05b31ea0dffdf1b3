-- How a pattern of paths is written.
use Rattle.std.specs.Prelude.{ℕ, zero, suc, Bool, true, false, ◌&&◌, ◌==◌, ◌-◌, ◌++◌, if◌then◌else◌, List, [], ◌∷◌, Option, Some, None, Result, Ok, Err, length, take, drop, codes, option_map}
use Rattle.std.specs.Char.{is_ascii_whitespace}
use Rattle.std.specs.List.{position, prefix_len, suffix_len}
use Rattle.fluent_project.specs.declared.part.Part.{Part}
use Rattle.fluent_project.specs.declared.part.Part.TheVariants as part
use Rattle.fluent_project.specs.declared.part.Wildcard.TheVariants.{Star, Folders, Rest}
use Rattle.fluent_project.specs.Patterns.{Text, is_slash}

-- a name and the parts that it stands for
abbrev pub Variable : Type 0
Variable = Text × List Part

-- What a pattern has at a place: its parts, how many bytes follow the first one there, and whether `**` may stand after it.
pub record Token : Type 0 where
  pub parts : List Part
  pub extra : ℕ
  pub at_start : Bool

abbrev pub token : List Part → ℕ → Bool → Token
token parts extra at_start = record { parts = parts; extra = extra; at_start = at_start }

abbrev pub same_text : Text → Text → Bool
same_text [] [] = true
same_text [] (_ ∷ _) = false
same_text (_ ∷ _) [] = false
same_text (x ∷ xs) (y ∷ ys) = x == y && same_text xs ys

-- the parts of the first variable of a name
abbrev pub parts_named : List Variable → Text → Option (List Part)
parts_named [] name = None
parts_named (variable ∷ variables) name = if same_text variable.0 name then Some variable.1 else parts_named variables name

-- `locale` is the language, whatever variables there are
abbrev pub parts_for : List Variable → Text → Option (List Part)
parts_for variables name = if same_text (codes "locale") name then Some (part.Locale ∷ []) else parts_named variables name

-- a text without the blanks at its ends
abbrev pub without_start : Text → Text
without_start text = drop (prefix_len is_ascii_whitespace text) text

abbrev pub without_end : Text → Text
without_end text = take (length text - suffix_len is_ascii_whitespace text) text

abbrev pub trimmed : Text → Text
trimmed text = without_end (without_start text)

-- The variable in what follows an opening brace, up to the first closing one.
abbrev pub variable_token : ℕ → Option (List Part) → Option Token
variable_token len parts = option_map (λ parts. token parts (suc len) true) parts

abbrev pub variable_up_to : List Variable → Text → Option ℕ → Option Token
variable_up_to variables text None = None
variable_up_to variables text (Some len) = variable_token len (parts_for variables (trimmed (take len text)))

abbrev pub variable_at : List Variable → Text → Option Token
variable_at variables text = variable_up_to variables text (position (λ byte. byte == 125) text)

-- The wildcard in what follows an asterisk. `**/`, and `**` at the end, stand at the start, or after a slash or a variable: anywhere
-- else each asterisk is one of its own.
abbrev pub one_star : Token
one_star = token (part.Wildcard Star ∷ []) 0 false

abbrev pub if_folders : ℕ → Token
if_folders next = if is_slash next then token (part.Wildcard Folders ∷ []) 2 true else one_star

abbrev pub two_stars : Text → Token
two_stars [] = token (part.Wildcard Rest ∷ []) 1 false
two_stars (next ∷ text) = if_folders next

abbrev pub wildcard_at : Bool → Text → Token
wildcard_at at_start [] = one_star
wildcard_at at_start (next ∷ text) = if at_start && next == 42 then two_stars text else one_star

-- what stands at a place, of which this is the first byte
abbrev pub token_at : List Variable → Bool → ℕ → Text → Option Token
token_at variables at_start byte text =
    if byte == 42 then Some (wildcard_at at_start text)
    else if byte == 123 then variable_at variables text
    else Some (token (part.Byte byte ∷ []) 0 (is_slash byte))

abbrev pub behind : List Part → Result (List Part) Text → Result (List Part) Text
behind parts (Ok more) = Ok (parts ++ more)
behind parts (Err rest) = Err rest

abbrev pub with_token : Option Token → Text → (ℕ → Bool → Result (List Part) Text) → Result (List Part) Text
with_token None rest more = Err rest
with_token (Some token) rest more = behind token.parts (more token.extra token.at_start)

-- The parts that a text is, after some of its bytes. Otherwise what follows a brace that is no variable.
abbrev pub parts_after : List Variable → ℕ → Bool → Text → Result (List Part) Text
parts_after variables extra at_start [] = Ok []
parts_after variables (suc extra) at_start (byte ∷ text) = parts_after variables extra at_start text
parts_after variables zero at_start (byte ∷ text) =
    with_token (token_at variables at_start byte text) text (λ extra after. parts_after variables extra after text)

-- the parts of a pattern
abbrev pub pattern_parts : List Variable → Text → Result (List Part) Text
pattern_parts variables text = parts_after variables 0 true text
