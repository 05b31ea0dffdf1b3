-- What a reader of the code gives, beside the reading of the definitions.
use Rattle.std.specs.Prelude.{◌≡◌, ℕ, suc, List, [], ◌++◌, length, take, drop, Result, Ok, Err, Option, Some, None, if◌then◌else◌}
use Rattle.fluent_grammar.specs.Words.{Text, begins_with, quote, close_bracket, skip_blank, is_among}
use Rattle.fluent_grammar.specs.Tree as t
use Rattle.fluent_grammar.specs.Refusal as r
use Rattle.fluent_grammar.specs.Refusal.{Kind, Reading, got, refused, refuse, mapped, ◌>>=◌}
use Rattle.fluent_grammar.specs.Reading.{Readers, readers, first_char, identifier_at, string_content, number_at, key_at, literal_at, is_term_attribute}
use Rattle.fluent_parsed.specs.ErrorView.{kind_view, told, expected_char_range}
use Rattle.fluent_parser.specs.declared.fault.Fault.{Fault}
use Rattle.fluent_parser.specs.declared.fault.Fault.TheVariants as fault
use Rattle.fluent_parsed.specs.declared.errors.ErrorKind.{ErrorKind}

-- the refusal of a reading is told by this kind, and what stands at its place is this rest
abbrev pub Refuses : {A : Type 0} → ErrorKind → Text → Reading A → Type 0
Refuses kind rest (got a behind) = ⊥
Refuses kind rest (refused fault) = (kind_view kind ≡ told fault.kind) × (rest ≡ fault.at)

-- what a reader that failed returned is what reading gives, unless memory ran out or the text nests too deep
abbrev pub Fails : {A : Type 0} → Fault → Text → Reading A → Type 0
Fails fault.Memory rest read = Unit {0}
Fails fault.TooDeep rest read = Unit {0}
Fails (fault.Refused kind) rest read = Refuses kind rest read

-- What a reader returned, seen by view, and what it left, are what reading gives, unless memory ran out.
abbrev pub Gives : {X Y : Type 0} → (X → Y) → Text → Result X Fault → Reading Y → Type 0
Gives view rest (Ok x) read = read ≡ got (view x) rest
Gives view rest (Err e) read = Fails e rest read

-- readers of as many levels as a text has bytes, and more
unfoldable pub whole : Readers
whole = record {
  inline = λ s. (readers (suc (length s))).inline s;
  arguments = λ names s. (readers (suc (length s))).arguments names s;
  variants = λ marked s. (readers (suc (length s))).variants marked s;
  line = λ s. (readers (suc (length s))).line s;
  pieces = λ s. (readers (suc (length s))).pieces s;
}

-- a refusal is told of this kind
abbrev pub Tells : Fault → Kind → Type 0
Tells fault.Memory told_of = Unit {0}
Tells fault.TooDeep told_of = ⊥
Tells (fault.Refused kind) told_of = kind_view kind ≡ told told_of

-- a refusal where characters of this range are missing
abbrev pub IsRange : Fault → Text → Type 0
IsRange fault.Memory range = Unit {0}
IsRange fault.TooDeep range = ⊥
IsRange (fault.Refused kind) range = kind_view kind ≡ expected_char_range range

-- a byte that has to stand here
abbrev pub byte_at : ℕ → Text → Reading (Unit {0})
byte_at byte s = if begins_with byte s then got tt (drop 1 s) else refuse (r.expected_token byte) s

-- a text from after this byte, if it begins with it
abbrev pub past_byte : ℕ → Text → Text
past_byte byte s = if begins_with byte s then drop 1 s else s

-- so many bytes at the front of a text, and the character after them
abbrev pub with_next_char : Text → ℕ → Text
with_next_char s count = take count s ++ first_char (drop count s)

-- the arguments of a call, from the opening parenthesis on
abbrev pub call_arguments_at : Text → Reading t.Arguments
call_arguments_at s = whole.arguments [] (skip_blank (drop 1 s))

-- a variable, from its dollar sign on
abbrev pub variable_at : Text → Reading t.Inline
variable_at s = mapped t.variable_reference (identifier_at (drop 1 s))

-- a string or a number
abbrev pub string_or_number_at : Text → Reading t.Inline
string_or_number_at s = if begins_with quote s then mapped t.string_literal (string_content (drop 1 s)) else mapped t.number_literal (number_at s)

-- a key with its closing bracket, after the opening one
abbrev pub key_in_brackets_at : Text → Reading t.VariantKey
key_in_brackets_at s = key_at (skip_blank s) >>= (λ key. byte_at close_bracket (skip_blank key.1) >>= (λ u. got key.0 u.1))

-- the value of an argument of this name after others, from the colon on
abbrev pub argument_value_at : List Text → Text → Text → Reading t.Inline
argument_value_at names name s = if is_among name names then refuse (r.duplicated_named_argument name) s else literal_at (skip_blank (drop 1 s))

-- an expression that no arrow follows
abbrev pub inline_by : t.Inline → Text → Reading t.Expression
inline_by e s = if is_term_attribute e then refuse r.term_attribute_as_placeable s else got (t.inline e) s

-- a kind tells of another, if there is any
abbrev pub IsToldAs : Option ErrorKind → Option Kind → Type 0
IsToldAs None None = Unit {0}
IsToldAs None (Some k) = ⊥
IsToldAs (Some e) None = ⊥
IsToldAs (Some e) (Some k) = kind_view e ≡ told k
