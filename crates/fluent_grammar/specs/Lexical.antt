-- The words of the grammar as relations: a text begins with the word, and the rest is what follows it. Each word is
-- taken greedily. Nothing here reads: a word is known by its bytes, and by what does not go on it.
use Rattle.std.specs.Prelude.{◌≡◌, ℕ, Bool, true, false, not, ◌||◌, ◌==◌, [], ◌∷◌, ◌++◌, Option, Some, None}
use Rattle.std.specs.List.{list_all}
use Rattle.fluent_grammar.specs.Words.{Text, line_feed, carriage_return, space, quote, hyphen, dot, backslash, open_brace, close_brace, small_u, capital_u, is_letter, is_digit, is_name_byte, begins, begins_with, begins_crlf, hex_digits}
use Rattle.fluent_grammar.specs.Tree as t

-- The longest run of bytes that pass a test, at the front of a text.
pub record IsLongestRun (passes : ℕ → Bool) (run text rest : Text) : Type 0 where
  pub split : text ≡ run ++ rest
  pub passing : list_all passes run ≡ true
  pub longest : begins passes rest ≡ false

-- Blank inline: spaces, as many as there are. A tab is none.
abbrev pub SpellsBlankInline : Text → Text → Text → Type 0
SpellsBlankInline blank text rest = IsLongestRun (λ c. c == space) blank text rest

-- A line end: LF or CR LF. A carriage return alone is none.
pub data SpellsLineEnd : Text → Text → Type 0 where
  lf : {rest : Text} → SpellsLineEnd (line_feed ∷ rest) rest
  crlf : {rest : Text} → SpellsLineEnd (carriage_return ∷ line_feed ∷ rest) rest

-- Texts that are blank: spaces and line ends.
pub data IsBlank : Text → Type 0 where
  no_blank : IsBlank []
  then_space : {more : Text} → IsBlank more → IsBlank (space ∷ more)
  then_lf : {more : Text} → IsBlank more → IsBlank (line_feed ∷ more)
  then_crlf : {more : Text} → IsBlank more → IsBlank (carriage_return ∷ line_feed ∷ more)

-- Blank: as much as there is. Neither a space nor a line end follows.
pub record SpellsBlank (blank text rest : Text) : Type 0 where
  pub split : text ≡ blank ++ rest
  pub is_blank : IsBlank blank
  pub no_space : begins_with space rest ≡ false
  pub no_line_end : (more : Text) → SpellsLineEnd rest more → ⊥

-- The rest of a line: bytes up to a line end, which is taken, or up to the end of the text. A carriage return that isn't
-- part of a line end is one of the bytes.
pub data SpellsRestOfLine : Text → Text → Text → Type 0 where
  line_ends : {s rest : Text} → SpellsLineEnd s rest → SpellsRestOfLine [] s rest
  text_ends : SpellsRestOfLine [] [] []
  line_byte : {c : ℕ} {line s rest : Text} → ((more : Text) → SpellsLineEnd (c ∷ s) more → ⊥) → SpellsRestOfLine line s rest → SpellsRestOfLine (c ∷ line) (c ∷ s) rest

-- Identifier: an ASCII letter, then letters, digits, `-` and `_`.
pub record SpellsName (name text rest : Text) : Type 0 where
  pub letter_first : begins is_letter text ≡ true
  pub run : IsLongestRun is_name_byte name text rest

-- Digits, at least one.
pub record SpellsDigits (digits text rest : Text) : Type 0 where
  pub digit_first : begins is_digit text ≡ true
  pub run : IsLongestRun is_digit digits text rest

-- A number literal after its sign: digits, and digits after a point if a point follows.
pub data SpellsUnsigned : Text → Text → Text → Type 0 where
  whole : {digits s rest : Text} → SpellsDigits digits s rest → begins_with dot rest ≡ false → SpellsUnsigned digits s rest
  decimal : {digits fraction s u rest : Text} → SpellsDigits digits s (dot ∷ u) → SpellsDigits fraction u rest →
      SpellsUnsigned (digits ++ dot ∷ fraction) s rest

-- NumberLiteral: a minus or none, then digits. The node holds the text as it stands.
pub data SpellsNumber : Text → Text → Text → Type 0 where
  unsigned : {number s rest : Text} → SpellsUnsigned number s rest → SpellsNumber number s rest
  negative : {number s rest : Text} → SpellsUnsigned number s rest → SpellsNumber (hyphen ∷ number) (hyphen ∷ s) rest

-- a byte of a string literal that stands for itself
abbrev pub is_plain : ℕ → Bool
is_plain c = not (c == quote || (c == line_feed || c == backslash))

-- StringLiteral after its opening quote, with the quote that closes it. The node holds the raw text between the
-- quotes. After `\u` four hex digits follow, after `\U` six; they are bytes that stand for themselves.
pub data SpellsString : Text → Text → Text → Type 0 where
  closing_quote : {rest : Text} → SpellsString [] (quote ∷ rest) rest
  plain_byte : {c : ℕ} {raw s rest : Text} → is_plain c ≡ true → SpellsString raw s rest → SpellsString (c ∷ raw) (c ∷ s) rest
  escaped_backslash : {raw s rest : Text} → SpellsString raw s rest → SpellsString (backslash ∷ backslash ∷ raw) (backslash ∷ backslash ∷ s) rest
  escaped_quote : {raw s rest : Text} → SpellsString raw s rest → SpellsString (backslash ∷ quote ∷ raw) (backslash ∷ quote ∷ s) rest
  four_digits : {raw s rest : Text} → hex_digits 4 s ≡ true → SpellsString raw s rest → SpellsString (backslash ∷ small_u ∷ raw) (backslash ∷ small_u ∷ s) rest
  six_digits : {raw s rest : Text} → hex_digits 6 s ≡ true → SpellsString raw s rest → SpellsString (backslash ∷ capital_u ∷ raw) (backslash ∷ capital_u ∷ s) rest

-- AttributeAccessor, or nothing if no dot follows.
pub data SpellsAccessor : Option Text → Text → Text → Type 0 where
  no_accessor : {s : Text} → begins_with dot s ≡ false → SpellsAccessor None s s
  an_accessor : {name s rest : Text} → SpellsName name s rest → SpellsAccessor (Some name) (dot ∷ s) rest

-- VariantKey, without its brackets: a number literal or an identifier.
pub data SpellsKey : t.VariantKey → Text → Text → Type 0 where
  number_key : {number s rest : Text} → SpellsNumber number s rest → SpellsKey (t.number_key number) s rest
  identifier_key : {name s rest : Text} → SpellsName name s rest → SpellsKey (t.identifier_key name) s rest

-- The value of a NamedArgument: a string or number literal.
pub data SpellsLiteral : t.Inline → Text → Text → Type 0 where
  a_string : {raw s rest : Text} → SpellsString raw s rest → SpellsLiteral (t.string_literal raw) (quote ∷ s) rest
  a_number : {number s rest : Text} → SpellsNumber number s rest → SpellsLiteral (t.number_literal number) s rest

-- a byte of a text piece that neither ends the piece nor is refused in it, a CR LF aside
abbrev pub is_text_byte : ℕ → Bool
is_text_byte c = not (c == open_brace || (c == close_brace || c == line_feed))

-- A text piece of a pattern: to and with the next line feed, or up to `{`, a CR LF or the end of the text. It holds no
-- `}`. (inline_text and block_text of Fluent Syntax 1.0 are made of these.)
pub data SpellsText : Text → Text → Text → Type 0 where
  to_line_feed : {rest : Text} → SpellsText (line_feed ∷ []) (line_feed ∷ rest) rest
  to_brace : {rest : Text} → SpellsText [] (open_brace ∷ rest) (open_brace ∷ rest)
  to_crlf : {rest : Text} → begins_crlf rest ≡ true → SpellsText [] rest rest
  to_end : SpellsText [] [] []
  text_byte : {c : ℕ} {piece s rest : Text} → is_text_byte c ≡ true → begins_crlf (c ∷ s) ≡ false → SpellsText piece s rest →
      SpellsText (c ∷ piece) (c ∷ s) rest
