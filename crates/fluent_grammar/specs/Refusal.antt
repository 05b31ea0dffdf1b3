-- Why a construct isn't read, and where.
use Rattle.std.specs.Prelude.{ℕ}
use Rattle.fluent_grammar.specs.Words.{Text}

-- The kinds of refusals; docs/reference/grammar.md says where each is found. The number of `expected_token` is the byte
-- of the token. `expected_letter`, `expected_digit` and `expected_line_end` are the three ranges that can be expected:
-- letters, digits, and the characters of a line end. The texts are an entry's name, an escape's text or an argument's
-- name.
pub data Kind : Type 0 where
  expected_token : ℕ → Kind
  expected_letter : Kind
  expected_digit : Kind
  expected_line_end : Kind
  expected_message_field : Text → Kind
  expected_term_field : Text → Kind
  forbidden_callee : Kind
  missing_value : Kind
  multiple_default_variants : Kind
  missing_default_variant : Kind
  message_reference_as_selector : Kind
  term_reference_as_selector : Kind
  expected_simple_expression_as_selector : Kind
  term_attribute_as_placeable : Kind
  unterminated_string_literal : Kind
  unknown_escape_sequence : Text → Kind
  invalid_unicode_escape_sequence : Text → Kind
  positional_argument_follows_named : Kind
  duplicated_named_argument : Text → Kind
  unbalanced_closing_brace : Kind
  expected_inline_expression : Kind
  expected_literal : Kind

-- The kind, and the text that stands at the place where reading stopped, to the end of the source.
pub record Refusal : Type 0 where
  pub kind : Kind
  pub at : Text

-- What reading a construct gives: the node and the rest that follows it, or a refusal.
pub data Reading (A : Type 0) : Type 0 where
  got : A → Text → Reading A
  refused : Refusal → Reading A

infixl 10 ◌>>=◌
-- One construct after another: the second is read from the rest of the first. The first refusal is the refusal.
abbrev pub ◌>>=◌ : {A B : Type 0} → Reading A → (A × Text → Reading B) → Reading B
(got a rest) >>= f = f (a, rest)
(refused r) >>= f = refused r

-- a refusal at a place
abbrev pub refuse : {A : Type 0} → Kind → Text → Reading A
refuse kind at = refused (record { kind = kind; at = at })

-- the node, changed
abbrev pub mapped : {A B : Type 0} → (A → B) → Reading A → Reading B
mapped f (got a rest) = got (f a) rest
mapped f (refused r) = refused r
