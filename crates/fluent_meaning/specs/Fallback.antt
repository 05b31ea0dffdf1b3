-- What stands in the place of an expression that has no text.
use Rattle.std.specs.Prelude.{[], ◌∷◌, ◌++◌, Option, Some, None}
use Rattle.fluent_grammar.specs.Words.{Text, open_brace, close_brace, quote, hyphen, dot, dollar, open_paren, close_paren}
use Rattle.fluent_grammar.specs.Tree as t
use Rattle.fluent_grammar.specs.Tree.{Expression, select, inline, Inline}

-- a name, with an attribute's name after a dot
abbrev pub with_attribute : Text → Option Text → Text
with_attribute s None = s
with_attribute s (Some a) = s ++ dot ∷ a

-- a function's name with empty parentheses
abbrev pub called : Text → Text
called id = id ++ open_paren ∷ close_paren ∷ []

abbrev mutual
  pub fallback : Expression → Text
  fallback (inline i) = inline_fallback i
  fallback (select i vs) = inline_fallback i

  pub inline_fallback : Inline → Text
  inline_fallback (t.string_literal s) = quote ∷ s ++ quote ∷ []
  inline_fallback (t.number_literal s) = s
  inline_fallback (t.function_reference s a) = called s
  inline_fallback (t.message_reference s a) = with_attribute s a
  inline_fallback (t.term_reference s a c) = hyphen ∷ with_attribute s a
  inline_fallback (t.variable_reference s) = dollar ∷ s
  inline_fallback (t.nested e) = fallback e

abbrev pub braced : Text → Text
braced s = open_brace ∷ s ++ close_brace ∷ []
