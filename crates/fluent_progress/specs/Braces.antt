-- Placeables that hold nothing but a placeable.
use Rattle.fluent_grammar.specs.Tree as t
use Rattle.fluent_grammar.specs.Tree.{Expression, Inline, inline, select}

-- an expression without the braces around it
abbrev mutual
  pub innermost : Expression → Expression
  innermost (select i vs) = select i vs
  innermost (inline i) = unbraced i

  pub unbraced : Inline → Expression
  unbraced (t.string_literal s) = inline (t.string_literal s)
  unbraced (t.number_literal s) = inline (t.number_literal s)
  unbraced (t.function_reference s a) = inline (t.function_reference s a)
  unbraced (t.message_reference s a) = inline (t.message_reference s a)
  unbraced (t.term_reference s a c) = inline (t.term_reference s a c)
  unbraced (t.variable_reference s) = inline (t.variable_reference s)
  unbraced (t.nested e) = innermost e
