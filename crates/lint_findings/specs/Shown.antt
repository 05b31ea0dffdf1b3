-- Which variables a pattern shows: those of its placeables, and those that a function there is given. A selector is only
-- chosen by.
use Rattle.std.specs.Prelude.{Bool, true, false, ◌&&◌, ◌||◌}
use Rattle.std.specs.Str.{bytes_eq}
use Rattle.fluent_grammar.specs.Words.{Text}
use Rattle.fluent_grammar.specs.Tree as t
use Rattle.fluent_grammar.specs.Tree.{Elements, Expression, Variants, Inline, Arguments, Inlines}

abbrev mutual
  -- whether some variant of a pattern shows this variable
  pub elements_show : Text → Elements → Bool
  elements_show x t.no_elements = false
  elements_show x (t.text s es) = elements_show x es
  elements_show x (t.placeable e es) = expression_shows x e || elements_show x es

  pub expression_shows : Text → Expression → Bool
  expression_shows x (t.select i vs) = variants_show x vs
  expression_shows x (t.inline i) = inline_shows x i

  pub variants_show : Text → Variants → Bool
  variants_show x t.no_variants = false
  variants_show x (t.variant k es d vs) = elements_show x es || variants_show x vs

  pub inline_shows : Text → Inline → Bool
  inline_shows x (t.string_literal s) = false
  inline_shows x (t.number_literal s) = false
  inline_shows x (t.function_reference id a) = arguments_show x a
  inline_shows x (t.message_reference id a) = false
  inline_shows x (t.term_reference id a c) = false
  inline_shows x (t.variable_reference y) = bytes_eq x y
  inline_shows x (t.nested e) = expression_shows x e

  pub arguments_show : Text → Arguments → Bool
  arguments_show x (t.arguments ps ns) = inlines_show x ps

  pub inlines_show : Text → Inlines → Bool
  inlines_show x t.no_inlines = false
  inlines_show x (t.positional e ps) = inline_shows x e || inlines_show x ps

abbrev mutual
  -- whether a pattern shows this variable, whichever variants are chosen
  pub elements_always_show : Text → Elements → Bool
  elements_always_show x t.no_elements = false
  elements_always_show x (t.text s es) = elements_always_show x es
  elements_always_show x (t.placeable e es) = expression_always_shows x e || elements_always_show x es

  pub expression_always_shows : Text → Expression → Bool
  expression_always_shows x (t.select i vs) = variants_always_show x vs
  expression_always_shows x (t.inline i) = inline_always_shows x i

  pub variants_always_show : Text → Variants → Bool
  variants_always_show x t.no_variants = true
  variants_always_show x (t.variant k es d vs) = elements_always_show x es && variants_always_show x vs

  pub inline_always_shows : Text → Inline → Bool
  inline_always_shows x (t.string_literal s) = false
  inline_always_shows x (t.number_literal s) = false
  inline_always_shows x (t.function_reference id a) = arguments_show x a
  inline_always_shows x (t.message_reference id a) = false
  inline_always_shows x (t.term_reference id a c) = false
  inline_always_shows x (t.variable_reference y) = bytes_eq x y
  inline_always_shows x (t.nested e) = expression_always_shows x e
