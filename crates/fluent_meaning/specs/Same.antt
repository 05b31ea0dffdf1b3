-- Whether two patterns are the same, by their content: a test that decides it.
use Rattle.std.specs.Prelude.{Bool, true, false, ◌&&◌}
use Rattle.std.specs.Str.{bytes_eq}
use Rattle.fluent_grammar.specs.Tree as t
use Rattle.fluent_grammar.specs.Tree.{Elements, no_elements, text, placeable, Expression, select, inline, Variants, no_variants, variant, Inline, Arguments, arguments, Inlines, no_inlines, positional, Nameds, no_nameds, named, VariantKey, identifier_key, number_key, MaybeArguments, no_arguments, with_arguments}
use Rattle.fluent_value.specs.Matching.{same_bool, same_option}

abbrev pub same_key : VariantKey → VariantKey → Bool
same_key (identifier_key s) (identifier_key x) = bytes_eq s x
same_key (identifier_key s) (number_key x) = false
same_key (number_key s) (identifier_key x) = false
same_key (number_key s) (number_key x) = bytes_eq s x

unfoldable mutual
  pub same_elements : Elements → Elements → Bool
  same_elements no_elements no_elements = true
  same_elements (text s es) (text x xs) = bytes_eq s x && same_elements es xs
  same_elements (placeable e es) (placeable x xs) = same_expression e x && same_elements es xs
  same_elements _ _ = false

  pub same_expression : Expression → Expression → Bool
  same_expression (inline i) (inline j) = same_inline i j
  same_expression (select i vs) (select j ws) = same_inline i j && same_variants vs ws
  same_expression _ _ = false

  pub same_variants : Variants → Variants → Bool
  same_variants no_variants no_variants = true
  same_variants (variant k es d vs) (variant l fs e ws) = same_key k l && (same_elements es fs && (same_bool d e && same_variants vs ws))
  same_variants _ _ = false

  pub same_inline : Inline → Inline → Bool
  same_inline (t.string_literal s) (t.string_literal x) = bytes_eq s x
  same_inline (t.number_literal s) (t.number_literal x) = bytes_eq s x
  same_inline (t.function_reference s a) (t.function_reference x b) = bytes_eq s x && same_arguments a b
  same_inline (t.message_reference s a) (t.message_reference x b) = bytes_eq s x && same_option bytes_eq a b
  same_inline (t.term_reference s a c) (t.term_reference x b d) = bytes_eq s x && (same_option bytes_eq a b && same_maybe c d)
  same_inline (t.variable_reference s) (t.variable_reference x) = bytes_eq s x
  same_inline (t.nested e) (t.nested f) = same_expression e f
  same_inline _ _ = false

  pub same_maybe : MaybeArguments → MaybeArguments → Bool
  same_maybe no_arguments no_arguments = true
  same_maybe (with_arguments a) (with_arguments b) = same_arguments a b
  same_maybe _ _ = false

  pub same_arguments : Arguments → Arguments → Bool
  same_arguments (arguments ps ns) (arguments qs ms) = same_inlines ps qs && same_nameds ns ms

  pub same_inlines : Inlines → Inlines → Bool
  same_inlines no_inlines no_inlines = true
  same_inlines (positional e ps) (positional f qs) = same_inline e f && same_inlines ps qs
  same_inlines _ _ = false

  pub same_nameds : Nameds → Nameds → Bool
  same_nameds no_nameds no_nameds = true
  same_nameds (named x e ns) (named y f ms) = bytes_eq x y && (same_inline e f && same_nameds ns ms)
  same_nameds _ _ = false
