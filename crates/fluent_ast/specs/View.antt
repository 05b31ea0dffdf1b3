-- The plain tree that a tree of texts stands for.
use Rattle.std.specs.Prelude.{ℕ, Bool, List, [], ◌∷◌, Option, Some, None, option_map, map}
use Rattle.fluent_grammar.specs.Tree as t
use Rattle.fluent_ast.specs.declared.Resource.{Resource}
use Rattle.fluent_ast.specs.declared.Entry.{Entry}
use Rattle.fluent_ast.specs.declared.Entry.TheVariants as of
use Rattle.fluent_ast.specs.declared.Message.{Message}
use Rattle.fluent_ast.specs.declared.Term.{Term}
use Rattle.fluent_ast.specs.declared.Comment.{Comment}
use Rattle.fluent_ast.specs.declared.Attribute.{Attribute}
use Rattle.fluent_ast.specs.declared.Identifier.{Identifier}
use Rattle.fluent_ast.specs.declared.VariantKey.{VariantKey}
use Rattle.fluent_ast.specs.declared.VariantKey.TheVariants as key
use Rattle.fluent_ast.specs.declared.Expression.{Expression, fold-Expression}
use Rattle.fluent_ast.specs.declared.InlineExpression.{InlineExpression, fold-InlineExpression}
use Rattle.fluent_ast.specs.declared.PatternElement.{PatternElement, fold-PatternElement}
use Rattle.fluent_ast.specs.declared.Pattern.{Pattern, fold-Pattern}
use Rattle.fluent_ast.specs.declared.Variant.{Variant as VariantOf, fold-Variant}
use Rattle.fluent_ast.specs.declared.CallArguments.{CallArguments, fold-CallArguments}
use Rattle.fluent_ast.specs.declared.NamedArgument.{NamedArgument, fold-NamedArgument}
use Rattle.fluent_ast.specs.declared.Expression.TheOpen as o
use Rattle.fluent_ast.specs.declared.Expression.TheOpen.{Expression-F, InlineExpression-F, PatternElement-F, CallArguments-F, NamedArgument-F, Pattern-F, Variant-F}

-- one element, before it stands in a list
pub data Element : Type 0 where
  text : List ℕ → Element
  placeable : t.Expression → Element

-- a list of elements, as the plain tree has it
abbrev pub elements_of : List Element → t.Elements
elements_of [] = t.no_elements
elements_of (text s ∷ es) = t.text s (elements_of es)
elements_of (placeable e ∷ es) = t.placeable e (elements_of es)

-- one variant, before it stands in a list
pub record Variant : Type 0 where
  pub key : t.VariantKey
  pub value : t.Elements
  pub default : Bool

-- a list of variants, as the plain tree has it
abbrev pub variants_of : List Variant → t.Variants
variants_of [] = t.no_variants
variants_of (v ∷ vs) = t.variant v.key v.value v.default (variants_of vs)

-- a list of arguments without a name, as the plain tree has it
abbrev pub inlines_of : List t.Inline → t.Inlines
inlines_of [] = t.no_inlines
inlines_of (e ∷ es) = t.positional e (inlines_of es)

-- one argument with a name, before it stands in a list
pub record Named : Type 0 where
  pub name : List ℕ
  pub value : t.Inline

-- a list of arguments with a name, as the plain tree has it
abbrev pub nameds_of : List Named → t.Nameds
nameds_of [] = t.no_nameds
nameds_of (n ∷ ns) = t.named n.name n.value (nameds_of ns)

-- the arguments of a term, as the plain tree has them
abbrev pub maybe_arguments : Option t.Arguments → t.MaybeArguments
maybe_arguments None = t.no_arguments
maybe_arguments (Some a) = t.with_arguments a

-- The views, by what the bytes of a text are. A step gives the plain node of one level, whose children are plain already.
module _ (S : Type 0) (text_of : S → List ℕ) where
  -- the bytes of a name
  abbrev pub name_of : Identifier S → List ℕ
  name_of i = text_of i.name

  -- the key of a variant
  abbrev pub key_of : VariantKey S → t.VariantKey
  key_of (key.Identifier s) = t.identifier_key (text_of s)
  key_of (key.NumberLiteral s) = t.number_key (text_of s)

  abbrev pub expression_step : Expression-F S t.Expression t.Inline Element t.Arguments Named t.Elements Variant → t.Expression
  expression_step (o.Select s vs) = t.select s (variants_of vs.items)
  expression_step (o.Inline e) = t.inline e

  abbrev pub inline_step : InlineExpression-F S t.Expression t.Inline Element t.Arguments Named t.Elements Variant → t.Inline
  inline_step (o.StringLiteral s) = t.string_literal (text_of s)
  inline_step (o.NumberLiteral s) = t.number_literal (text_of s)
  inline_step (o.FunctionReference i a) = t.function_reference (name_of i) a
  inline_step (o.MessageReference i a) = t.message_reference (name_of i) (option_map name_of a)
  inline_step (o.TermReference i a c) = t.term_reference (name_of i) (option_map name_of a) (maybe_arguments c)
  inline_step (o.VariableReference i) = t.variable_reference (name_of i)
  inline_step (o.InlineExpression::Placeable e) = t.nested e.value

  abbrev pub element_step : PatternElement-F S t.Expression t.Inline Element t.Arguments Named t.Elements Variant → Element
  element_step (o.TextElement s) = text (text_of s)
  element_step (o.PatternElement::Placeable e) = placeable e

  abbrev pub arguments_step : CallArguments-F S t.Expression t.Inline Element t.Arguments Named t.Elements Variant → t.Arguments
  arguments_step a = t.arguments (inlines_of a.positional.items) (nameds_of a.named.items)

  abbrev pub named_step : NamedArgument-F S t.Expression t.Inline Element t.Arguments Named t.Elements Variant → Named
  named_step n = record { name = name_of n.name; value = n.value }

  abbrev pub pattern_step : Pattern-F S t.Expression t.Inline Element t.Arguments Named t.Elements Variant → t.Elements
  pattern_step p = elements_of p.elements.items

  abbrev pub variant_step : Variant-F S t.Expression t.Inline Element t.Arguments Named t.Elements Variant → Variant
  variant_step v = record { key = key_of v.key; value = v.value; default = v.default }

  -- the elements of a pattern
  abbrev pub pattern_view : Pattern S → t.Elements
  pattern_view = fold-Pattern _ _ _ _ _ _ _ _ expression_step inline_step element_step arguments_step named_step pattern_step variant_step

  -- an expression
  abbrev pub expression_view : Expression S → t.Expression
  expression_view = fold-Expression _ _ _ _ _ _ _ _ expression_step inline_step element_step arguments_step named_step pattern_step variant_step

  -- an inline expression
  abbrev pub inline_view : InlineExpression S → t.Inline
  inline_view = fold-InlineExpression _ _ _ _ _ _ _ _ expression_step inline_step element_step arguments_step named_step pattern_step variant_step

  -- an element of a pattern
  abbrev pub element_view : PatternElement S → Element
  element_view = fold-PatternElement _ _ _ _ _ _ _ _ expression_step inline_step element_step arguments_step named_step pattern_step variant_step

  -- a variant
  abbrev pub variant_view : VariantOf S → Variant
  variant_view = fold-Variant _ _ _ _ _ _ _ _ expression_step inline_step element_step arguments_step named_step pattern_step variant_step

  -- the arguments of a call
  abbrev pub arguments_view : CallArguments S → t.Arguments
  arguments_view = fold-CallArguments _ _ _ _ _ _ _ _ expression_step inline_step element_step arguments_step named_step pattern_step variant_step

  -- an argument with a name
  abbrev pub named_view : NamedArgument S → Named
  named_view = fold-NamedArgument _ _ _ _ _ _ _ _ expression_step inline_step element_step arguments_step named_step pattern_step variant_step

  -- the elements of a list, as the plain tree has them
  abbrev pub elements_view : List (PatternElement S) → t.Elements
  elements_view es = elements_of (map element_view es)

  -- the variants of a list
  abbrev pub variants_view : List (VariantOf S) → t.Variants
  variants_view vs = variants_of (map variant_view vs)

  -- the arguments of a list without a name
  abbrev pub inlines_view : List (InlineExpression S) → t.Inlines
  inlines_view es = inlines_of (map inline_view es)

  -- the arguments of a list with a name
  abbrev pub nameds_view : List (NamedArgument S) → t.Nameds
  nameds_view ns = nameds_of (map named_view ns)

  -- an attribute
  abbrev pub attribute_view : Attribute S → t.Attribute
  attribute_view a = record { id = name_of a.id; value = pattern_view a.value }

  -- the attributes of a list
  abbrev pub attributes_view : List (Attribute S) → List t.Attribute
  attributes_view as_ = map attribute_view as_

  -- the lines of a comment
  abbrev pub comment_view : Comment S → List (List ℕ)
  comment_view c = map text_of c.content.items

  -- a message
  abbrev pub message_view : Message S → t.Message
  message_view m = record { id = name_of m.id; value = option_map pattern_view m.value; attributes = map attribute_view m.attributes.items; comment = option_map comment_view m.comment }

  -- a term
  abbrev pub term_view : Term S → t.Term
  term_view m = record { id = name_of m.id; value = pattern_view m.value; attributes = map attribute_view m.attributes.items; comment = option_map comment_view m.comment }

  -- an entry
  abbrev pub entry_view : Entry S → t.Entry
  entry_view (of.Message m) = t.message (message_view m)
  entry_view (of.Term m) = t.term (term_view m)
  entry_view (of.Comment c) = t.comment (comment_view c)
  entry_view (of.GroupComment c) = t.group_comment (comment_view c)
  entry_view (of.ResourceComment c) = t.resource_comment (comment_view c)
  entry_view (of.Junk s) = t.junk (text_of s)

  -- the plain entries of a tree
  abbrev pub resource_view : Resource S → List t.Entry
  resource_view r = map entry_view r.body.items
