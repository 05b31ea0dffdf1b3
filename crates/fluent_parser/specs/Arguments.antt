-- Arguments of calls that the parser has read.
use Rattle.std.specs.Prelude.{◌≡◌, ℕ, List, None, Result, Ok, Err}
use Rattle.fluent_grammar.specs.Refusal.{Reading}
use Rattle.fluent_grammar.specs.Tree as t
use Rattle.fluent_grammar.specs.Words.{Text}
use Rattle.fluent_grammar.specs.Reading.{name_of_argument}
use Rattle.fluent_ast.specs.declared.Identifier.{Identifier}
use Rattle.fluent_ast.specs.declared.InlineExpression.{InlineExpression}
use Rattle.fluent_parser.specs.declared.arguments.Argument.{Argument}
use Rattle.fluent_parser.specs.declared.arguments.Argument.TheVariants as argument
use Rattle.fluent_parser.specs.declared.named_arguments.NamedArguments.{NamedArguments}
use Rattle.fluent_parser.specs.Indexed.{names_in}
use Rattle.fluent_parser.specs.Reads.{argument_value_at}
use Rattle.fluent_parser.specs.Steps as s
use Rattle.fluent_ast.specs.View.{name_of, inline_view, named_view}

module _ (S : Type 0) (text_of : S → List ℕ) where
  -- an argument that was read, as plain data
  abbrev pub argument_view : Argument S → s.Argument
  argument_view (argument.Positional e) = s.positional (inline_view S text_of e)
  argument_view (argument.Named n name) = s.named (named_view S text_of n)

  -- an argument after named ones
  abbrev pub argument_with : NamedArguments S → Text → Reading s.Argument
  argument_with others rest = s.argument_by (names_in S text_of others) rest

  -- a positional argument after named ones
  abbrev pub positional_with : NamedArguments S → InlineExpression S → Text → Reading s.Argument
  positional_with others e rest = s.positional_by (names_in S text_of others) (inline_view S text_of e) rest

  -- the value of an argument of this name after named ones, from the colon on
  abbrev pub value_with : NamedArguments S → Text → Text → Reading t.Inline
  value_with others name rest = argument_value_at (names_in S text_of others) name rest

  -- the name beside a named argument is its name
  abbrev pub IsNamed : Argument S → Type 0
  IsNamed (argument.Positional e) = Unit {0}
  IsNamed (argument.Named n name) = (named_view S text_of n).name ≡ name.now

  -- the name of an expression that may be one, or the expression
  abbrev pub IsName : t.Inline → Result (Identifier S) (InlineExpression S) → Type 0
  IsName e (Ok id) = e ≡ t.message_reference (name_of S text_of id) None
  IsName e (Err back) = (inline_view S text_of back ≡ e) × (name_of_argument e ≡ None)
