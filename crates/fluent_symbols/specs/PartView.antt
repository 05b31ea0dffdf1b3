-- What is found in the parts of a pattern, as code has them.
use Rattle.std.specs.Prelude.{List, Option, option_map}
use denote.Ref.{Bor}
use Rattle.fluent_ast.specs.Borrowed.{arguments_of, elements_of, expression_of, inline_of, maybe_arguments_of, name_of, named_of, positional_of, variants_of}
use Rattle.fluent_ast.specs.declared.CallArguments.{CallArguments}
use Rattle.fluent_ast.specs.declared.Expression.{Expression}
use Rattle.fluent_ast.specs.declared.Identifier.{Identifier}
use Rattle.fluent_ast.specs.declared.InlineExpression.{InlineExpression}
use Rattle.fluent_ast.specs.declared.NamedArgument.{NamedArgument}
use Rattle.fluent_ast.specs.declared.Pattern.{Pattern}
use Rattle.fluent_ast.specs.declared.Variant.{Variant}
use Rattle.fluent_grammar.specs.Words.{Text}
use Rattle.fluent_symbols.specs.OccurrenceView.{label, label_if}
use Rattle.fluent_symbols.specs.Occurrences as o
use Rattle.fluent_symbols.specs.declared.occurrence.Owner.{Owner}

abbrev pub name_if : Option (Identifier (Bor Text)) → Option Text
name_if name = option_map name_of name

abbrev pub found_in_attribute : Owner → Option (Identifier (Bor Text)) → Text → List o.Occurrence
found_in_attribute owner name s = o.attribute_named (label owner) (name_if name) s

abbrev pub found_in_pattern : Owner → Pattern (Bor Text) → Text → List o.Occurrence
found_in_pattern owner pattern s = o.in_pattern (label owner) (elements_of pattern) s

abbrev pub found_in_expression : Owner → Expression (Bor Text) → Text → List o.Occurrence
found_in_expression owner part s = o.in_expression (label owner) (expression_of part) s

abbrev pub found_in_variants : Owner → List (Variant (Bor Text)) → Text → List o.Occurrence
found_in_variants owner variants s = o.in_variants (label owner) (variants_of variants) s

abbrev pub found_in_inline : Owner → InlineExpression (Bor Text) → Text → List o.Occurrence
found_in_inline owner inline s = o.in_inline (label owner) (inline_of inline) s

abbrev pub found_in_call : Owner → Owner → Option (CallArguments (Bor Text)) → Text → List o.Occurrence
found_in_call owner callee call s = o.in_call (label owner) (label callee) (maybe_arguments_of call) s

abbrev pub found_in_arguments : Owner → Option Owner → CallArguments (Bor Text) → Text → List o.Occurrence
found_in_arguments owner callee call s = o.in_arguments (label owner) (label_if callee) (arguments_of call) s

abbrev pub found_in_positional : Owner → List (InlineExpression (Bor Text)) → Text → List o.Occurrence
found_in_positional owner given s = o.in_inlines (label owner) (positional_of given) s

abbrev pub found_in_named : Owner → Option Owner → List (NamedArgument (Bor Text)) → Text → List o.Occurrence
found_in_named owner callee given s = o.in_nameds (label owner) (label_if callee) (named_of given) s
