-- What is found in the parts of an entry, as code has them.
use Rattle.std.specs.Prelude.{List, Option, option_map}
use denote.Ref.{Bor}
use Rattle.fluent_ast.specs.Borrowed.{attributes_of, elements_of}
use Rattle.fluent_ast.specs.declared.Attribute.{Attribute}
use Rattle.fluent_ast.specs.declared.Pattern.{Pattern}
use Rattle.fluent_grammar.specs.Tree as t
use Rattle.fluent_grammar.specs.Words.{Text}
use Rattle.lint_entries.specs.AttributePlaces.{value_elements}
use Rattle.fluent_symbols.specs.Entries.{in_attributes}
use Rattle.fluent_symbols.specs.OccurrenceView.{label}
use Rattle.fluent_symbols.specs.Occurrences.{Occurrence, in_pattern}
use Rattle.fluent_symbols.specs.declared.occurrence.Owner.{Owner}

-- the elements of a value, which a message may lack
abbrev pub elements_if : Option (Pattern (Bor Text)) → t.Elements
elements_if value = value_elements (option_map elements_of value)

abbrev pub found_in_value : Owner → Option (Pattern (Bor Text)) → Text → List Occurrence
found_in_value owner value s = in_pattern (label owner) (elements_if value) s

abbrev pub found_in_attributes : Owner → List (Attribute (Bor Text)) → Text → List Occurrence
found_in_attributes owner attributes s = in_attributes (label owner) (attributes_of attributes) s
