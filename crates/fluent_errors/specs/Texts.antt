-- The texts of errors.
use Rattle.std.specs.Prelude.{ℕ, List, ◌++◌, None, Some, codes}
use Rattle.fluent_parsed.specs.ErrorView.{ErrorView, kind_name}
use Rattle.fluent_errors.specs.Errors.{Kind, message, term, function, Reference, to_function, to_message, to_term, to_variable, Unresolved, unknown, no_value, missing_default, cyclic, too_many_placeables, Reported, overriding, damaged, unresolved}

abbrev pub entry_text : Kind → List ℕ
entry_text message = codes "message"
entry_text term = codes "term"
entry_text function = codes "function"

-- that nothing of this kind and name is known
abbrev pub reference_text : Reference → List ℕ
reference_text (to_function id) = codes "Unknown function: " ++ (id ++ codes "()")
reference_text (to_message id None) = codes "Unknown message: " ++ id
reference_text (to_message id (Some attr)) = codes "Unknown attribute: " ++ (id ++ (codes "." ++ attr))
reference_text (to_term id None) = codes "Unknown term: -" ++ id
reference_text (to_term id (Some attr)) = codes "Unknown attribute: -" ++ (id ++ (codes "." ++ attr))
reference_text (to_variable id) = codes "Unknown variable: $" ++ id

abbrev pub resolver_text : Unresolved → List ℕ
resolver_text (unknown reference) = reference_text reference
resolver_text (no_value id) = codes "No value: " ++ id
resolver_text missing_default = codes "No default"
resolver_text cyclic = codes "Cyclical dependency detected"
resolver_text too_many_placeables = codes "Too many placeables"

-- an error of a source shows the name of its kind
abbrev pub bundle_text : Reported → List ℕ
bundle_text (overriding kind id) = codes "Attempt to override an existing " ++ (entry_text kind ++ (codes ": \"" ++ (id ++ codes "\".")))
bundle_text (damaged error) = codes "Parser error: " ++ kind_name error.kind
bundle_text (unresolved error) = codes "Resolver error: " ++ resolver_text error
