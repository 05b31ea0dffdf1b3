-- What the settings of an environment make of texts, values and calls.
use Rattle.std.specs.Prelude.{List, Option, None, Some}
use Rattle.fluent_grammar.specs.Words.{Text}
use Rattle.fluent_meaning.specs.Ids.{Meaning, number_function, function, message, term}
use Rattle.fluent_value.specs.Builtins.{number_called}
use Rattle.fluent_value.specs.Value.{Value, error}

-- the text of a value by a formatter, if one is set and has one
abbrev pub formatted_by : {M G S : Type 0} → (G → M → Value S → Option Text) → M → Option G → Value S → Option Text
formatted_by formats plurals None value = None
formatted_by formats plurals (Some formatter) value = formats formatter plurals value

-- what becomes of a text, if anything is set that changes it
abbrev pub transformed_by : {T : Type 0} → (T → Text → Text) → Option T → Text → Text
transformed_by transformed None s = s
transformed_by transformed (Some transform) s = transformed transform s

-- what a function gives for positional values and named ones; what is no function gives an error
abbrev pub result_of : {S F : Type 0} → (F → List (Value S) → List (Text × Value S) → Value S) → Meaning F → List (Value S) → List (Text × Value S) → Value S
result_of gives number_function positional named = number_called positional named
result_of gives (function f) positional named = gives f positional named
result_of gives (message m) positional named = error
result_of gives (term m) positional named = error
