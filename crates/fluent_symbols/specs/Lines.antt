-- Occurrences as lines of JSON.
use Rattle.std.specs.Prelude.{ℕ, ◌-◌, List, [], ◌∷◌, ◌++◌, length, drop, Option, Some, None, codes, decimal}
use Rattle.std.specs.List.{flat_map}
use Rattle.json.specs.Print.{print}
use Rattle.json.specs.Token.{Token, begin_object, end_object, key, string, number, boolean, null}
use Rattle.fluent_grammar.specs.Words.{Text, line_feed}
use Rattle.fluent_symbols.specs.Occurrences.{Kind, message, term, attribute, variable, function, Occurrence, Symbol}

abbrev pub kind_text : Kind → Text
kind_text message = codes "message"
kind_text term = codes "term"
kind_text attribute = codes "attribute"
kind_text variable = codes "variable"
kind_text function = codes "function"

abbrev pub text_or_null : Option Text → Token
text_or_null None = null
text_or_null (Some s) = string s

-- the offset at which an end of a source of this length begins
abbrev pub offset_of : ℕ → Text → Token
offset_of len s = number (decimal (len - length s))

abbrev pub at_key : Text → Token → List Token
at_key name value = key name ∷ value ∷ []

-- the members of a symbol
abbrev pub symbol_tokens : Symbol → List Token
symbol_tokens symbol =
    at_key (codes "kind") (string (kind_text symbol.kind))
    ++ (at_key (codes "name") (string symbol.name) ++ at_key (codes "owner") (text_or_null symbol.owner))

-- The object of an occurrence in a source of this length. The keys are in the order of their bytes.
abbrev pub occurrence_tokens : ℕ → Occurrence → List Token
occurrence_tokens len o =
    begin_object
    ∷ (at_key (codes "definition") (boolean o.is_definition)
    ++ (at_key (codes "end") (offset_of len (drop (length o.symbol.name) o.at))
    ++ (symbol_tokens o.symbol ++ (at_key (codes "start") (offset_of len o.at) ++ end_object ∷ []))))

-- its line
abbrev pub occurrence_line : ℕ → Occurrence → Text
occurrence_line len o = print (occurrence_tokens len o) ++ line_feed ∷ []

abbrev pub lines_of : ℕ → List Occurrence → Text
lines_of len os = flat_map (occurrence_line len) os
