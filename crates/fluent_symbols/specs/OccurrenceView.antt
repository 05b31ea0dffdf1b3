-- The plain occurrences that occurrences stand for.
use Rattle.std.specs.Prelude.{◌≡◌, Bool, List, [], ◌∷◌, ◌++◌, map, Option, option_map, Vec}
use Rattle.std.specs.Global.{Global}
use Rattle.fluent_grammar.specs.Words.{Text}
use Rattle.fluent_symbols.specs.Occurrences as o
use Rattle.fluent_symbols.specs.declared.occurrence.Occurrence.{Occurrence}
use Rattle.fluent_symbols.specs.declared.occurrence.Owner.{Owner}
use Rattle.fluent_symbols.specs.declared.occurrence.Symbol.{Symbol}
use Rattle.fluent_symbols.specs.declared.occurrence.SymbolKind.{SymbolKind}
use Rattle.fluent_symbols.specs.declared.occurrence.SymbolKind.TheVariants as kind

abbrev pub kind_view : SymbolKind → o.Kind
kind_view kind.Message = o.message
kind_view kind.Term = o.term
kind_view kind.Attribute = o.attribute
kind_view kind.Variable = o.variable
kind_view kind.Function = o.function

-- the id of a message or a term, a term's with its minus
abbrev pub label : Owner → Text
label owner = owner.sign.now ++ owner.id.now

abbrev pub label_if : Option Owner → Option Text
label_if owner = option_map label owner

abbrev pub symbol_view : Symbol → o.Symbol
symbol_view symbol =
    record { kind = kind_view symbol.kind; name = symbol.name.now; owner = label_if symbol.owner }

abbrev pub occurrence_view : Occurrence → o.Occurrence
occurrence_view x = record { symbol = symbol_view x.symbol; at = x.at.now; is_definition = x.is_definition }

-- these occurrences are added after the others
abbrev pub Adds : Vec Occurrence Global → Vec Occurrence Global → List o.Occurrence → Type 0
Adds old new added = map occurrence_view new.items ≡ map occurrence_view old.items ++ added

-- one is added: the symbol, the source from its name on, and whether it is defined there
abbrev pub AddsOne : Vec Occurrence Global → Vec Occurrence Global → Symbol → Text → Bool → Type 0
AddsOne old new symbol at is_definition =
    Adds old new (record { symbol = symbol_view symbol; at = at; is_definition = is_definition } ∷ [])
