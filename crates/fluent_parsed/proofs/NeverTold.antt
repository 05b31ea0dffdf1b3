-- No error of a source is for a message's attribute as selector: no kind of the grammar tells of it.
use Rattle.std.proofs.Common.{◌≢◌, List, [], ◌∷◌, map}
use Rattle.std.specs.Prelude.{All}
use Rattle.std.proofs.lemmas.List.Elements.{All-nil, All-cons}
use Rattle.fluent_grammar.specs.Refusal as r
use Rattle.fluent_grammar.specs.Tiling.{ParserError, errors, runtime_errors}
use Rattle.fluent_parsed.specs.ErrorView.{told, message_attribute_as_selector, error_told}
use Rattle.fluent_parsed.specs.ErrorLaws.{IsForNoAttribute, MessageAttributesMaySelect}

never_told : (k : r.Kind) → told k ≢ message_attribute_as_selector
never_told (r.expected_token c) h = cc
never_told _ h = cc

none_of_them : (es : List ParserError) → All IsForNoAttribute (map error_told es)
none_of_them [] = All-nil IsForNoAttribute
none_of_them (e ∷ es) = All-cons IsForNoAttribute (error_told e) (map error_told es) (never_told e.kind) (none_of_them es)

pub message_attributes_may_select : MessageAttributesMaySelect
message_attributes_may_select source = record { full = none_of_them (errors source); runtime = none_of_them (runtime_errors source) }
