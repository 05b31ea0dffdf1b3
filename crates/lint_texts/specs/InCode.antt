-- What the code's pieces of texts stand for.
use Rattle.std.specs.Prelude.{◌≡◌, List, ◌++◌, map, string_bytes, Vec}
use Rattle.std.specs.Global.{Global}
use Rattle.lint_findings.specs.Addresses as addresses
use Rattle.lint_findings.specs.Doubts as doubts
use Rattle.lint_findings.specs.Numbers as numbers
use Rattle.lint_findings.specs.Placeholders as placeholders
use Rattle.lint_texts.specs.declared.addresses.Address.{Address}
use Rattle.lint_texts.specs.declared.ends.Sign.{Sign}
use Rattle.lint_texts.specs.declared.ends.Sign.TheVariants as sign
use Rattle.lint_texts.specs.declared.numbers.Number.{Number}
use Rattle.lint_texts.specs.declared.placeholders.Placeholder.{Placeholder}
use Rattle.lint_texts.specs.declared.spaces.Edge.{Edge}
use Rattle.lint_texts.specs.declared.spaces.Edge.TheVariants as edge

abbrev pub address_view : Address → addresses.Address
address_view a = record { host = string_bytes a.host; at = a.at.now }

abbrev pub placeholder_view : Placeholder → placeholders.Placeholder
placeholder_view p = record { name = p.name.now; at = p.at.now }

abbrev pub AddsAddresses : Vec Address Global → Vec Address Global → List addresses.Address → Type 0
AddsAddresses old new added = map address_view new.items ≡ map address_view old.items ++ added

abbrev pub AddsPlaceholders : Vec Placeholder Global → Vec Placeholder Global → List placeholders.Placeholder → Type 0
AddsPlaceholders old new added = map placeholder_view new.items ≡ map placeholder_view old.items ++ added

abbrev pub number_view : Number → numbers.Number
number_view n = record { digits = n.digits.now; at = n.at.now }

abbrev pub AddsNumbers : Vec Number Global → Vec Number Global → List numbers.Number → Type 0
AddsNumbers old new added = map number_view new.items ≡ map number_view old.items ++ added

abbrev pub sign_view : Sign → doubts.Sign
sign_view sign.Ellipsis = doubts.ellipsis
sign_view sign.Colon = doubts.colon_sign
sign_view sign.FullStop = doubts.full_stop

abbrev pub edge_view : Edge → doubts.Edge
edge_view edge.LostFirst = doubts.lost_first
edge_view edge.NewFirst = doubts.new_first
edge_view edge.LostLast = doubts.lost_last
edge_view edge.NewLast = doubts.new_last
