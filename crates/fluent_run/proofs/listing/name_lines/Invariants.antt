use Rattle.std.proofs.Common.{◌≡◌, ◌++◌, map, string_bytes}
use Rattle.fluent_ids.specs.AttributesLeft.{attributes_left}
use Rattle.fluent_ids.specs.MessageView.{message_of}
use Rattle.fluent_run.specs.Listing.{attribute_names, lines}
use Rattle.fluent_run.proofs.listing.name_lines.Given as goal

-- the lines so far and those of the attributes that are left are all lines
abbrev pub invariant-loop-attribute : goal.invariant-loop-attribute
invariant-loop-attribute l =
    string_bytes l.text ++ lines (map (λ a. a.id) (attributes_left l.attribute-iterator)) ≡ lines (attribute_names (message_of l.message))
