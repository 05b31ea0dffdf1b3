use Rattle.std.proofs.Common.{◌≡◌, drop}
use Rattle.fluent_date_tables.specs.Tables.{after_tag}
use Rattle.fluent_date_tables.proofs.tables.after.Given as goal

-- the rest of the text begins with what is left of the tag if the text begins with the tag
abbrev pub invariant-loop-byte : goal.invariant-loop-byte
invariant-loop-byte l = after_tag (drop l.byte-index l.tag) l.rest ≡ after_tag l.tag l.text
