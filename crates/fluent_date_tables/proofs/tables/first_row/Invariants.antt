use Rattle.std.proofs.Common.{◌≡◌, drop}
use Rattle.fluent_date_tables.specs.Tables.{first_row}
use Rattle.fluent_date_tables.proofs.tables.first_row.Given as goal

-- none of the languages before this one has a tag that the text begins with
abbrev pub invariant-loop-family : goal.invariant-loop-family
invariant-loop-family l = first_row (drop l.family-index l.families) l.text ≡ first_row l.families l.text
