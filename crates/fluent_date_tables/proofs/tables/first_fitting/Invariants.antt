use Rattle.std.proofs.Common.{◌≡◌, drop}
use Rattle.fluent_date_tables.specs.Tables.{first_of, tags_of}
use Rattle.fluent_date_tables.proofs.tables.first_fitting.Given as goal

-- none of the tags before this one fits
abbrev pub invariant-loop-tagged : goal.invariant-loop-tagged
invariant-loop-tagged l = first_of (tags_of (drop l.tagged-index l.tags)) l.text ≡ first_of (tags_of l.tags) l.text
