use Rattle.std.proofs.Common.{◌≡◌, drop, map}
use Rattle.fluent_languages.specs.Tags.{small}
use Rattle.fluent_languages.specs.Likely.{alias_of, aliased_of}
use Rattle.fluent_languages.proofs.likely.alias_row.Given as goal

abbrev pub invariant-loop-row : goal.invariant-loop-row
invariant-loop-row l = alias_of (map aliased_of (drop l.row-index l.rows)) (small l.language) ≡ alias_of (map aliased_of l.rows) (small l.language)
