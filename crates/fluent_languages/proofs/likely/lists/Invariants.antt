use Rattle.std.proofs.Common.{◌≡◌, drop, map}
use Rattle.fluent_languages.specs.Tags.{small}
use Rattle.fluent_languages.specs.Likely.{is_listed, grouped_of}
use Rattle.fluent_languages.proofs.likely.lists.Given as goal

abbrev pub invariant-loop-row : goal.invariant-loop-row
invariant-loop-row l = is_listed (map grouped_of (drop l.row-index l.rows)) (small l.language) (small l.region) ≡ is_listed (map grouped_of l.rows) (small l.language) (small l.region)
