use Rattle.std.proofs.Common.{◌≡◌, drop, map}
use Rattle.fluent_languages.specs.Tags.{small}
use Rattle.fluent_languages.specs.Likely.{has_groups, grouped_of}
use Rattle.fluent_languages.proofs.likely.lists_language.Given as goal

abbrev pub invariant-loop-row : goal.invariant-loop-row
invariant-loop-row l = has_groups (map grouped_of (drop l.row-index l.rows)) (small l.language) ≡ has_groups (map grouped_of l.rows) (small l.language)
