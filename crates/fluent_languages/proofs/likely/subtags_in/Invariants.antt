use Rattle.std.proofs.Common.{◌≡◌, drop, map}
use Rattle.fluent_languages.specs.Tags.{small}
use Rattle.fluent_languages.specs.Likely.{region_in, script_in, likely_of}
use Rattle.fluent_languages.proofs.likely.subtags_in.Given as goal

-- none of the rows before this one fits
abbrev pub invariant-loop-row : goal.invariant-loop-row
invariant-loop-row l = record {
  script : script_in (map likely_of (drop l.row-index l.rows)) (small l.language) ≡ script_in (map likely_of l.rows) (small l.language);
  region : region_in (map likely_of (drop l.row-index l.rows)) (small l.language) ≡ region_in (map likely_of l.rows) (small l.language);
}
