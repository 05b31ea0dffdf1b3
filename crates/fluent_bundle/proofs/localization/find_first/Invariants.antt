use Rattle.std.proofs.Common.{◌≡◌, drop}
use Rattle.std.specs.Option.{option_copied}
use Rattle.fluent_bundle.specs.Localization.{first_pattern, first_there, pattern_there}
use Rattle.fluent_bundle.proofs.localization.find_first.Given as goal

-- none of the bundles before this one has it
abbrev pub invariant-loop-position : goal.invariant-loop-position
invariant-loop-position g l =
    first_there (pattern_there (option_copied l.name) l.id) (drop l.position l.bundles) l.position
    ≡ first_pattern (option_copied l.name) l.bundles l.id
