use Rattle.std.proofs.Common.{◌≡◌, drop}
use Rattle.std.specs.Option.{option_copied}
use Rattle.fluent_bundle.specs.Localization.{answer_there, reply, first_there}
use Rattle.fluent_bundle.proofs.localization.format_first.Given as goal

-- none of the bundles before this one has it, and nothing was reported
abbrev pub invariant-loop-position : goal.invariant-loop-position
invariant-loop-position g l = record {
  answer : first_there (answer_there g.T.TextTransform.transformed l.args (option_copied l.name) l.id) (drop l.position l.bundles) l.position
      ≡ reply g.T.TextTransform.transformed l.args (option_copied l.name) l.bundles l.id;
  errors : l.errors ≡ l.initial.errors;
}
