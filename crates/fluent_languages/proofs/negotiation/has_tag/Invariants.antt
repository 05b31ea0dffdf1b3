use Rattle.std.proofs.Common.{◌≡◌, drop}
use Rattle.fluent_languages.specs.Tags.{texts}
use Rattle.fluent_languages.specs.Negotiation.{is_among}
use Rattle.fluent_languages.proofs.negotiation.has_tag.Given as goal

abbrev pub invariant-loop-text : goal.invariant-loop-text
invariant-loop-text l = is_among (texts (drop l.text-index l.tags)) l.tag ≡ is_among (texts l.tags) l.tag
