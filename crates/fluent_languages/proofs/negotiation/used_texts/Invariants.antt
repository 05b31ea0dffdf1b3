use Rattle.std.proofs.Common.{◌≡◌, ◌++◌, drop}
use Rattle.fluent_languages.specs.Tags.{texts}
use Rattle.fluent_languages.specs.Negotiation.{texts_at}
use Rattle.fluent_languages.proofs.negotiation.used_texts.Given as goal

abbrev pub invariant-loop-position : goal.invariant-loop-position
invariant-loop-position l = texts l.used.items ++ texts_at (texts l.available) (drop l.position-index l.found) ≡ texts_at (texts l.available) l.found
