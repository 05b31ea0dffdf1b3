use Rattle.std.proofs.Common.{◌≡◌, take}
use Rattle.fluent_languages.specs.Tags.{texts}
use Rattle.fluent_languages.proofs.negotiation.bytes_of.Given as goal

abbrev pub invariant-loop-tag : goal.invariant-loop-tag
invariant-loop-tag l = texts l.bytes.items ≡ texts (take l.tag-index l.tags)
