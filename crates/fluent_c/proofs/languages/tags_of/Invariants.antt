use Rattle.std.proofs.Common.{◌≡◌, take}
use Rattle.fluent_languages.specs.Tags.{texts}
use Rattle.fluent_c.specs.Answering.{texts_of}
use Rattle.fluent_c.proofs.languages.tags_of.Given as goal

abbrev pub invariant-loop-source : goal.invariant-loop-source
invariant-loop-source l = texts l.tags.items ≡ texts_of (take l.source-index l.sources)
