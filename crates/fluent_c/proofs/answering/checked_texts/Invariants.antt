-- The sources before the index are read.
use Rattle.std.proofs.Common.{◌≡◌, take}
use Rattle.fluent_serve.specs.Texts.{texts}
use Rattle.fluent_c.specs.Answering.{texts_of, AreUtf8}
use Rattle.fluent_c.proofs.answering.checked_texts.Given as goal

abbrev pub invariant-loop-source : goal.invariant-loop-source
invariant-loop-source l = record {
  read : texts l.read.items ≡ texts_of (take l.source-index l.sources);
  utf8 : AreUtf8 (take l.source-index l.sources);
}
