-- The sources before the index are UTF-8.
use Rattle.std.proofs.Common.{take}
use Rattle.fluent_c.specs.Answering.{AreUtf8}
use Rattle.fluent_c.proofs.answering.are_utf8.Given as goal

abbrev pub invariant-loop-source : goal.invariant-loop-source
invariant-loop-source l = AreUtf8 (take l.source-index l.sources)
