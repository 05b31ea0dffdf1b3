-- The texts before the index are copied.
use Rattle.std.proofs.Common.{◌≡◌, map, take, string_bytes}
use Rattle.fluent_serve.specs.Texts.{texts}
use Rattle.fluent_c.proofs.bundles.copied.Given as goal

abbrev pub invariant-loop-text : goal.invariant-loop-text
invariant-loop-text l = map string_bytes l.owned.items ≡ texts (take l.text-index l.borrowed)
