use Rattle.std.proofs.Common.{◌≡◌, map, take, string_bytes}
use Rattle.fluent_serve.specs.Texts.{texts}
use Rattle.fluent_kept.proofs.sources.borrow_texts.Given as goal

-- the texts so far
abbrev pub invariant-loop-text : goal.invariant-loop-text
invariant-loop-text l = texts l.borrowed.items ≡ map string_bytes (take l.text-index l.owned)
