use Rattle.std.proofs.Common.{◌≡◌, ◌≤◌, drop}
use Rattle.fluent_plurals.specs.Tags.{goes_on, is_tag}
use Rattle.fluent_plurals.proofs.tag.is_tag.Given as goal

-- what is left goes on with a tag exactly if the text is one
abbrev pub invariant-loop-byte : goal.invariant-loop-byte
invariant-loop-byte l = (goes_on l.is_first l.count (drop l.byte-index l.text) ≡ is_tag l.text) × (l.count ≤ 8)
