use Rattle.std.proofs.Common.{◌≡◌, ℕ, List, ◌++◌, map}
use Rattle.std.specs.Fmt.{HasWritten, IsPlainFormatter}
use Rattle.std.specs.Str.Iter.{chars_rest}
use Rattle.fluent_languages.specs.Tags.{small}
use Rattle.std.specs.Char.{to_ascii_uppercase}
use Rattle.fluent_languages.proofs.canonical.write_capitals.Given as goal

-- what was written, and what the letters that are left will add, is the whole
abbrev pub invariant-loop-letter : goal.invariant-loop-letter
invariant-loop-letter g l =
    IsPlainFormatter l.fn.f
    → (done : List ℕ) × HasWritten g.W.Write.write_str_gives l.fn.f done l.f × (done ++ map to_ascii_uppercase (small (chars_rest l.letter-iterator)) ≡ map to_ascii_uppercase (small l.fn.part))
