use Rattle.std.proofs.Common.{◌≡◌, ◌++◌, drop, string_bytes}
use Rattle.fluent_dates.specs.Numbers.{natives}
use Rattle.fluent_dates.proofs.numbers.push_digits.Given as goal

-- the digits that are left make the text whole
abbrev pub invariant-loop-digit : goal.invariant-loop-digit
invariant-loop-digit l =
    string_bytes l.text ++ natives l.glyphs (drop l.digit-index l.digits) ≡ string_bytes l.initial.text ++ natives l.glyphs l.digits
