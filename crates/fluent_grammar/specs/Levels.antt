-- Readers of this many levels over any others.
use Rattle.std.specs.Prelude.{ℕ, zero, suc}
use Rattle.fluent_grammar.specs.Reading.{Readers, step}

-- this many levels, and below them these readers
abbrev pub levels : Readers → ℕ → Readers
levels bottom zero = bottom
levels bottom (suc n) = step (levels bottom n)
