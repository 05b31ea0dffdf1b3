use Rattle.std.proofs.Common.{◌≡◌, ℕ, List, ◌++◌, map}
use Rattle.std.specs.Fmt.{HasWritten, IsPlainFormatter}
use Rattle.fluent_languages.specs.Canonical.{all_dashed}
use Rattle.fluent_languages.specs.Tags.{small, variants_left}
use Rattle.fluent_languages.proofs.canonical.write_variants.Given as goal

-- what was written, and what the variants that are left will add, is the whole
abbrev pub invariant-loop-variant : goal.invariant-loop-variant
invariant-loop-variant g l =
    IsPlainFormatter l.fn.f
    → (done : List ℕ) × HasWritten g.W.Write.write_str_gives l.fn.f done l.f
    × (done ++ all_dashed (map small (variants_left l.variant-iterator)) ≡ all_dashed (map small (variants_left l.fn.variants)))
