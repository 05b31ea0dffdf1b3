-- The first tag of a text, as the code looks for it.
use Rattle.std.specs.Prelude.{◌≡◌, ℕ, ◌<◌, [], ◌∷◌, length, take, Option, Some, None}
use denote.Ref.{Bor}
use Rattle.fluent_grammar.specs.Words.{Text}
use Rattle.fluent_tokens.specs.Counted.{Cuts}
use Rattle.lint_findings.specs.Numbers.{plain_parts}

-- the first part of a text, before what follows the first tag
pub record IsPart (s : Text) (place : ℕ) (after : Text) : Type 0 where
  pub parts : plain_parts s ≡ take place s ∷ plain_parts after
  pub shorter : length after < length s
  pub cuts : Cuts s place

abbrev pub IsFirstTag : Text → Option (ℕ × Bor Text) → Type 0
IsFirstTag s None = plain_parts s ≡ s ∷ []
IsFirstTag s (Some p) = IsPart s p.0 p.1.now
