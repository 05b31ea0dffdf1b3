-- What calls write.
use Rattle.std.specs.Prelude.{◌≡◌, List, ◌++◌, Vec, ℕ, vec_items}
use Rattle.std.specs.Global.{Global}
use Rattle.fluent_grammar.specs.Words.{Text}
use Rattle.json.specs.Token.{Token}
use Rattle.json.specs.Written.{Written}

-- the tokens are written after the others, and what was there before any stays
pub record WritesAll (old new : Written) (ts : List Token) : Type 0 where
  pub before : new.before ≡ old.before
  pub tokens : new.tokens ≡ old.tokens ++ ts

-- the text is added after what was there
abbrev pub AddsText : Vec ℕ Global → Vec ℕ Global → Text → Type 0
AddsText old new text = vec_items new ≡ vec_items old ++ text
