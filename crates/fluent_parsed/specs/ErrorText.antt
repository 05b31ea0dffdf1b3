-- The text of what reading a source answers in the place of its tree.
use Rattle.std.specs.Prelude.{ℕ, List, codes}
use Rattle.fluent_parsed.specs.declared.error.Error.{Error}
use Rattle.fluent_parsed.specs.declared.error.Error.TheVariants.{Broken, Memory}

module _ (S : Type 0) where
  -- the text of each
  abbrev pub error_text : Error S → List ℕ
  error_text (Broken tree errors) = codes "the source has errors"
  error_text Memory = codes "out of memory"
