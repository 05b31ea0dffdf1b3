-- What it says that resolving gave up for the depth of what it resolved.
use Rattle.std.specs.Prelude.{◌≡◌, ℕ, ◌+◌, ◌-◌, ◌<◌, Bool, true, false, [], OnErr, Option, Result}
use Rattle.fluent_grammar.specs.Tree.{Elements}
use Rattle.fluent_grammar.specs.Words.{Text}
use Rattle.fluent_meaning.specs.Ids.{Meaning}
use Rattle.fluent_progress.specs.Nesting.{TakesPattern}
use Rattle.fluent_progress.specs.declared.frames.Frames.{Frames}
use Rattle.fluent_progress.specs.declared.progress.Progress.{Progress}

-- how many bytes of the machine's stack are open, how many may be, and whether more than that were asked for
pub record Open : Type 0 where
  pub taken : ℕ
  pub budget : ℕ
  pub is_past : Bool

unfoldable pub open_in : Frames → Open
open_in frames = record { taken = frames.counted.taken; budget = frames.counted.budget.bytes; is_past = frames.is_past }

-- with so many bytes more open, and with so many closed
abbrev pub with_opened : ℕ → Open → Open
with_opened bytes o = record { taken = o.taken + bytes; budget = o.budget; is_past = o.is_past }

abbrev pub with_closed : ℕ → Open → Open
with_closed bytes o = record { taken = o.taken - bytes; budget = o.budget; is_past = o.is_past }

-- one of so many bytes is more than is left
pub record Past (takes : ℕ → Type 0) (o : Open) : Type 0 where
  pub bytes : ℕ
  pub takes_them : takes bytes
  pub past : o.budget < o.taken + bytes

-- if more was asked for than may be open, and not before, then one of so many bytes is more than was left
pub record IfPast (old new : Open) (takes : ℕ → Type 0) : Type 0 where
  pub if_past : new.is_past ≡ true → old.is_past ≡ false → Past takes old

-- on Err that is so
abbrev pub PastOnErr : {T E : Type 0} → Result T E → Progress → Progress → (Progress → ℕ → Type 0) → Type 0
PastOnErr result old new takes = OnErr result (IfPast (open_in old.stack) (open_in new.stack) (takes old))

-- a pattern takes more bytes at some place of it, and of those that it enters, than a budget has
pub record NestsPast {F : Type 0} (budget : ℕ) (find : Text → Option (Meaning F)) (pattern : Elements) : Type 0 where
  pub bytes : ℕ
  pub takes_them : TakesPattern find [] pattern bytes
  pub past : budget < bytes
