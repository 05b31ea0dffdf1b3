-- What each function of resolving leaves, whether it succeeds or not.
use Rattle.std.specs.Prelude.{◌≡◌, ℕ, OnOk, Result, String}
use Rattle.std.specs.Global.{Global}
use Rattle.fluent_grammar.specs.Words.{Text}
use Rattle.fluent_meaning.specs.Steps.{Budget, Done}
use Rattle.fluent_progress.specs.Depth.{PastOnErr, open_in}
use Rattle.fluent_progress.specs.Resolves.{FindsOnOk, TellsOnErr, Writes}
use Rattle.fluent_progress.specs.Views.{entered_in}
use Rattle.fluent_progress.specs.declared.progress.Progress.{Progress}

-- On Ok the step was written after what was there before, the same patterns are being written, and as much of the stack is
-- open. On Err the first of the step's errors are reported, and if it gave up for depth, it takes more bytes than were left.
pub record Resolves {T E : Type 0} (result : Result T E) (held now : String Global) (old new : Progress)
    (step : Progress → Budget → Done Text) (takes : Progress → ℕ → Type 0) : Type 0 where
  pub wrote : Writes result held now old new step
  pub refused : TellsOnErr result old new step
  pub path : OnOk result (entered_in new ≡ entered_in old)
  pub stack : OnOk result (open_in new.stack ≡ open_in old.stack)
  pub deep : PastOnErr result old new takes

-- On Ok the result, seen by view, is what the step finds, and the rest is as for a step that is written.
pub record Evaluates {T E V : Type 0} (view : T → V) (result : Result T E) (old new : Progress)
    (step : Progress → Budget → Done V) (takes : Progress → ℕ → Type 0) : Type 0 where
  pub found : FindsOnOk view result old new step
  pub refused : TellsOnErr result old new step
  pub path : OnOk result (entered_in new ≡ entered_in old)
  pub stack : OnOk result (open_in new.stack ≡ open_in old.stack)
  pub deep : PastOnErr result old new takes
