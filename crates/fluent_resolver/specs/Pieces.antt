-- What is written to a program's own writer, piece by piece.
use Rattle.std.specs.Prelude.{◌≡◌, ℕ, OnErr, OnOk, Result}
use Rattle.fluent_ast.specs.declared.Expression.{Expression}
use Rattle.fluent_ast.specs.declared.Pattern.{Pattern}
use Rattle.fluent_grammar.specs.Words.{Text}
use Rattle.fluent_meaning.specs.Refused as some
use Rattle.fluent_meaning.specs.Steps.{Budget, Done}
use Rattle.fluent_meaning.specs.Told as told
use Rattle.fluent_progress.specs.Depth.{PastOnErr, open_in}
use Rattle.fluent_progress.specs.Views.{entered_in, state}
use Rattle.fluent_progress.specs.declared.context.Context.{Ghosts as Context}
use Rattle.fluent_progress.specs.declared.place.Surroundings.{Surroundings}
use Rattle.fluent_progress.specs.declared.progress.Progress.{Progress}
use Rattle.fluent_resolver.specs.Nested.{pattern_takes, placeable_takes}
use Rattle.fluent_resolver.specs.Steps.{pattern_step, placeable}
use Rattle.fluent_value.specs.declared.custom.FluentType.{Ghosts as Custom}
use Rattle.fluent_value.specs.declared.scope.ValueScope.{Ghosts as Scope}
use denote.Ref.{Bor}

-- On Ok the step was written after what the writer held, the same patterns are being written, and as much of the stack is
-- open. On Err a beginning of its text was, and if it gave up for depth, it takes more bytes than were left.
pub record ResolvesTo {W T E : Type 0} (text : W → Text) (result : Result T E) (held now : W) (old new : Progress)
    (step : Progress → Budget → Done Text) (takes : Progress → ℕ → Type 0) : Type 0 where
  pub wrote : OnOk result (told.Writes (text held) (text now) (state old) (state new) (step old))
  pub refused : OnErr result (some.WritesSome (text held) (text now) (state old) (state new) (step old))
  pub path : OnOk result (entered_in new ≡ entered_in old)
  pub stack : OnOk result (open_in new.stack ≡ open_in old.stack)
  pub deep : PastOnErr result old new takes

module _ {C F E S : Type 0} {c : Custom C S} {e : Context E C F S} {v : Scope E C S} {W T X : Type 0} (text : W → Text) (result : Result T X) (held now : W) (place : Surroundings C F E S c e v) (old new : Progress) where
  -- a call wrote a pattern
  abbrev pub WritesPieces : Pattern (Bor Text) → Type 0
  WritesPieces pattern = ResolvesTo text result held now old new (pattern_step place pattern) (pattern_takes place pattern)

  -- it wrote a placeable of a pattern
  abbrev pub WritesPiece : Pattern (Bor Text) → Expression (Bor Text) → Type 0
  WritesPiece whole expression =
      ResolvesTo text result held now old new (placeable place whole expression) (placeable_takes place whole expression)
