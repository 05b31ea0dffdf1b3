-- What calls write, each by its step and by how many bytes of the stack it takes.
use Rattle.std.specs.Prelude.{Result, String}
use Rattle.std.specs.Global.{Global, Vec}
use Rattle.fluent_ast.specs.declared.Expression.{Expression}
use Rattle.fluent_ast.specs.declared.InlineExpression.{InlineExpression}
use Rattle.fluent_ast.specs.declared.Pattern.{Pattern}
use Rattle.fluent_ast.specs.declared.Variant.{Variant}
use Rattle.fluent_grammar.specs.Words.{Text}
use Rattle.fluent_progress.specs.declared.context.Context.{Ghosts as Context}
use Rattle.fluent_progress.specs.declared.place.Surroundings.{Surroundings}
use Rattle.fluent_progress.specs.declared.progress.Progress.{Progress}
use Rattle.fluent_progress.specs.declared.target.Target.{Target}
use Rattle.fluent_resolver.specs.Nested.{expression_takes, inline_takes, outcome_takes, pattern_takes, placeable_takes, reference_takes, select_takes}
use Rattle.fluent_resolver.specs.Resolves.{Resolves}
use Rattle.fluent_resolver.specs.Steps.{expression_step, inline_step, inside, outcome, pattern_step, placeable, reference, select}
use Rattle.fluent_value.specs.declared.custom.FluentType.{Ghosts as Custom}
use Rattle.fluent_value.specs.declared.scope.ValueScope.{Ghosts as Scope}
use denote.Ref.{Bor}

module _ {C F E S T X : Type 0} {c : Custom C S} {e : Context E C F S} {v : Scope E C S} (result : Result T X) (held now : String Global) (place : Surroundings C F E S c e v) (old new : Progress) where
  -- a call wrote a pattern
  abbrev pub WritesPattern : Pattern (Bor Text) → Type 0
  WritesPattern pattern = Resolves result held now old new (pattern_step place pattern) (pattern_takes place pattern)

  -- it wrote a placeable of a pattern, and the inside of one
  abbrev pub WritesPlaceable : Pattern (Bor Text) → Expression (Bor Text) → Type 0
  WritesPlaceable whole expression =
      Resolves result held now old new (placeable place whole expression) (placeable_takes place whole expression)

  abbrev pub WritesInside : Pattern (Bor Text) → Expression (Bor Text) → Type 0
  WritesInside whole expression =
      Resolves result held now old new (inside place whole expression) (placeable_takes place whole expression)

  -- it wrote what a reference means, and a pattern that an expression refers to
  abbrev pub WritesTarget : InlineExpression (Bor Text) → Target → Type 0
  WritesTarget inline target = Resolves result held now old new (outcome place inline target) (outcome_takes place target)

  abbrev pub WritesReference : InlineExpression (Bor Text) → Pattern (Bor Text) → Type 0
  WritesReference inline pattern =
      Resolves result held now old new (reference place inline pattern) (reference_takes place pattern)

  -- it wrote an expression, a select, and an inline expression
  abbrev pub WritesExpression : Expression (Bor Text) → Type 0
  WritesExpression expression =
      Resolves result held now old new (expression_step place expression) (expression_takes place expression)

  abbrev pub WritesSelect : InlineExpression (Bor Text) → Vec (Variant (Bor Text)) → Type 0
  WritesSelect selector variants =
      Resolves result held now old new (select place selector variants) (select_takes place selector variants)

  abbrev pub WritesInline : InlineExpression (Bor Text) → Type 0
  WritesInline inline = Resolves result held now old new (inline_step place inline) (inline_takes place inline)
