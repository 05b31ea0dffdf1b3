-- What is lent while a pattern is resolved, as plain data.
use Rattle.std.specs.Prelude.{List, Option, None}
use Rattle.fluent_ids.specs.Settings.{formatted_by, transformed_by}
use Rattle.fluent_grammar.specs.Words.{Text}
use Rattle.fluent_meaning.specs.Environment.{Environment}
use Rattle.fluent_progress.specs.declared.lent.BorrowedSettings.{BorrowedSettings}
use Rattle.fluent_value.specs.Matching.{Plurals}
use Rattle.fluent_value.specs.Value.{Value}

-- The plain environment, by what the program's own types mean: the text of a value of its own, what a function gives, what a
-- formatter answers, the categories of a plural source and how it shows values, and what a transform makes of a text. Messages and
-- terms are handed down beside it, so it knows none.
abbrev pub lent_view : {S M F G T : Type 0}
    (shown : S → Text) (gives : F → List (Value S) → List (Text × Value S) → Value S) (formats : G → M → Value S → Option Text)
    (category_of : M → Plurals) (stringified : M → (X : Type 0) → (X → Text) → X → Text) (transformed : T → Text → Text)
    → BorrowedSettings M G T → Environment S F
lent_view {S} shown gives formats category_of stringified transformed lent = record {
  find = λ id. None;
  call = gives;
  isolating = lent.isolating;
  transformed = transformed_by (λ it. transformed it.now) lent.transform;
  formatted = formatted_by (λ it. formats it.now) lent.plurals.now lent.formatter;
  plurals = category_of lent.plurals.now;
  shown = stringified lent.plurals.now S shown;
}
