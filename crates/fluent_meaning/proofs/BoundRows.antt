-- The bounds on the patterns that one answer enters are met, so none of them can be less.
use Rattle.std.specs.Prelude.{◌≡◌, refl, ℕ, ◌*◌, false, [], ◌∷◌, Some, None, codes}
use Rattle.fluent_grammar.specs.Tree as t
use Rattle.fluent_grammar.specs.Tree.{Elements, Expression}
use Rattle.fluent_number.specs.Plurals.{english}
use Rattle.fluent_value.specs.Value.{error}
use Rattle.fluent_meaning.specs.Environment.{Environment}
use Rattle.fluent_meaning.specs.Ids.{Ids, message, find}
use Rattle.fluent_meaning.specs.Same.{same_elements}
use Rattle.fluent_meaning.specs.Steps.{shut}
use Rattle.fluent_meaning.specs.Substitution.{expression_with, elements_with, pattern_at, pattern_written, formatted, expression_written, outset}
use Rattle.fluent_meaning.specs.Work.{most_entered}
use Rattle.fluent_meaning.specs.WorkLaws.{most_with_expression}

-- m = a
abbrev one_message : Ids ℕ
one_message = (codes "m", message (record { id = codes "m"; value = Some (t.text (codes "a") t.no_elements); attributes = []; comment = None })) ∷ []

abbrev around : Environment ℕ ℕ
around = record {
  find = find one_message;
  call = λ f positional named. error;
  isolating = false;
  transformed = λ s. s;
  formatted = λ v. None;
  plurals = english;
  shown = λ n. [];
}

-- { m }
abbrev reference : Expression
reference = t.inline (t.message_reference (codes "m") None)

-- { m }{ m }
abbrev twice : Elements
twice = t.placeable reference (t.placeable reference t.no_elements)

pattern_meets : (formatted around 2 [] twice).entered ≡ most_entered one_message twice 2
unfolding same_elements expression_with elements_with pattern_at pattern_written
pattern_meets = refl

three_entered : (formatted around 2 [] twice).entered ≡ 3
unfolding same_elements expression_with elements_with pattern_at pattern_written
three_entered = refl

shut_expression_meets : (expression_written around reference (outset []) shut).entered ≡ 1 * most_with_expression one_message reference
unfolding same_elements expression_with elements_with pattern_at pattern_written
shut_expression_meets = refl

one_entered : (expression_written around reference (outset []) shut).entered ≡ 1
unfolding same_elements expression_with elements_with pattern_at pattern_written
one_entered = refl
