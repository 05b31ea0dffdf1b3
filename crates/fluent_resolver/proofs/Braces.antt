-- An expression without the braces around it is written as with them.
use Rattle.std.proofs.Common.{◌≡◌, ◌∙◌, ◌≤◌, suc, refl, sym, arith}
use Rattle.std.proofs.Math.Nat.{le_refl}
use Rattle.fluent_grammar.specs.Tree as t
use Rattle.fluent_meaning.proofs.Equations.{expression-inline, inline-nested}
use Rattle.fluent_meaning.specs.Environment.{Environment}
use Rattle.fluent_meaning.specs.Steps.{Budget}
use Rattle.fluent_meaning.specs.Substitution as s
use Rattle.fluent_meaning.specs.Weight.{expression_weight, inline_weight}
use Rattle.fluent_progress.specs.Braces.{innermost, unbraced}

module _ {S F : Type 0} (env : Environment S F) (place : s.Surroundings S) (b : Budget) where
  mutual
    pub innermost-written : (e : t.Expression) → s.expression_written env (innermost e) place b ≡ s.expression_written env e place b
    innermost-written (t.select i vs) = refl
    innermost-written (t.inline i) = unbraced-written i ∙ sym (expression-inline env place b i)

    unbraced-written : (i : t.Inline) → s.expression_written env (unbraced i) place b ≡ s.inline_written env i place b
    unbraced-written (t.string_literal x) = expression-inline env place b (t.string_literal x)
    unbraced-written (t.number_literal x) = expression-inline env place b (t.number_literal x)
    unbraced-written (t.function_reference x a) = expression-inline env place b (t.function_reference x a)
    unbraced-written (t.message_reference x a) = expression-inline env place b (t.message_reference x a)
    unbraced-written (t.term_reference x a g) = expression-inline env place b (t.term_reference x a g)
    unbraced-written (t.variable_reference x) = expression-inline env place b (t.variable_reference x)
    unbraced-written (t.nested e) = innermost-written e ∙ sym (inline-nested env place b e)

-- and it weighs no more
mutual
  unfolding expression_weight

  pub innermost-light : (e : t.Expression) → expression_weight (innermost e) ≤ expression_weight e
  innermost-light (t.select i vs) = le_refl (expression_weight (t.select i vs))
  innermost-light (t.inline i) = unbraced-light i

  unbraced-light : (i : t.Inline) → expression_weight (unbraced i) ≤ suc (inline_weight i)
  unbraced-light (t.string_literal x) = le_refl 2
  unbraced-light (t.number_literal x) = le_refl 2
  unbraced-light (t.function_reference x a) = le_refl (suc (inline_weight (t.function_reference x a)))
  unbraced-light (t.message_reference x a) = le_refl 2
  unbraced-light (t.term_reference x a g) = le_refl (suc (inline_weight (t.term_reference x a g)))
  unbraced-light (t.variable_reference x) = le_refl 2
  unbraced-light (t.nested e) = let less = innermost-light e in omega (arith, less)
