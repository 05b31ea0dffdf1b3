-- Steps of writing, of which the last may fail.
use Rattle.std.proofs.Common.{◌≡◌, List, ◌++◌, Result, Ok, Err, OnOk, subst, sym}
use Rattle.fluent_grammar.specs.Words.{Text}
use Rattle.fluent_grammar.specs.Written.{Sign, onto}
use Rattle.fluent_grammar.proofs.LaidOut.{onto-then}

-- a step and what follows it
pub onto-finish : {T E : Type 0} (before after : Text) (first then : List Sign) {between : Text} (r : Result T E) → between ≡ onto before first → OnOk r (after ≡ onto between then) → OnOk r (after ≡ onto before (first ++ then))
onto-finish before after first then (Ok x) one two = onto-then before first then one two
onto-finish before after first then (Err e) one two = two

-- the signs of a node, for what is seen as that node
pub onto-of : {T E N : Type 0} (signs : N → List Sign) (before after : Text) (r : Result T E) {seen node : N} → seen ≡ node → OnOk r (after ≡ onto before (signs node)) → OnOk r (after ≡ onto before (signs seen))
onto-of signs before after r is done = subst (λ n. OnOk r (after ≡ onto before (signs n))) (sym is) done
