-- What a source that is refused shows of all of them.
use Rattle.std.proofs.Common.{◌≡◌, ◌∙◌, Result, Ok, Err, IfErr, sym}
use Rattle.core.specs.Result.{IsErrAnd}
use Rattle.fluent_c.specs.declared.answering.Refusal.{Refusal}
use Rattle.fluent_c.specs.declared.answering.Refusal.TheVariants.{NotUtf8}

-- a `?` hands a callee's refusal on
pub handed_on : {T : Type 0} {e : Refusal} {P Q : Type 0} (r : Result T Refusal) → IsErrAnd r (λ y. y ≡ e) → (e ≡ NotUtf8 → P) → (P → Q) → IfErr r (λ y. y ≡ NotUtf8 → Q)
handed_on (Ok x) is p q = tt
handed_on (Err y) is p q = λ other. q (p (sym is ∙ other))
