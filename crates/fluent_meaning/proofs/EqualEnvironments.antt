-- Environments that do the same are equal, so they give the same.
use Rattle.std.proofs.Common.{◌≡◌, ap}
use Rattle.fluent_meaning.specs.Environment.{Environment}
use Rattle.fluent_meaning.specs.EnvironmentLaws.{DoTheSame, EqualEnvironments}
use Rattle.fluent_meaning.specs.Substitution.{formatted}

pub one_environment : {S F : Type 0} (a b : Environment S F) → DoTheSame S F a b → a ≡ b
one_environment a b h = λ i. record {
  find = λ id. h.find id i;
  call = λ f values pairs. h.call f values pairs i;
  isolating = h.isolating i;
  transformed = λ s. h.transformed s i;
  formatted = λ v. h.formatted v i;
  plurals = λ rule operands. h.plurals rule operands i;
  shown = λ v. h.shown v i;
}

pub equal-environments : {S F : Type 0} → EqualEnvironments S F
equal-environments a b h k args es = ap (λ env. formatted env k args es) (one_environment a b h)
