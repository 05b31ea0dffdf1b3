use Rattle.std.proofs.Common.{refl, arith}
use Rattle.lint_findings.proofs.Steps.{line_zero}
use Rattle.lint_findings.proofs.places.SourcePosition.start.Goals as goal

pub returns : goal.returns
returns c = λ source. record {
  within = omega arith;
  before = omega arith;
  begins = λ h. absurd (omega arith);
  position = refl;
  line_position = refl;
  line = line_zero source source;
}
