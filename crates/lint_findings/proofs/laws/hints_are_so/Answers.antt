use Rattle.lint_findings.proofs.HintsAreSo.{difference_hints_are_so, fact_hints_are_so, flaw_hints_are_so}
use Rattle.lint_findings.proofs.MisusesAreTrue.{misuse_hints_are_so}
use Rattle.lint_findings.proofs.laws.hints_are_so.Goals as goal

pub returns : goal.returns
returns g c = record {
  flaws = flaw_hints_are_so;
  facts = fact_hints_are_so;
  misuses = misuse_hints_are_so;
  differences = difference_hints_are_so;
}
