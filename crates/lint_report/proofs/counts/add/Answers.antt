use Rattle.std.proofs.Common.{arith}
use Rattle.std.proofs.lemmas.Grind.{text_counts}
use Rattle.lint_report.proofs.counts.add.Goals as goal

pub returns-in-Some : goal.returns-in-Some
returns-in-Some c = λ q. grind (arith, text_counts)
