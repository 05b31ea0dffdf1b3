use Rattle.std.proofs.Common.{arith}
use Rattle.std.proofs.lemmas.Str.Pattern.{strip_prefix_char}
use Rattle.std.specs.Prelude.{None}
use Rattle.fluent_grammar.specs.Words.{comma}
use Rattle.lint_report.proofs.Commas.{none_is}
use Rattle.lint_report.proofs.listed.without_first_comma.Goals as goal

pub returns-in-None : goal.returns-in-None
returns-in-None c =
    none_is c.args.items.now (strip_prefix_char comma c.args.items.now None c.in-None.ensures.cases (omega arith))
