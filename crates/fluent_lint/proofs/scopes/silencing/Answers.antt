use Rattle.std.proofs.Common.{◌≡◌, false, rules}
use Rattle.fluent_grammar.specs.Words.{begins_with, number_sign}
use Rattle.fluent_lint.proofs.Silencing.{no_comment}
use Rattle.fluent_lint.proofs.scopes.silencing.Goals as goal

pub returns-else-begins_with_sign : goal.returns-else-begins_with_sign
returns-else-begins_with_sign c =
    let none : begins_with number_sign c.args.line.now ≡ false = search rules in
    no_comment c.args.line.now none
