use Rattle.std.proofs.Common.{◌≡◌, false, sym, rules}
use Rattle.lint_findings.specs.Typing.{counts}
use Rattle.lint_texts.specs.Spaces.{has_two_spaces}
use Rattle.lint_texts.proofs.FirstLooks.{lacks_spaces}
use Rattle.lint_texts.proofs.spaces.first_double.Goals as goal

pub returns-else-has_two_spaces : goal.returns-else-has_two_spaces
returns-else-has_two_spaces c =
    let lacking : has_two_spaces false c.args.text.now ≡ false = search rules in
    sym (lacks_spaces (counts c.args.all) false false c.args.text.now lacking)
