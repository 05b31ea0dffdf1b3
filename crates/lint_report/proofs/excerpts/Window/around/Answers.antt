use Rattle.lint_report.proofs.Windows.{window_is, few_near}
use Rattle.lint_report.proofs.excerpts.Window.around.Goals as goal

pub overflow_sub-near : goal.overflow_sub-near
overflow_sub-near c = few_near c.args.rest.now c.first_characters-near.result c.first_characters-near.ensures

pub returns : goal.returns
returns c =
    window_is c.args.front.now c.args.rest.now c.first_characters-near.result c.last_characters-before.result c.first_characters-after.result
    c.utf8.front c.first_characters-near.ensures c.last_characters-before.ensures c.first_characters-after.ensures
