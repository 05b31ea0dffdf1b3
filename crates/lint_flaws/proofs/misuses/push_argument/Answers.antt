use Rattle.fluent_ast.specs.Borrowed.{inline_of}
use Rattle.lint_findings.specs.Misuses.{argument_misuse, misuse_remark}
use Rattle.lint_flaws.specs.BuiltinView.{builtin_view}
use Rattle.lint_flaws.proofs.Said.{none_added, some_added}
use Rattle.lint_flaws.proofs.misuses.push_argument.Goals as goal

pub returns-in_ok-push-in-Some : goal.returns-in_ok-push-in-Some
returns-in_ok-push-in-Some c =
    some_added misuse_remark c.args.found.now.items (argument_misuse (builtin_view c.args.row.now) c.args.name.now (inline_of c.args.value.now)) c.in_ok-misuse.field-0 c.in-Some.misuse _
    c.in_ok-misuse.ensures c.in-Some.is c.in_ok-push-in-Some.ensures.items

pub returns-in-None : goal.returns-in-None
returns-in-None c =
    none_added misuse_remark c.args.found.now.items (argument_misuse (builtin_view c.args.row.now) c.args.name.now (inline_of c.args.value.now)) c.in_ok-misuse.field-0
    c.in_ok-misuse.ensures c.in-None.is
