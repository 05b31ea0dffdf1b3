use Rattle.lint_findings.specs.Misuses.{misuse_remark, overruled_by}
use Rattle.lint_flaws.specs.BuiltinView.{builtin_view}
use Rattle.lint_flaws.proofs.Said.{none_added, some_added}
use Rattle.lint_flaws.proofs.misuses.push_component.Goals as goal

pub returns-in_ok-push-in-Some : goal.returns-in_ok-push-in-Some
returns-in_ok-push-in-Some c = λ e.
    some_added misuse_remark c.args.found.now.items (overruled_by (builtin_view c.args.row.now) c.args.style.now c.args.name.now e) c.in_ok-misuse.field-0 c.in-Some.misuse _
    (c.in_ok-misuse.ensures e) c.in-Some.is c.in_ok-push-in-Some.ensures.items

pub returns-in-None : goal.returns-in-None
returns-in-None c = λ e.
    none_added misuse_remark c.args.found.now.items (overruled_by (builtin_view c.args.row.now) c.args.style.now c.args.name.now e) c.in_ok-misuse.field-0
    (c.in_ok-misuse.ensures e) c.in-None.is
