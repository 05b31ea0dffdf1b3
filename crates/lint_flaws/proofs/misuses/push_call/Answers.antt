use Rattle.std.proofs.Common.{◌∙◌, sym, ap}
use Rattle.std.proofs.lemmas.Result.{on_ok_weaker}
use Rattle.fluent_ast.specs.Borrowed.{named_of}
use Rattle.lint_flaws.specs.BuiltinView.{builtin_view, found_builtin}
use Rattle.lint_flaws.proofs.Arguments.{call_added}
use Rattle.lint_flaws.proofs.misuses.push_call.Goals as goal

pub returns-in_ok-push_named-in-Some : goal.returns-in_ok-push_named-in-Some
returns-in_ok-push_named-in-Some c =
    on_ok_weaker c.push_beside.result
    (call_added c.args.id.now (named_of c.args.named.now) (builtin_view c.in-Some.row.now) c.args.found.now.items c.push_named.new.found.items
    c.push_beside.new.found.items (sym c.builtin_named.ensures ∙ ap found_builtin c.in-Some.is) c.in_ok-push_named-in-Some.ensures)
    c.push_beside.ensures
