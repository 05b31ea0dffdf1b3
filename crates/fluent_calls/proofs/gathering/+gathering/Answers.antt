use Rattle.std.proofs.Common.{rules, ◌≡◌, ap, ◌∙◌}
use Rattle.std.specs.Prelude.{string_bytes}
use Rattle.fluent_ast.specs.Borrowed.{name_of}
use Rattle.fluent_progress.specs.Views.{resolved_in}
use Rattle.fluent_run.specs.Dated.{dated_view}
use Rattle.fluent_calls.specs.GatheringView.{arguments_in}
use Rattle.fluent_calls.proofs.Gathered.{lines-of-known, lines-of-unknown, none-known, these-known}
use Rattle.fluent_calls.proofs.gathering.+gathering.Goals as goal
use Rattle.fluent_calls.proofs.gathering.+gathering.Goals.{gather_call-in-Some+in_ok-named-in-Some+in_ok-result-in-Some, gather_call-in-None}

pub gather_call-returns-clause-lines : goal.gather_call-returns-clause-lines
gather_call-returns-clause-lines g t c =
    let find = (resolved_in c.args.place.now).find in
    let given = arguments_in c.args.place.now in
    let table = dated_view c.args.answers.now in
    let id = name_of c.args.id.now in
    let held = string_bytes c.args.found.now in
    let positional = string_bytes c.gather_values.new.found in
    elim c.match-branch-3.branch [
      | gather_call-in-Some+in_ok-named-in-Some+in_ok-result-in-Some w ↦
          (let same : w.deref.result.now ≡ w.in-Some.positional.items = search rules in
          let known = these-known c.in_ok-positional.ensures.value w.in-Some.is same in
          ap string_bytes w.found-is
          ∙ lines-of-known find given table id c.args.arguments.now (string_bytes w.call_value.new.found) positional held known w.in_ok-named-in-Some.ensures c.in_ok-positional.ensures.lines w.in_ok-result-in-Some.ensures.lines)
      | gather_call-in-None w ↦
          (let unknown = none-known c.in_ok-positional.ensures.value w.in-None.is in
          ap string_bytes w.found-is ∙ lines-of-unknown find given table id c.args.arguments.now positional held unknown c.in_ok-positional.ensures.lines)
    ]
