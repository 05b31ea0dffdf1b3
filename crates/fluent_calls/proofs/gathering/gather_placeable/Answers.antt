use Rattle.std.proofs.Common.{rules, ◌≡◌, [], ◌∷◌, false, ◌∙◌}
use Rattle.std.specs.Prelude.{string_bytes}
use Rattle.fluent_ast.specs.Borrowed.{expression_of, inline_of}
use Rattle.fluent_progress.specs.Views.{path_of, state}
use Rattle.fluent_meaning.specs.Steps.{opens}
use Rattle.fluent_calls.specs.Gathering.{is_plain_expression}
use Rattle.fluent_calls.specs.GatheringView.{lacking}
use Rattle.fluent_calls.proofs.Gathered.{ends-at, ends-shut, goes-plain, goes-resolved, left-inside, line-added, nothing-added}
use Rattle.fluent_calls.proofs.gathering.gather_placeable.Goals as goal

pub returns-then-not-branch : goal.returns-then-not-branch
returns-then-not-branch g c =
    let shut : false ≡ (opens (state c.args.progress.now).budget).value = search rules in
    record { calls = []; text = nothing-added _; gathers = λ es. ends-shut _ _ _ _ shut es }

pub returns-in-Some : goal.returns-in-Some
returns-in-Some g c =
    let opened = c.in_ok-open_placeable.ensures in
    record {
      calls = lacking c.args.place.now c.args.calls.now.answers.now (inline_of c.in-Some.inline.now);
      text = c.in_ok-gather_value.ensures.lines;
      gathers = λ es rest h. goes-plain _ _ _ _ c.in-Some.ensures.0 c.in-Some.ensures.1 (search rules) opened.budget es rest h;
      path = search rules;
    }

pub returns-in-Ok : goal.returns-in-Ok
returns-in-Ok g c =
    let opened = c.in_ok-open_placeable.ensures in
    let other : is_plain_expression (expression_of c.args.expression.now) ≡ false = search rules in
    let here : path_of c.open_placeable.new.progress ≡ [] = search rules in
    let left = left-inside c.args.place.now c.open_placeable.new.progress c.args.whole.now c.args.expression.now c.requires.locals here c.in-Ok.ensures.budget opened.budget in
    record {
      calls = [];
      text = nothing-added _;
      gathers = λ es rest h. goes-resolved _ _ _ _ other (search rules) left es rest h;
      path = c.in-Ok.ensures.path ∙ here;
    }

pub returns-in_ok-push_line-in-Err : goal.returns-in_ok-push_line-in-Err
returns-in_ok-push_line-in-Err g c =
    let call = string_bytes c.in_ok-left-in-Err.field-0 in
    let other : is_plain_expression (expression_of c.args.expression.now) ≡ false = search rules in
    record {
      calls = call ∷ [];
      text = line-added _ _ call c.in_ok-push_line-in-Err.ensures;
      gathers = λ es. ends-at _ _ _ _ other (search rules) c.in_ok-left-in-Err.ensures es;
    }
