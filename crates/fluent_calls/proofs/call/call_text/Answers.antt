use Rattle.std.proofs.Common.{ap, ◌∙◌}
use Rattle.serde_json.specs.Written.{compact_text, has_float}
use Rattle.fluent_run.specs.Dated.{dated_view}
use Rattle.fluent_calls.specs.CallValues.{plain_all}
use Rattle.fluent_calls.proofs.Texts.{call_none, on_ok}
use Rattle.fluent_calls.proofs.call.call_text.Goals as goal

pub returns : goal.returns
returns c =
    let same = c.in_ok-call_value.ensures in
    on_ok c.to_string.result
    (λ text is. is (ap has_float same ∙ call_none c.args.name.now (plain_all c.args.positional.now) (dated_view c.args.named.now)) ∙ ap compact_text same)
    c.to_string.ensures.text
