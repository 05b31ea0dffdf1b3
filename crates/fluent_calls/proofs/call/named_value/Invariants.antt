use Rattle.std.proofs.Common.{◌≡◌}
use Rattle.serde_json.specs.Data.{no_members}
use Rattle.serde_json.specs.View.{members_view}
use Rattle.fluent_value.specs.ArgsLeft.{left_view}
use Rattle.fluent_calls.specs.Calls.{all_put}
use Rattle.fluent_run.specs.Dated.{dated_view}
use Rattle.fluent_calls.proofs.call.named_value.Given as goal

-- what is left, put in after what was put in, gives the whole
abbrev pub invariant-loop-name : goal.invariant-loop-name
invariant-loop-name l = all_put (members_view l.members.entries) (left_view (λ c. c.0) l.name-iterator) ≡ all_put no_members (dated_view l.fn.named)
