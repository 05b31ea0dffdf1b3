use Rattle.std.proofs.Common.{◌∙◌}
use Rattle.std.proofs.lemmas.Result.{IfOk-weaker}
use Rattle.example_callers.proofs.Greeting.{given_is, greeted, held_is, pattern_is}
use Rattle.example_callers.proofs.bundle.greeting.Goals as goal

pub returns : goal.returns
returns c =
    let held = held_is c.english-bundle.ensures c.in_ok-resource.ensures c.in-Ok.ensures.added in
    let pattern = pattern_is held c.in-Some.ensures c.in-Some-value.ensures in
    let set = c.in_ok-set.ensures.ok in
    let given = given_is set.2 set.1.0 set.1.1 c.new-args.ensures in
    IfOk-weaker c.format_pattern.result _ _ (λ shown is. is ∙ search (greeted, held, given, pattern)) c.format_pattern.ensures.text
