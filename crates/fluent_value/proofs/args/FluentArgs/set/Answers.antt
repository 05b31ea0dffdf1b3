use Rattle.std.proofs.lemmas.Result.{on_ok_weaker}
use Rattle.fluent_value.proofs.args.FluentArgs.set.Goals as goal

pub returns-clause-ok : goal.returns-clause-ok
returns-clause-ok g c =
    on_ok_weaker c.set_value.result (λ set. ((c.into.result, c.into-2.result), (c.into.ensures, c.into-2.ensures), set)) c.set_value.ensures.ok
