use Rattle.std.proofs.Common.{refl}
use Rattle.fluent_grammar.proofs.Computing.{computing}
use Rattle.example_callers.proofs.bundle.welcome_resource.Goals as goal

pub returns-in-Ok : goal.returns-in-Ok
unfolding computing
returns-in-Ok c = c.in-Ok.ensures.entries

pub unreachable-requires : goal.unreachable-requires
unfolding computing
unreachable-requires c =
    let told = rw c.in-Err-Broken.field-0-is at c.in-Err-Broken.ensures.errors in
    told.1 refl
