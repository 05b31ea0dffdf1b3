use Rattle.std.proofs.Common.{sym, subst}
use Rattle.fluent_value.specs.Args.{IsAscending}
use Rattle.fluent_value.specs.ArgsNames.{names_of}
use Rattle.fluent_value.proofs.Placed.{none_ascend}
use Rattle.fluent_value.proofs.args.FluentArgs.new.Goals as goal

pub invariant_of-result : goal.invariant_of-result
invariant_of-result g c = record { ascending = subst (λ es. IsAscending (names_of es)) (sym c.new.ensures.items) none_ascend }
