use Rattle.std.proofs.Common.{sym, subst}
use Rattle.fluent_value.specs.Args.{IsAscending}
use Rattle.fluent_value.specs.ArgsNames.{name_of}
use Rattle.fluent_value.specs.View.{value_view}
use Rattle.fluent_value.proofs.Placed.{names_shown}
use Rattle.fluent_value.proofs.args.FluentArgs.iter.Goals as goal

pub returns-clause-ascending : goal.returns-clause-ascending
returns-clause-ascending g c =
    subst IsAscending (sym (names_shown name_of (λ it. value_view g.C.FluentType.meaning it.value) c.args.self.now.arguments.items)) c.args.self.now.ascending
