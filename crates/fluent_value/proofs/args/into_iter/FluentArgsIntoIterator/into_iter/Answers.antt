use Rattle.std.proofs.Common.{map, ap, sym, subst}
use Rattle.std.specs.Map.{keys_of}
use Rattle.fluent_value.specs.Args.{IsAscending}
use Rattle.fluent_value.specs.ArgsNames.{name_of}
use Rattle.fluent_value.specs.ArgsView.{args_view}
use Rattle.fluent_value.specs.View.{value_view}
use Rattle.fluent_value.proofs.Placed.{names_shown}
use Rattle.fluent_value.proofs.args.into_iter.FluentArgsIntoIterator.into_iter.Goals as goal

pub returns : goal.returns
returns g c =
    let ascending : IsAscending (keys_of (args_view g.C.FluentType.meaning c.args.self)) = subst IsAscending (sym (names_shown name_of (λ it. value_view g.C.FluentType.meaning it.value) c.args.self.arguments.items)) c.args.self.ascending in
    let same = ap (map (λ it. (name_of it, value_view g.C.FluentType.meaning it.value))) c.into_iter.ensures.rest in
    record { into_iter_gives = (same, subst (λ args. IsAscending (keys_of args)) (sym same) ascending) }
