use Rattle.std.proofs.Common.{subst}
use Rattle.std.specs.List.Sorted.{IsBinarySearchResult}
use Rattle.std.proofs.Common.{rules}
use Rattle.std.proofs.lemmas.Fn.{always_returns_same}
use Rattle.fluent_value.specs.Args.{order}
use Rattle.fluent_value.specs.ArgsNames.{name_of}
use Rattle.fluent_value.proofs.Placed.{rises, settled}
use Rattle.fluent_value.proofs.args.FluentArgs.place.Goals as goal

pub returns-clause-place : goal.returns-clause-place
returns-clause-place g c =
    let name = name_of in
    let items = c.args.self.now.arguments.items in
    let found = c.binary_search_by.ensures.position (λ it. order (name it) c.args.name.now) (always_returns_same _ _ _ (λ a r f' k. (search rules, search rules))) in
    let among = subst (λ es. IsBinarySearchResult (λ it. order (name it) c.args.name.now) es c.binary_search_by.result) c.deref.ensures.value found in
    settled (λ it. order (name it) c.args.name.now) items c.binary_search_by.result (rises name name c.args.name.now items c.args.self.now.ascending) among
