use Rattle.fluent_progress.proofs.Telling.{on-err}
use Rattle.fluent_progress.specs.Views.{place_view, resolved_in}
use Rattle.fluent_resolver.proofs.ArgumentLists.{given-first, given-found, given-second}
use Rattle.fluent_resolver.proofs.Places.{same-place}
use Rattle.fluent_resolver.proofs.steps.values.Goals as goal

pub returns-clause-found : goal.returns-clause-found
returns-clause-found g c =
    given-found (resolved_in c.args.place.now) (place_view c.args.place.now c.args.progress.now) c.args.arguments.now c.in_ok-positional.ensures.found (same-place c.args.place.now c.in_ok-positional.ensures.path) c.in_ok-named.ensures.found

pub returns-in_err-positional-clause-refused : goal.returns-in_err-positional-clause-refused
returns-in_err-positional-clause-refused g c =
    on-err _ (given-first (resolved_in c.args.place.now) (place_view c.args.place.now c.args.progress.now) c.args.arguments.now c.in_err-positional.ensures.refused)

pub returns-in_err-named-clause-refused : goal.returns-in_err-named-clause-refused
returns-in_err-named-clause-refused g c =
    on-err _ (given-second (resolved_in c.args.place.now) (place_view c.args.place.now c.args.progress.now) c.args.arguments.now c.in_ok-positional.ensures.found (same-place c.args.place.now c.in_ok-positional.ensures.path) c.in_err-named.ensures.refused)
