use Rattle.std.proofs.Common.{◌≡◌, drop}
use Rattle.fluent_value.specs.Args.{argument}
use Rattle.fluent_value.specs.ArgsView.{pairs_view}
use Rattle.fluent_value.proofs.args.calls.value_among.Given as goal

-- none of the arguments before this one has the name
abbrev pub invariant-loop-argument : goal.invariant-loop-argument
invariant-loop-argument g l =
    let view = pairs_view g.C.FluentType.meaning in
    argument l.name (view (drop l.argument-index l.all)) ≡ argument l.name (view l.all)
