use Rattle.std.proofs.Common.{◌≡◌, map, drop, string_bytes}
use Rattle.std.specs.Prelude.{false}
use Rattle.fluent_grammar.specs.Written.{onto}
use Rattle.fluent_ast.specs.View.{entry_view}
use Rattle.fluent_serializer.specs.Spaced.{spaced_signs}
use Rattle.fluent_serializer.proofs.spaced.write_spaced.Given as goal

-- what is left to write
abbrev pub invariant-loop-index : goal.invariant-loop-index
invariant-loop-index g l =
    let view = entry_view g.row.S.Denot g.S.Slice.text in
    onto (string_bytes l.out) (spaced_signs l.after l.free (drop l.index l.apart) (map view (drop l.index l.resource.body.items)))
    ≡ onto (string_bytes l.initial.out) (spaced_signs false false l.apart (map view l.resource.body.items))
