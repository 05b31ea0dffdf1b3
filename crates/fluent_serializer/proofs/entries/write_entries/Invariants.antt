use Rattle.std.proofs.Common.{◌≡◌, map, take, string_bytes}
use Rattle.std.specs.Prelude.{false}
use Rattle.fluent_grammar.specs.Written.{onto, entries_signs}
use Rattle.fluent_ast.specs.View.{entry_view}
use Rattle.fluent_serializer.proofs.Laid.{after_entries}
use Rattle.fluent_serializer.proofs.entries.write_entries.Given as goal

abbrev pub invariant-loop-entry : goal.invariant-loop-entry
invariant-loop-entry g l =
    let written = map (entry_view g.row.S.Denot g.S.Slice.text) (take l.entry-index l.entry-items) in
    (string_bytes l.out ≡ onto (string_bytes l.initial.out) (entries_signs l.options.with_junk false written)) × (l.after ≡ after_entries false written)
