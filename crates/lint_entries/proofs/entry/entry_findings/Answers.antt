use Rattle.std.proofs.Common.{◌≡◌, ◌∙◌, Some, None, option_map, List, map, ap, sym, subst}
use Rattle.std.specs.Prelude.{IfOk}
use Rattle.fluent_ast.specs.Borrowed.{entry_of}
use Rattle.lint_findings.specs.View.{finding_view}
use Rattle.lint_findings.specs.Finding.{Finding}
use Rattle.lint_entries.specs.AttributePlaces.{bare_entry}
use Rattle.lint_entries.specs.CatalogView.{ids_in, reference_in}
use Rattle.lint_entries.specs.EntryParts.{parts_of}
use Rattle.lint_entries.specs.PartsView.{parts_view}
use Rattle.lint_entries.proofs.EntryFound.{found_of_parts, nothing_found, parts_read, same_parts}
use Rattle.lint_entries.proofs.entry.entry_findings.Goals as goal

pub parts_findings-requires : goal.parts_findings-requires
parts_findings-requires c =
    let e = bare_entry c.args.entry.now in
    let parts : parts_of e ≡ Some (parts_view c.in-Some.parts) = same_parts (entry_of c.args.entry.now) ∙ sym c.of.ensures ∙ ap (option_map parts_view) c.in-Some.is in
    (c.requires.0, parts_read e (parts_view c.in-Some.parts) c.args.text.now c.requires.0 parts c.requires.1)

pub returns-in-Some : goal.returns-in-Some
returns-in-Some c =
    let e = bare_entry c.args.entry.now in
    let catalog = c.args.catalog.now in
    let parts : parts_of e ≡ Some (parts_view c.in-Some.parts) = same_parts (entry_of c.args.entry.now) ∙ sym c.of.ensures ∙ ap (option_map parts_view) c.in-Some.is in
    subst (λ (fs : List Finding). IfOk c.parts_findings.result (λ found. map finding_view found.items ≡ fs))
    (sym (found_of_parts (ids_in catalog) (reference_in catalog) catalog.plurals c.args.source.now e (parts_view c.in-Some.parts) c.args.text.now c.requires.0 parts c.requires.1))
    c.parts_findings.ensures

pub returns-in-None : goal.returns-in-None
returns-in-None c =
    let e = bare_entry c.args.entry.now in
    let catalog = c.args.catalog.now in
    let none : parts_of e ≡ None = same_parts (entry_of c.args.entry.now) ∙ sym c.of.ensures ∙ ap (option_map parts_view) c.in-None.is in
    ap (map finding_view) c.new.ensures.items ∙ sym (nothing_found (ids_in catalog) (reference_in catalog) catalog.plurals c.args.source.now e c.args.text.now none)
