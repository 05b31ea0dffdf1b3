use Rattle.std.proofs.Common.{◌≡◌, ◌∙◌, List, Option, Some, ap, length, map, refl, sym}
use Rattle.std.proofs.lemmas.Option.{slice_get_read}
use Rattle.std.specs.List.{slice_get}
use Rattle.lint_findings.specs.View.{file_view, finding_view}
use Rattle.lint_findings.specs.declared.records.FileFindings.{FileFindings}
use Rattle.lint_findings.specs.declared.records.Finding.{Finding}
use Rattle.fluent_lint.specs.Translated.{FileFound}
use Rattle.fluent_lint.proofs.ReferenceFiles.{found_there}
use Rattle.fluent_lint.proofs.reference.ReferenceCatalog.file.Goals as goal

pub returns-clause-found : goal.returns-clause-found
returns-clause-found c =
    let found = c.args.self.now.found.items in
    let i = c.args.index in
    let one = c.in_ok-found.found.now in
    let seen = c.deref.result.now in
    let tiles = c.file.result.tiles.now in
    let lookup = c.in_ok-found.ensures.lookup in
    let there : slice_get found i ≡ Some one = ap (λ (fs : List FileFindings). slice_get fs i) (sym c.deref.ensures.value) ∙ slice_get_read seen (length seen) i one refl lookup.3.0 lookup.1 in
    let made : List Finding → Option FileFound = λ known. Some (record { file = file_view tiles.file; findings = map finding_view known }) in
    ap made c.deref-2.ensures.value ∙ found_there c.args.self.now c.requires i one tiles there c.file.ensures.tiles
