use Rattle.std.proofs.Common.{◌≡◌, ◌++◌, [], List, map, take}
use Rattle.lint_entries.specs.First.{AreFirst}
use Rattle.lint_files.specs.RulesView.{rules_view}
use Rattle.lint_findings.specs.DuplicateIds.{Declaration}
use Rattle.fluent_lint.specs.FileTiles.{files_of}
use Rattle.fluent_lint.specs.Languages.{catalogs_of}
use Rattle.fluent_lint.specs.ReferenceView.{files_found, named_by}
use Rattle.fluent_lint.specs.Translated.{FileFound, LanguageFile}
use Rattle.fluent_lint.proofs.EachFound.{left}
use Rattle.fluent_lint.proofs.language.found_in_files.Given as goal

abbrev pub invariant-loop-index : goal.invariant-loop-index
invariant-loop-index l =
    let rules = rules_view l.rules in
    let reference = files_found l.reference.found.items in
    let tiled = l.own.tiles.items in
    let catalogs = catalogs_of l.reference (files_of tiled) in
    (before : List Declaration)
    × AreFirst l.others before
    × (named_by l.files.items ≡ files_of (take l.index tiled))
    × (map (λ (f : FileFound). f.findings) (files_found l.files.items) ++ left rules catalogs reference l.originals (λ (f : LanguageFile). f.findings) before l.index tiled
    ≡ left rules catalogs reference l.originals (λ (f : LanguageFile). f.findings) [] 0 tiled)
    × (l.messages.items ++ left rules catalogs reference l.originals (λ (f : LanguageFile). f.messages) before l.index tiled
    ≡ left rules catalogs reference l.originals (λ (f : LanguageFile). f.messages) [] 0 tiled)
