-- The missing messages of a catalog.
use Rattle.std.specs.Prelude.{◌≡◌, List, ◌++◌, Vec}
use Rattle.std.specs.Global.{Global}
use Rattle.std.specs.List.{flat_map}
use Rattle.lint_findings.specs.View.{findings_view}
use Rattle.lint_findings.specs.declared.records.FileFindings.{FileFindings}
use Rattle.lint_findings.specs.Files.{File}
use Rattle.lint_findings.specs.Findings.{FileFinding, findings_in}
use Rattle.fluent_lint.specs.FileTiles.{files_of, files_view}
use Rattle.fluent_lint.specs.declared.tiles.FileTiles.{FileTiles}
use Rattle.fluent_meaning.specs.Ids.{Ids}
use Rattle.lint_comparison.specs.Missing.{missing_in}

-- those of the files of a reference, by the ids of the catalog
abbrev pub missing_in_files : Ids (Unit {0}) → List File → List FileFinding
missing_in_files ids references = flat_map (λ (file : File). findings_in file (missing_in ids file.source)) references

-- they are added
abbrev pub AddsMissing : Ids (Unit {0}) → List FileTiles → Vec FileFindings Global → Vec FileFindings Global → Type 0
AddsMissing ids references old new =
    findings_view new.items ≡ findings_view old.items ++ missing_in_files ids (files_view (files_of references))
