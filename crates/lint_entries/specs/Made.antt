-- Findings that are made at a place.
use Rattle.std.specs.Prelude.{◌≡◌, List, ◌++◌, map, Vec}
use Rattle.std.specs.Global.{Global}
use Rattle.lint_findings.specs.EntryFindings.{finding_in}
use Rattle.lint_findings.specs.Finding as f
use Rattle.lint_findings.specs.View.{finding_view}
use Rattle.lint_findings.specs.declared.records.Finding.{Finding}
use Rattle.lint_entries.specs.Labels.{label_text}
use Rattle.lint_entries.specs.declared.finding.EntryPoint.{EntryPoint}

-- the finding of a remark at a place
abbrev pub made_of : EntryPoint → f.Remark → f.Finding
made_of place r = finding_in place.source.now (label_text place.label) place.at.now r

-- these findings are added after the others
abbrev pub Adds : Vec Finding Global → Vec Finding Global → List f.Finding → Type 0
Adds old new added = map finding_view new.items ≡ map finding_view old.items ++ added
