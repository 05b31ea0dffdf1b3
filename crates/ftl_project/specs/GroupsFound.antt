-- The groups of a report: what is found in the reference, and in each language.
use Rattle.std.specs.Prelude.{◌≡◌, List, [], ◌∷◌, ◌++◌, Option, None, Some, String, Vec, filter, is_some, length, map, string_bytes}
use Rattle.std.specs.Global.{Global}
use Rattle.std.specs.List.{zip}
use denote.Ref.{Bor}
use Rattle.fluent_grammar.specs.Words.{Text}
use Rattle.lint_findings.specs.View.{file_findings_view, findings_view}
use Rattle.lint_findings.specs.declared.records.FileFindings.{FileFindings}
use Rattle.ftl_project.specs.Chosen.{PathFound, chosen}
use Rattle.ftl_project.specs.Paths.{paths}
use Rattle.ftl_project.specs.Reports.{GroupFound, group_view, groups_view}
use Rattle.ftl_project.specs.declared.language.Linted.{Linted}
use Rattle.ftl_project.specs.declared.language.LintedFile.{LintedFile}
use Rattle.ftl_project.specs.declared.language.LintedProject.{LintedProject}
use Rattle.ftl_project.specs.declared.loading.Loaded.{Loaded}
use Rattle.ftl_project.specs.declared.project.Project.{Project}
use Rattle.ftl_project.specs.declared.reference.ReferenceFile.{ReferenceFile}
use Rattle.ftl_project.specs.declared.report.Group.{Group}

-- what is found in a file, with a path
abbrev pub file_at : Text → FileFindings → PathFound
file_at path f = record { path = path; found = file_findings_view f }

-- of the files of a language
abbrev pub files_found : List LintedFile → List PathFound
files_found files = map (λ (f : LintedFile). file_at (string_bytes f.planned.now.path) f.found) files

-- what is found of a language as a whole, at the file of the project
abbrev pub whole_found : Option (Bor Loaded) → Option FileFindings → List PathFound
whole_found (Some file) (Some whole) = file_at (string_bytes file.now.path) whole ∷ []
whole_found (Some file) None = []
whole_found None whole = []

abbrev pub group_of_language : Project → List Text → Linted → GroupFound
group_of_language project only l = record {
  locale = Some l.locale.now;
  files = l.present;
  found = chosen only (whole_found project.file l.whole ++ files_found l.files.items);
}

-- the files of the reference that were read, and what is found in each
abbrev pub were_read : List ReferenceFile → List ReferenceFile
were_read references = filter (λ (r : ReferenceFile). is_some r.file) references

abbrev pub reference_found : List ReferenceFile → List FileFindings → List PathFound
reference_found references fs = map (λ p. file_at p.0.path.now p.1) (zip (were_read references) fs)

abbrev pub group_of_reference : List Text → List ReferenceFile → List FileFindings → GroupFound
group_of_reference only references fs = record {
  locale = None;
  files = length fs;
  found = chosen only (reference_found references fs);
}

-- the groups of a project: that of its reference, and then that of each language
abbrev pub groups_found : Project → List Text → List ReferenceFile → LintedProject → List GroupFound
groups_found project only references linted =
    group_of_reference only references linted.reference.items ∷ map (group_of_language project only) linted.languages.items

-- ---- what the code makes

-- a group is that of a language, or of the reference, and groups are those of a project
abbrev pub IsGroupOf : Project → List (String Global) → Linted → Group → Type 0
IsGroupOf project only l g = group_view g ≡ group_of_language project (paths only) l

abbrev pub IsGroupOfReference : List (String Global) → List ReferenceFile → List FileFindings → Group → Type 0
IsGroupOfReference only references fs g = group_view g ≡ group_of_reference (paths only) references fs

abbrev pub AreGroupsOf : Project → List (String Global) → List ReferenceFile → LintedProject → Vec Group Global → Type 0
AreGroupsOf project only references linted gs = groups_view gs.items ≡ groups_found project (paths only) references linted

-- those of these languages are appended, and what is found in these files, if they are chosen
abbrev pub AppendsGroups : Project → List (String Global) → List Linted → Vec Group Global → Vec Group Global → Type 0
AppendsGroups project only ls old new = groups_view new.items ≡ groups_view old.items ++ map (group_of_language project (paths only)) ls

abbrev pub AppendsChosen : List (String Global) → List PathFound → Vec FileFindings Global → Vec FileFindings Global → Type 0
AppendsChosen only files old new = findings_view new.items ≡ findings_view old.items ++ chosen (paths only) files
