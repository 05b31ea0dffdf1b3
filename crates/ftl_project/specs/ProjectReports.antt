-- The report on a project, by what is found in it.
use Rattle.std.specs.Prelude.{List, ◌++◌, map}
use Rattle.fluent_grammar.specs.Words.{Text}
use Rattle.fluent_project.specs.Views.{plain}
use Rattle.ftl_arguments.specs.CommandView.{project_lint_view}
use Rattle.ftl_arguments.specs.Projects.{ProjectLint}
use Rattle.ftl_arguments.specs.declared.commands.ProjectLint as words
use Rattle.ftl_project.specs.GroupsFound.{groups_found}
use Rattle.ftl_project.specs.Left.{left_of}
use Rattle.ftl_project.specs.Paths.{path_in}
use Rattle.ftl_project.specs.Reports.{GroupFound, IsReportOf, Written, report_view}
use Rattle.ftl_project.specs.declared.language.LintedProject.{LintedProject}
use Rattle.ftl_project.specs.declared.project.Project.{Project}
use Rattle.ftl_project.specs.declared.reference.ReferenceFile.{ReferenceFile}
use Rattle.ftl_project.specs.declared.report.Known.{Known}
use Rattle.ftl_project.specs.declared.report.ProjectReport.{ProjectReport}
use Rattle.ftl_project.specs.declared.work.Asked.{Asked}

-- a project with what is found in it: the current folder, the project, the files of its reference, and the findings
pub record Seen : Type 0 where
  pub here : Text
  pub project : Project
  pub references : List ReferenceFile
  pub linted : LintedProject

-- the codes that aren't reported: those of the project, and those of the words
abbrev pub ignored_in : Project → ProjectLint → List Text
ignored_in project l = plain project.ignored.items ++ l.ignored

-- The groups: of the reference, and of each language. They have what is found in the files that the words choose.
abbrev pub groups_in : ProjectLint → Seen → List GroupFound
groups_in l s = groups_found s.project (map (path_in s.here) l.only) s.references s.linted

-- What is written is the report on these, without what is ignored and what is known.
abbrev pub IsReportOn : ProjectLint → Known → Seen → Written → Type 0
IsReportOn l known s w = IsReportOf l.format l.notes l.strict (left_of (ignored_in s.project l) l.notes known (groups_in l s)) w

-- so it is of a project that was seen
pub record IsReportWith (l : ProjectLint) (known : Known) (w : Written) : Type 0 where
  pub seen : Seen
  pub is : IsReportOn l known seen w

-- and of what is known
pub record IsProjectReport (l : ProjectLint) (w : Written) : Type 0 where
  pub known : Known
  pub with : IsReportWith l known w

-- ---- in the code

abbrev pub seen_by : Asked → Project → List ReferenceFile → LintedProject → Seen
seen_by asked project references linted = record { here = asked.here.now; project = project; references = references; linted = linted }

abbrev pub IsReportMade : words.ProjectLint → Known → Seen → ProjectReport → Type 0
IsReportMade l known s made = IsReportOn (project_lint_view l) known s (report_view made)
