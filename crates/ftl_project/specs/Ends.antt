-- What becomes of a project that is linted or counted.
use Rattle.std.specs.Prelude.{◌≡◌, [], None, Option, Some, String, false, string_bytes}
use Rattle.std.specs.Global.{Global}
use Rattle.fluent_grammar.specs.Words.{Text}
use Rattle.ftl_arguments.specs.CommandView.{project_lint_view}
use Rattle.ftl_arguments.specs.declared.commands.ProjectLint.{ProjectLint}
use Rattle.ftl_files.specs.States.{state_of}
use Rattle.ftl_files.specs.declared.folder.Folder.{Ghosts as FolderGhosts}
use Rattle.ftl_project.specs.ProjectReports.{IsProjectReport, IsReportWith}
use Rattle.ftl_project.specs.Reading.{AreReadLater, Unread}
use Rattle.ftl_project.specs.Reports.{Written}
use Rattle.ftl_project.specs.declared.report.Known.{Known}
use Rattle.ftl_project.specs.declared.work.ProjectEnd.{ProjectEnd}
use Rattle.ftl_project.specs.declared.work.Work.{Work}
use Rattle.ftl_project.specs.declared.work.Work.TheVariants as work

-- the report that is asked for, and the same with what is known
abbrev pub IsReportFor : ProjectLint → Written → Type 0
IsReportFor l w = IsProjectReport (project_lint_view l) w

abbrev pub IsReportKnowing : ProjectLint → Known → Written → Type 0
IsReportKnowing l known w = IsReportWith (project_lint_view l) known w

-- a table fails no project
abbrev pub IsTable : Written → Type 0
IsTable w = w.has_failed ≡ false

-- what is asked for
abbrev pub IsAsked : Work → Written → Type 0
IsAsked (work.Lint l known) w = IsReportKnowing l.now known.now w
IsAsked (work.Status s) w = IsTable w

abbrev pub written_in : ProjectEnd → Written
written_in e = record { text = string_bytes e.text; has_failed = e.has_failed }

-- the text of the baseline, if one is to be written
abbrev pub text_or_none : Option (String Global) → Text
text_or_none None = []
text_or_none (Some text) = string_bytes text

abbrev pub baseline_of : ProjectEnd → Text
baseline_of e = text_or_none e.baseline

abbrev pub unread_in : ProjectEnd → Unread
unread_in e = record { errors = string_bytes e.errors; reported = e.reported }

-- what is said of the files of a project is what came of reading them
module _ {F : Type 0} (folders : FolderGhosts F) where
  abbrev pub EndsRead : F → F → ProjectEnd → Type 0
  EndsRead before after end = AreReadLater (state_of folders before) (state_of folders after) (unread_in end)
