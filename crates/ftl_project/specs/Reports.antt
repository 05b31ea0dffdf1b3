-- The report on a project: what is written of the findings of its reference and of its languages, and whether it fails.
use Rattle.std.specs.Prelude.{◌≡◌, ℕ, Bool, ◌&&◌, List, [], ◌++◌, Option, None, Some, option_copied, is_some, map, codes, string_bytes}
use Rattle.std.specs.List.{flat_map, list_any}
use Rattle.fluent_grammar.specs.Words.{Text}
use Rattle.fluent_lint.specs.Totals.{totals_line}
use Rattle.fluent_lint.specs.declared.reports.Output.{Output}
use Rattle.lint_findings.specs.View.{findings_view}
use Rattle.lint_findings.specs.Findings.{FileFinding}
use Rattle.lint_findings.specs.Output as out
use Rattle.lint_findings.specs.Output.{Format}
use Rattle.lint_findings.specs.Report.{has_failed, shown}
use Rattle.lint_findings.specs.ShownLine.{masked_text}
use Rattle.lint_report.specs.Formats.{format_view}
use Rattle.lint_report.specs.View.{shown_width}
use Rattle.ftl_project.specs.JsonLines.{group_json}
use Rattle.ftl_project.specs.declared.report.Group.{Group}
use Rattle.ftl_project.specs.declared.report.ProjectReport.{ProjectReport}

-- what is reported of the reference, or of a language
pub record GroupFound : Type 0 where
  -- the tag of the language, if it is one
  pub locale : Option Text
  -- how many files there are
  pub files : ℕ
  pub found : List FileFinding

-- its name for people
abbrev pub group_name : Option Text → Text
group_name None = codes "reference"
group_name (Some locale) = locale

-- in this format: what is found, and how many errors, warnings and notes that is
abbrev pub group_text : Format → Bool → GroupFound → Text
group_text format notes g =
    out.output format shown_width (shown notes g.found) []
    ++ (masked_text (group_name g.locale) ++ (codes ": " ++ totals_line notes g.files g.found))

abbrev pub all_found : List GroupFound → List FileFinding
all_found gs = flat_map (λ (g : GroupFound). g.found) gs

-- in JSON, a line for each finding with the language
abbrev pub group_lines : Bool → GroupFound → Text
group_lines notes g = group_json g.locale notes g.found

-- What is written of groups: for people one after the other, each with its totals; in JSON with the language of each finding; else the
-- findings of all.
abbrev pub groups_text : Format → Bool → List GroupFound → Text
groups_text out.text notes gs = flat_map (group_text out.text notes) gs
groups_text out.terminal notes gs = flat_map (group_text out.terminal notes) gs
groups_text out.lines notes gs = out.output out.lines shown_width (shown notes (all_found gs)) []
groups_text out.json notes gs = flat_map (group_lines notes) gs
groups_text out.github notes gs = out.output out.github shown_width (shown notes (all_found gs)) []
groups_text out.sarif notes gs = out.output out.sarif shown_width (shown notes (all_found gs)) []
groups_text out.gitlab notes gs = out.output out.gitlab shown_width (shown notes (all_found gs)) []

-- A language fails by its errors, or if that is asked for by its warnings. The reference fails no project.
abbrev pub group_fails : Bool → GroupFound → Bool
group_fails strict g = is_some g.locale && has_failed strict g.found

-- what is written, and whether the status is that of a failure
pub record Written : Type 0 where
  pub text : Text
  pub has_failed : Bool

-- What is written is the report on these groups of findings, and a failure is one of their languages.
pub record IsReportOf (format : Format) (notes strict : Bool) (groups : List GroupFound) (w : Written) : Type 0 where
  pub text : w.text ≡ groups_text format notes groups
  pub failed : w.has_failed ≡ list_any (group_fails strict) groups

-- ---- the code's values

abbrev pub group_view : Group → GroupFound
group_view g = record { locale = option_copied g.locale; files = g.files; found = findings_view g.found.items }

abbrev pub groups_view : List Group → List GroupFound
groups_view gs = map group_view gs

abbrev pub report_view : ProjectReport → Written
report_view r = record { text = string_bytes r.text; has_failed = r.has_failed }

-- by what is asked for
abbrev pub text_by : Output → List GroupFound → Text
text_by o gs = groups_text (format_view o.format) o.notes gs

abbrev pub text_of_group : Output → GroupFound → Text
text_of_group o g = group_text (format_view o.format) o.notes g

abbrev pub has_failure : Output → List GroupFound → Bool
has_failure o gs = list_any (group_fails o.strict) gs

abbrev pub IsReportBy : Output → List GroupFound → ProjectReport → Type 0
IsReportBy o gs r = IsReportOf (format_view o.format) o.notes o.strict gs (report_view r)
