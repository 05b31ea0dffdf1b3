-- What is left of groups of findings: what isn't ignored, and isn't known.
use Rattle.std.specs.Prelude.{◌≡◌, Bool, List, [], Option, None, Some, String, Vec, map, option_map, string_bytes}
use Rattle.std.specs.Global.{Global}
use Rattle.fluent_grammar.specs.Words.{Text}
use Rattle.fluent_lint.specs.Reported.{kept_of}
use Rattle.fluent_lint.specs.Reports.{ignored_by}
use Rattle.fluent_lint.specs.declared.reports.Output.{Output}
use Rattle.ftl_project.specs.Baselines.{lines_of, text_of_lines, with_shown, without}
use Rattle.ftl_project.specs.Reports.{GroupFound, IsReportBy, all_found, group_view, groups_view}
use Rattle.ftl_project.specs.declared.baseline.Baseline.{Baseline}
use Rattle.ftl_project.specs.declared.report.Group.{Group}
use Rattle.ftl_project.specs.declared.report.Known.{Known}
use Rattle.ftl_project.specs.declared.report.Known.TheVariants as known
use Rattle.ftl_project.specs.declared.report.ProjectReport.{ProjectReport}

-- without the findings whose code is ignored
abbrev pub kept_group : List Text → GroupFound → GroupFound
kept_group ignored g = record g { found = kept_of ignored g.found }

abbrev pub kept_groups : List Text → List GroupFound → List GroupFound
kept_groups ignored gs = map (kept_group ignored) gs

-- without the findings whose lines are among these
abbrev pub new_group : List Text → GroupFound → GroupFound
new_group lines g = record g { found = without lines g.found }

abbrev pub new_groups : List Text → List GroupFound → List GroupFound
new_groups lines gs = map (new_group lines) gs

-- the lines of all that is shown of groups
abbrev pub lines_in : Bool → List GroupFound → List Text
lines_in notes gs = with_shown notes [] (all_found gs)

-- The lines of what is known: of nothing, of what a baseline has, or of all that is shown.
abbrev pub known_lines : Known → Bool → List GroupFound → List Text
known_lines known.Nothing notes gs = []
known_lines (known.Baseline b) notes gs = lines_of b.now
known_lines known.All notes gs = lines_in notes gs

-- of groups that have no ignored findings, what isn't known
abbrev pub unknown : Known → Bool → List GroupFound → List GroupFound
unknown k notes gs = new_groups (known_lines k notes gs) gs

-- the text of the baseline that is written, if all is known
abbrev pub written_if : Known → Bool → List GroupFound → Option Text
written_if known.Nothing notes gs = None
written_if (known.Baseline b) notes gs = None
written_if known.All notes gs = Some (text_of_lines (lines_in notes gs))

-- what is left of groups, with these codes ignored, and what is written of them to a baseline
abbrev pub left_of : List Text → Bool → Known → List GroupFound → List GroupFound
left_of ignored notes k gs = unknown k notes (kept_groups ignored gs)

abbrev pub written_of : List Text → Bool → Known → List GroupFound → Option Text
written_of ignored notes k gs = written_if k notes (kept_groups ignored gs)

-- ---- by what is asked for

abbrev pub kept_by : Output → List GroupFound → List GroupFound
kept_by o gs = kept_groups (ignored_by o) gs

abbrev pub left : Output → Known → List GroupFound → List GroupFound
left o k gs = left_of (ignored_by o) o.notes k gs

abbrev pub written_by : Output → Known → List GroupFound → Option Text
written_by o k gs = written_of (ignored_by o) o.notes k gs

-- ---- the code's values

abbrev pub written_text : Option (String Global) → Option Text
written_text text = option_map string_bytes text

-- the report on what is left of these groups, and what is written of them to a baseline
abbrev pub IsReportLeft : Output → Known → List Group → ProjectReport → Type 0
IsReportLeft o k gs made = IsReportBy o (left o k (groups_view gs)) made

abbrev pub IsWritten : Output → Known → List Group → ProjectReport → Type 0
IsWritten o k gs made = written_text made.baseline ≡ written_by o k (groups_view gs)

-- groups, and a group, without what a baseline has
abbrev pub AreNew : Baseline → List Group → Vec Group Global → Type 0
AreNew b old new = groups_view new.items ≡ new_groups (lines_of b) (groups_view old)

abbrev pub IsNew : Baseline → Group → Group → Type 0
IsNew b old new = group_view new ≡ new_group (lines_of b) (group_view old)
