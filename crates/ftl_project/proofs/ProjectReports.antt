-- The report on what is found in a project.
use Rattle.std.proofs.Common.{◌≡◌, List, subst}
use Rattle.fluent_grammar.specs.Words.{Text}
use Rattle.ftl_arguments.specs.Projects.{ProjectLint}
use Rattle.ftl_project.specs.Left.{left_of}
use Rattle.ftl_project.specs.ProjectReports.{IsReportOn, Seen, groups_in, ignored_in}
use Rattle.ftl_project.specs.Reports.{GroupFound, IsReportOf, Written}
use Rattle.ftl_project.specs.declared.report.Known.{Known}

-- by what is ignored, and by the groups
pub report_on : (l : ProjectLint) (known : Known) (s : Seen) (ignored : List Text) (gs : List GroupFound) (w : Written) → ignored ≡ ignored_in s.project l →
    gs ≡ groups_in l s → IsReportOf l.format l.notes l.strict (left_of ignored l.notes known gs) w → IsReportOn l known s w
report_on l known s ignored gs w of these is =
    subst (λ codes. IsReportOf l.format l.notes l.strict (left_of codes l.notes known (groups_in l s)) w) of
    (subst (λ groups. IsReportOf l.format l.notes l.strict (left_of ignored l.notes known groups) w) these is)
