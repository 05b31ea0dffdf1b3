-- Reports on one file.
use Rattle.std.proofs.Common.{◌≡◌, ◌∙◌, List, [], ◌∷◌, ◌++◌, true, map, filter, ap, refl, append-nil, Option, None, Some, IfSome, option_map, Result, Ok, Err, IfOk, IfErr, String, string_bytes, subst, sym}
use Rattle.lint_findings.specs.Findings.{FileFinding, findings_in}
use Rattle.lint_findings.specs.Finding.{Severity, error, warning, note}
use Rattle.lint_findings.specs.Report.{is_shown, report_text, shown}
use Rattle.lint_findings.specs.View.{file_view, finding_view}
use Rattle.std.specs.Global.{Global, Vec}
use Rattle.lint_findings.specs.declared.records.File.{File}
use Rattle.lint_findings.specs.declared.records.Finding.{Finding}
use Rattle.lint_report.specs.Formats.{report_output}
use Rattle.lint_report.specs.View.{shown_width}
use Rattle.lint_report.specs.declared.reports.Format.TheVariants as format
use Rattle.fluent_serve.specs.Text.{Text}
use Rattle.fluent_tidy.specs.Reasons.{IsReason}
use Rattle.fluent_tidy.specs.TidyText.{IsTidyText, plain}
use Rattle.fluent_tidy.specs.declared.tidy_error.TidyError.{TidyError}
use Rattle.fluent_tidy.specs.declared.tidy_error.TidyError.TheVariants.{Memory, CarriageReturn, Damaged, NotTidy}
use Rattle.ftl_files.specs.TidyView.{IsEndBy, IsEndOf}
use Rattle.ftl_files.specs.Tidying.{FileEnd, IsRefusedFor, IsReport, IsSourceEnd, changed, end_for, failed, kept, out_of_memory, refused}

all_shown : (s : Severity) → is_shown true s ≡ true
all_shown error = refl
all_shown warning = refl
all_shown note = refl

-- with notes every finding is shown
shown_whole : (fs : List FileFinding) → shown true fs ≡ fs
shown_whole [] = refl
shown_whole (f ∷ fs) = rw (all_shown f.finding.severity) (ap (λ rest. f ∷ rest) (shown_whole fs))

pub one_file : (file : File) (findings : Vec Finding) →
    report_output format.Text true (record { file = file; findings = findings } ∷ []) [] ≡ report_text shown_width (findings_in (file_view file) (map finding_view findings.items))
one_file file findings =
    let all = findings_in (file_view file) (map finding_view findings.items) in
    append-nil (report_text shown_width (shown true (all ++ [])))
    ∙ (ap (λ fs. report_text shown_width (shown true fs)) (append-nil all) ∙ ap (report_text shown_width) (shown_whole all))

-- what holds of what there is holds of what is made of it
pub on_mapped : {X Y : Type 0} (f : X → Y) (P : Y → Type 0) (o : Option X) → IfSome o (λ x. P (f x)) → IfSome (option_map f o) P
on_mapped f P None h = tt
on_mapped f P (Some x) h = h

-- what becomes of a source that is refused for a reason
pub source_ends : (name source : Text) (reason : TidyError) (report : Text) → IsReason source reason → IsReport name (plain source) reason report →
    IsSourceEnd name source (end_for reason report)
source_ends name source Memory report right reported = reported
source_ends name source CarriageReturn report right reported =
    record { reason = CarriageReturn; refuses = λ is. absurd cc; right = right; reported = reported }
source_ends name source (Damaged found) report right reported =
    record { reason = Damaged found; refuses = λ is. absurd cc; right = right; reported = reported }
source_ends name source (NotTidy offset) report right reported =
    record { reason = NotTidy offset; refuses = λ is. absurd cc; right = right; reported = reported }

-- so does one that was tidied
pub refused_ends : (name source : Text) (reason : TidyError) (end : FileEnd) → IsReason source reason → IsRefusedFor name source reason end → IsSourceEnd name source end
refused_ends name source reason end right h = rw h.is (source_ends name source reason h.report right h.reported)

tidied_ends : (name source text : Text) (end : FileEnd) → IsTidyText source text → IsEndBy text source end → IsSourceEnd name source end
tidied_ends name source text kept tidy h = subst (λ z. IsTidyText source z) h tidy
tidied_ends name source text (changed new) tidy h = (subst (λ z. IsTidyText source z) (sym h.0) tidy, h.1)
tidied_ends name source text (failed f why) tidy h = h
tidied_ends name source text (refused report) tidy h = absurd h
tidied_ends name source text (out_of_memory report) tidy h = absurd h

pub ends_so : (name source : Text) (tidied : Result (String Global) TidyError) (end : FileEnd) → IfOk tidied (λ text. IsTidyText source (string_bytes text)) → IfErr tidied (IsReason source) →
    IsEndOf name source tidied end → IsSourceEnd name source end
ends_so name source (Ok text) end tidy right h = tidied_ends name source (string_bytes text) end tidy h
ends_so name source (Err reason) end tidy right h = refused_ends name source reason end right h
