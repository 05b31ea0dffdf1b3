-- Tidying files, one after the other: what becomes of each, and what is reported.
use Rattle.std.specs.Prelude.{◌≡◌, ◌≢◌, ◌⊎◌, ℕ, Bool, true, false, ◌||◌, List, [], ◌∷◌, ◌++◌, ⊤, Option, Some, None, IfSome, IsUtf8, map, take, drop, length, unwrap_or, codes}
use Rattle.memchr.specs.Find.{IsFirstByte, is_byte, is_byte3}
use Rattle.fluent_serve.specs.Text.{Text}
use Rattle.fluent_serve.specs.Frames.{ended}
use Rattle.fluent_serve.specs.Devices.{HasFailed}
use Rattle.fluent_grammar.specs.Words.{carriage_return, equals, line_feed, space}
use Rattle.fluent_grammar.specs.Tiling.{errors}
use Rattle.fluent_parsed.specs.ErrorView.{error_told, error_view}
use Rattle.fluent_tidy.specs.Reasons.{IsReason}
use Rattle.fluent_tidy.specs.TidyText.{IsTidyText, plain}
use Rattle.fluent_tidy.specs.declared.tidy_error.TidyError.{TidyError}
use Rattle.fluent_tidy.specs.declared.tidy_error.TidyError.TheVariants.{Memory, CarriageReturn, Damaged, NotTidy}
use Rattle.lint_findings.specs.Finding.{Finding, error}
use Rattle.lint_findings.specs.Findings.{findings_in}
use Rattle.lint_findings.specs.Report.{report_text}
use Rattle.lint_findings.specs.SyntaxFindings.{syntax_findings}
use Rattle.lint_findings.specs.Tiles.{tiles}
use Rattle.lint_report.specs.View.{shown_width}
use Rattle.ftl_files.specs.Depth.{IsDepthReport}
use Rattle.ftl_files.specs.Files.{IsReplaced, OnFile, State}
use Rattle.ftl_files.specs.Listed.{AreListed, Listed, each_once}
use Rattle.ftl_files.specs.Reported.{none_reported, with_failure, with_out_of_memory}
use Rattle.ftl_files.specs.declared.reported.Reported.{Reported}

-- ---- what becomes of a file

-- why a file couldn't be tidied, whatever its source is
pub data Failure : Type 0 where
  unreadable : Failure
  not_utf8 : Failure
  unwritable : Failure

pub data FileEnd : Type 0 where
  -- it is tidy
  kept : FileEnd
  -- it isn't, and this is its tidy text
  changed : Text → FileEnd
  -- it could not be read or written, and maybe why
  failed : Failure → Option Text → FileEnd
  -- it has no tidy text, and this is reported
  refused : Text → FileEnd
  -- memory ran out for its source, or it nests too deep, and this is reported
  out_of_memory : Text → FileEnd

-- ---- the report on a source without a tidy text, as it is read: without a mark, and with LF

-- as `lint` writes findings of a file
abbrev pub findings_report : Text → Text → List Finding → Text
findings_report name source findings = report_text shown_width (findings_in (record { name = name; source = source }) findings)

abbrev pub finding_report : Text → Text → Finding → Text
finding_report name source finding = findings_report name source (finding ∷ [])

-- the line of a failure, with its cause if that is known
abbrev pub failure_line : Text → Text → Option Text → Text
failure_line name words None = codes "ftl: " ++ (name ++ (codes ": " ++ ended words))
failure_line name words (Some why) = codes "ftl: " ++ (name ++ (codes ": " ++ (words ++ (codes ": " ++ ended why))))

-- the first finding of `lint` about junk
abbrev pub damage_report : Text → Text → Text
damage_report name source = findings_report name source (take 1 (syntax_findings (tiles source)))

-- a carriage return that ends no line
abbrev pub return_finding : ℕ → Finding
return_finding offset = record {
  offset = offset;
  code = codes "carriage-return";
  severity = error;
  entry = None;
  text = codes "a carriage return that ends no line";
  hint = None;
}

-- the first one in a source
pub record IsReturn (source : Text) (finding : Finding) : Type 0 where
  pub place : Option ℕ
  pub first : IsFirstByte (is_byte carriage_return) source place
  pub is : finding ≡ return_finding (unwrap_or place (length source))

-- an entry that would be read otherwise if it were written anew
abbrev pub shape_finding : ℕ → Option Text → Finding
shape_finding offset entry = record {
  offset = offset;
  code = codes "no-tidy-text";
  severity = error;
  entry = entry;
  text = codes "written anew, this would be read otherwise";
  hint = Some (codes "write `.`, `[`, `*` or `{` at the start of a line of text as `{\"[\"}`, give each variant a name, and each comment a text");
}

-- the id at the front of an entry, a term's with its minus: up to a space, an equals sign or the end of its line
pub record IsIdOf (entry id : Text) : Type 0 where
  pub place : Option ℕ
  pub first : IsFirstByte (is_byte3 space equals line_feed) entry place
  pub is : id ≡ take (unwrap_or place (length entry)) entry

-- the entry of a source that begins at an offset: its id, if one is named
pub record IsShapeAt (source : Text) (offset : ℕ) (finding : Finding) : Type 0 where
  pub entry : Option Text
  pub named : IfSome entry (IsIdOf (drop offset source))
  pub is : finding ≡ shape_finding offset entry

-- a report on a finding of this kind
pub record IsReportOf (Kind : Finding → Type 0) (name source report : Text) : Type 0 where
  pub finding : Finding
  pub kind : Kind finding
  pub is : report ≡ finding_report name source finding

-- The report on a source that has no tidy text for this reason. If memory runs out while it is read, it may nest too deep.
abbrev pub IsReport : Text → Text → TidyError → Text → Type 0
IsReport name source Memory report = (report ≡ failure_line name (codes "memory ran out") None) ⊎ IsDepthReport name source report
IsReport name source CarriageReturn report = IsReportOf (IsReturn source) name source report
IsReport name source (Damaged found) report = report ≡ damage_report name source
IsReport name source (NotTidy offset) report = IsReportOf (IsShapeAt source offset) name source report

-- if the reason is damage, it has the errors of the source
abbrev pub HasItsErrors : Text → TidyError → Type 0
HasItsErrors source Memory = ⊤
HasItsErrors source CarriageReturn = ⊤
HasItsErrors source (Damaged found) = map error_view found.items ≡ map error_told (errors source)
HasItsErrors source (NotTidy offset) = ⊤

-- a source is refused for a reason, which is right and is reported
pub record IsRefused (name source report : Text) : Type 0 where
  pub reason : TidyError
  pub refuses : reason ≢ Memory
  pub right : IsReason source reason
  pub reported : IsReport name (plain source) reason report

-- what becomes of a source that has no tidy text for this reason, with this report
abbrev pub end_for : TidyError → Text → FileEnd
end_for Memory report = out_of_memory report
end_for CarriageReturn report = refused report
end_for (Damaged found) report = refused report
end_for (NotTidy offset) report = refused report

-- a source becomes this by a reason for which it has no tidy text: that memory ran out is said only if that is the reason
pub record IsRefusedFor (name source : Text) (reason : TidyError) (end : FileEnd) : Type 0 where
  pub report : Text
  pub is : end ≡ end_for reason report
  pub reported : IsReport name (plain source) reason report

-- ---- one file

-- what becomes of a source
abbrev pub IsSourceEnd : Text → Text → FileEnd → Type 0
IsSourceEnd name source kept = IsTidyText source source
IsSourceEnd name source (changed text) = IsTidyText source text × (text ≢ source)
IsSourceEnd name source (failed f why) = ⊥
IsSourceEnd name source (refused report) = IsRefused name source report
IsSourceEnd name source (out_of_memory report) = IsReport name (plain source) Memory report

-- with `check` nothing is written, and otherwise the text of this file, and no other
abbrev pub Writes : Bool → (Text → Option Text) → (Text → Option Text) → Text → Text → Type 0
Writes true before after name text = after ≡ before
Writes false before after name text = IsReplaced before after name text

-- what the files hold stays, and no call failed
pub record IsLeft (before after : State) : Type 0 where
  pub kept : after.contents ≡ before.contents
  pub works : after.failures ≡ before.failures

-- what the files hold stays, and a call failed
pub record HasFailedOn (before after : State) : Type 0 where
  pub kept : after.contents ≡ before.contents
  pub fails : HasFailed before.failures after.failures

abbrev pub FailsSo : Text → Failure → State → State → Type 0
FailsSo name unreadable before after = HasFailedOn before after
FailsSo name not_utf8 before after = IsLeft before after × IfSome (before.contents name) (λ held. IsUtf8 held → ⊥)
FailsSo name unwritable before after = HasFailedOn before after

-- the text of a file is written, unless it is only checked
pub record ChangesTo (check : Bool) (name text : Text) (before after : State) : Type 0 where
  pub source : OnFile before.contents name (λ source. IsSourceEnd name source (changed text))
  pub writes : Writes check before.contents after.contents name text
  pub works : after.failures ≡ before.failures

-- What becomes of a file, by what it holds, and of the folder.
abbrev pub EndsSo : Bool → Text → FileEnd → State → State → Type 0
EndsSo check name kept before after = IsLeft before after × OnFile before.contents name (λ source. IsSourceEnd name source kept)
EndsSo check name (changed text) before after = ChangesTo check name text before after
EndsSo check name (failed f why) before after = FailsSo name f before after
EndsSo check name (refused report) before after = IsLeft before after × OnFile before.contents name (λ source. IsSourceEnd name source (refused report))
EndsSo check name (out_of_memory report) before after =
    IsLeft before after × OnFile before.contents name (λ source. IsSourceEnd name source (out_of_memory report))

-- ---- files one after the other

-- what is said of files
pub record Said : Type 0 where
  -- the names of those that changed or that aren't tidy, a line each
  pub names : Text
  -- the reports on those that could not be tidied
  pub reports : Text
  -- which errors are, whatever the sources are
  pub reported : Reported
  -- a source was refused, or a file that was checked isn't tidy
  pub has_found : Bool

abbrev pub nothing_said : Said
nothing_said = record { names = []; reports = []; reported = none_reported; has_found = false }

abbrev pub failure_words : Failure → Text
failure_words unreadable = codes "cannot read"
failure_words not_utf8 = codes "not UTF-8"
failure_words unwritable = codes "cannot write"

abbrev pub with_report : Said → Text → Said
with_report s report = record s { reports = s.reports ++ report }

-- and what is said after one more file
abbrev pub said_after : Bool → Said → Text → FileEnd → Said
said_after check s name kept = s
said_after check s name (changed text) = record s { names = s.names ++ ended name; has_found = s.has_found || check }
said_after check s name (failed f why) = record (with_report s (failure_line name (failure_words f) why)) { reported = with_failure s.reported }
said_after check s name (refused report) = record (with_report s report) { has_found = true }
said_after check s name (out_of_memory report) = record (with_report s report) { reported = with_out_of_memory s.reported }

-- and with the lines of the paths that stand for no file
abbrev pub said_of_listed : Said → Listed → Said
said_of_listed s l = record (with_report s l.errors) { reported = record s.reported { no_file = l.no_file } }

-- From a state of the folder files are gone through, one after the other, to another state, and this is said.
pub data GoesThrough (check : Bool) (start : State) : List Text → Said → State → Type 0 where
  at_start : GoesThrough check start [] nothing_said start
  one_more : {names : List Text} {said : Said} {here : State} (name : Text) (end : FileEnd) (there : State) → GoesThrough check start names said here
      → EndsSo check name end here there → GoesThrough check start (names ++ name ∷ []) (said_after check said name end) there

-- ---- all of it

-- The files that the paths stand for are tidied, each once, and this is said.
pub record AreTidied (check : Bool) (paths : List Text) (before after : State) (said : Said) : Type 0 where
  pub listed : Listed
  pub middle : State
  pub lists : AreListed before paths listed middle
  pub done : Said
  pub through : GoesThrough check middle (each_once listed) done after
  pub is : said ≡ said_of_listed done listed

-- The first of these files were gone through when memory ran out: what the files hold is what they did after one of them.
pub record GoesThroughFirst (check : Bool) (names : List Text) (before after : State) : Type 0 where
  pub count : ℕ
  pub said : Said
  pub there : State
  pub through : GoesThrough check before (take count names) said there
  pub stopped : after.contents ≡ there.contents

-- the first of the files that the paths stand for were
pub record AreFirstTidied (check : Bool) (paths : List Text) (before after : State) : Type 0 where
  pub listed : Listed
  pub middle : State
  pub lists : AreListed before paths listed middle
  pub through : GoesThroughFirst check (each_once listed) middle after

-- Memory ran out: while the paths were listed, and then the files hold what they held, or later.
abbrev pub AreTidiedFirst : Bool → List Text → State → State → Type 0
AreTidiedFirst check paths before after = (after.contents ≡ before.contents) ⊎ AreFirstTidied check paths before after
