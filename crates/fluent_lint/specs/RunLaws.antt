-- What a report says of `ftl run`, by the definitions of its answers.
use Rattle.std.specs.Prelude.{◌≡◌, Bool, true, false, List, [], ◌∷◌, map, All, Option, Some, None, count_by, is_some, codes}
use Rattle.fluent_grammar.specs.Words.{Text, is_among}
use Rattle.fluent_errors.specs.Errors.{Unresolved}
use Rattle.fluent_errors.specs.Texts.{resolver_text}
use Rattle.fluent_value.specs.Args.{all_set}
use Rattle.fluent_value.specs.Value.{Value}
use Rattle.fluent_meaning.specs.Environment.{Environment}
use Rattle.fluent_meaning.specs.Ids.{find}
use Rattle.fluent_meaning.specs.ReachLaws.{over}
use Rattle.fluent_serve.specs.Frames.{Reply}
use Rattle.fluent_serve.specs.Requests.{Request}
use Rattle.fluent_answers.specs.Answers.{reply_to}
use Rattle.fluent_answers.specs.Sources.{ids_of}
use Rattle.lint_findings.specs.Comparison.{without}
use Rattle.lint_findings.specs.Files.{File}
use Rattle.lint_findings.specs.Findings.{Options, FileFinding, known_functions, sources}
use Rattle.lint_findings.specs.ReportLaws.{HasOwnIds, IsClean, IsOfRequest, LacksNothing, harmful_codes, missing_codes}
use Rattle.fluent_lint.specs.LintReport.{all_findings}
use Rattle.fluent_lint.specs.Found.{AreUnsilenced, reported}
use Rattle.fluent_lint.specs.Reported.{kept}

-- ---- what is reported

-- A report on files without comments that leave findings out has the findings whose code isn't ignored, and each as often: a test
-- passes as many of the one as of the other.
abbrev pub ReportsAreFindings : Type 0
ReportsAreFindings = (options : Options) (ignored : List Text) (references files : List File) (test : FileFinding → Bool) →
    AreUnsilenced files → count_by test (reported options ignored references files)
    ≡ count_by test (kept (λ (f : FileFinding). f.finding) ignored (all_findings options references files))

-- none of these codes is ignored
abbrev pub NoneIsIgnored : List Text → List Text → Type 0
NoneIsIgnored names ignored = All (λ name. is_among name ignored ≡ false) names

-- ---- what it says of replies

-- No function is known but `NUMBER`, the one that `ftl run` has.
abbrev pub KnowsNumberAlone : Options → List File → Type 0
KnowsNumberAlone options references = without (known_functions options references) (codes "NUMBER" ∷ []) ≡ []

-- What there is for a request, by the ids that `ftl run` has of sources. All else of the environment may be anything.
abbrev pub replied : {S F : Type 0} → Environment S F → Bool → List Text → Request (Value S) → Option Reply
replied env overriding sources r = reply_to (over (find (ids_of overriding sources)) env) r

-- The errors of a reply, if there is one, depend on the request.
abbrev pub HasErrorsOfRequest : {S : Type 0} → List (Text × Value S) → Option Reply → Type 0
HasErrorsOfRequest args None = Unit {0}
HasErrorsOfRequest args (Some reply) =
    (es : List Unresolved) × ((reply.errors ≡ map resolver_text es) × All (IsOfRequest args) es)

-- each reply from the files has such errors, if the first entry of an id counts, or the last
abbrev pub RepliesWell : Type 0 → Type 0 → Bool → List File → Type 0
RepliesWell S F overriding files = (env : Environment S F) (r : Request (Value S)) →
    HasErrorsOfRequest (all_set [] r.arguments) (replied env overriding (sources files) r)

-- If a report has no harmful finding, no comment of its files leaves a finding out, and no code of such findings is ignored, each
-- reply of `ftl run` from its files has only errors that depend on the request.
abbrev pub CleanReportsReplyWell : Type 0 → Type 0 → Type 0
CleanReportsReplyWell S F = (options : Options) (ignored : List Text) (references files : List File) → AreUnsilenced files → KnowsNumberAlone options references →
    NoneIsIgnored harmful_codes ignored → IsClean (reported options ignored references files) → RepliesWell S F false files

-- If it has none of a taken id either, so has each reply with `--overriding`.
abbrev pub OwnIdsReplyWell : Type 0 → Type 0 → Type 0
OwnIdsReplyWell S F = (options : Options) (ignored : List Text) (references files : List File) → AreUnsilenced files → KnowsNumberAlone options references →
    NoneIsIgnored (codes "duplicate-id" ∷ harmful_codes) ignored → IsClean (reported options ignored references files) →
    HasOwnIds (reported options ignored references files) → RepliesWell S F true files

-- If it says of nothing that it is missing, and these codes aren't ignored, `ftl run` has a reply from its files to each
-- request that it has a reply to from the reference.
abbrev pub TranslationsReply : Type 0 → Type 0 → Type 0
TranslationsReply S F = (options : Options) (ignored : List Text) (references files : List File) → AreUnsilenced files → KnowsNumberAlone options references →
    NoneIsIgnored missing_codes ignored → LacksNothing (reported options ignored references files) →
    (env : Environment S F) (r : Request (Value S)) →
    is_some (replied env false (sources references) r) ≡ true → is_some (replied env false (sources files) r) ≡ true
