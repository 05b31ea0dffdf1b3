-- What the findings of a language say of `ftl run`.
use Rattle.std.specs.Prelude.{false, List, All}
use Rattle.lint_findings.specs.Files.{File}
use Rattle.lint_findings.specs.Findings.{Options}
use Rattle.lint_findings.specs.ReportLaws.{HasHarmlessCode}
use Rattle.fluent_lint.specs.Languages.{found_each, language_rules}
use Rattle.fluent_lint.specs.Shown.{Catalogs}
use Rattle.fluent_lint.specs.RunLaws.{KnowsNumberAlone, RepliesWell}
use Rattle.fluent_lint.specs.Translated.{FileFound, LanguageFile}
use Rattle.fluent_lint.specs.declared.original.Original.{Original}

-- no finding of the files has a harmful code
abbrev pub AreFilesClean : List FileFound → Type 0
AreFilesClean rs = All (λ (r : FileFound). All HasHarmlessCode r.findings) rs

abbrev pub IsLanguageClean : List LanguageFile → Type 0
IsLanguageClean ls = All (λ (l : LanguageFile). All HasHarmlessCode l.findings) ls

-- If neither the files of a reference nor those of a language have a harmful finding, whichever file is translated from
-- which, each reply of `ftl run` from the language's files has only errors that depend on the request.
abbrev pub CleanLanguagesReplyWell : Type 0 → Type 0 → Type 0
CleanLanguagesReplyWell S F = (options : Options) (references files : List File) (catalogs : Catalogs) (reference : List FileFound) (originals : List Original) →
    KnowsNumberAlone options references → AreFilesClean reference →
    IsLanguageClean (found_each (language_rules options references files) catalogs reference originals files) → RepliesWell S F false files
