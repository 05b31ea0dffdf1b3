-- Findings of files that only the reference has, or only a language.
use Rattle.std.specs.Prelude.{◌≡◌, ℕ, ◌==◌, if◌then◌else◌, [], ◌∷◌, ◌++◌, None, codes, decimal}
use Rattle.fluent_grammar.specs.Words.{Text}
use Rattle.lint_findings.specs.View.{file_findings_view}
use Rattle.lint_findings.specs.declared.records.FileFindings.{FileFindings}
use Rattle.lint_findings.specs.Files.{File}
use Rattle.lint_findings.specs.Finding.{Finding, Severity, note, warning}
use Rattle.lint_findings.specs.Findings.{findings_in}

-- a finding that is of no entry
abbrev pub of_file : Severity → Text → ℕ → Text → Finding
of_file severity code offset text = record {
  offset = offset;
  code = code;
  severity = severity;
  entry = None;
  text = text;
  hint = None;
}

abbrev pub plural_of : ℕ → Text
plural_of n = if n == 1 then [] else codes "s"

-- such as `1 message` and `2 messages`
abbrev pub messages_told : ℕ → Text
messages_told n = decimal n ++ (codes " message" ++ plural_of n)

abbrev pub missing_file_finding : ℕ → Finding
missing_file_finding n = of_file warning (codes "missing-file") 0 (codes "the file is missing, with " ++ messages_told n)

-- at this offset of the file that names the language
abbrev pub missing_locale_finding : ℕ → Text → ℕ → Finding
missing_locale_finding offset locale n =
    of_file warning (codes "missing-locale") offset (codes "`" ++ (locale ++ (codes "` has no file, and lacks " ++ messages_told n)))

abbrev pub obsolete_file_finding : ℕ → Finding
obsolete_file_finding n = of_file note (codes "obsolete-file") 0 (codes "the reference has no such file, with " ++ messages_told n)

-- a file that isn't there, by its name
abbrev pub empty_file : Text → File
empty_file name = record { name = name; source = [] }

-- this is found of the file, and nothing else
abbrev pub IsAlone : File → Finding → FileFindings → Type 0
IsAlone file f found = file_findings_view found ≡ findings_in file (f ∷ [])
