-- What is found in files, and what is left of it.
use Rattle.std.specs.Prelude.{◌≡◌, All, Bool, true, false, List, [], ◌∷◌, ◌++◌, Option, Some, is_some, Vec, map}
use Rattle.std.specs.Global.{Global}
use Rattle.lint_files.specs.PartFindings.{declared_in, findings_of_file}
use Rattle.lint_entries.specs.First.{AreFirst}
use Rattle.lint_entries.specs.declared.declarations.Declarations.{Declarations}
use Rattle.lint_findings.specs.View.{file_findings_view, file_view, finding_view, findings_view}
use Rattle.lint_findings.specs.declared.records.File.{File}
use Rattle.lint_findings.specs.declared.records.FileFindings.{FileFindings}
use Rattle.lint_findings.specs.declared.records.Finding.{Finding}
use Rattle.lint_findings.specs.DuplicateIds.{Declaration}
use Rattle.lint_findings.specs.Files as f
use Rattle.lint_findings.specs.Findings.{FileFinding, Options, Rules, catalog_rules, findings_in, missing_messages, translation_rules}
use Rattle.fluent_lint.specs.FileTiles.{files_of, files_view}
use Rattle.fluent_plurals.specs.declared.plurals.LanguagePlurals.{LanguagePlurals}
use denote.Ref.{Bor}
use Rattle.fluent_grammar.specs.Words.{Text}
use Rattle.fluent_resource.specs.Sources.{texts}
use Rattle.fluent_lint.specs.Missing.{missing_in_files}
use Rattle.fluent_lint.specs.Pairs.{by_place}
use Rattle.fluent_lint.specs.Reported.{kept_of}
use Rattle.fluent_lint.specs.Silence.{heard_if, silences}
use Rattle.fluent_lint.specs.declared.looked.Looked.{Looked}
use Rattle.fluent_lint.specs.declared.tiles.FileTiles.{FileTiles}

-- the declarations of a file come after those that are known
abbrev pub DeclaresFile : Declarations → Declarations → File → Type 0
DeclaresFile old new file = (before : List Declaration) → AreFirst old before → AreFirst new (before ++ declared_in (file_view file))

-- these are the findings of a file after the declarations that are known, in the order of their offsets
abbrev pub IsOrderedInFile : Rules → Declarations → File → Vec Finding Global → Type 0
IsOrderedInFile rules known file found = (before : List Declaration) → AreFirst known before →
    map finding_view found.items ≡ by_place (findings_of_file rules before (file_view file))

-- What is found in files, one after the other. Comments leave some out, if it is known what is looked for.
module _ (rules : Rules) (looked : Option Looked) where
  abbrev pub found_by_file : List Declaration → f.File → List FileFinding
  found_by_file before file = findings_in file (heard_if looked file.source (by_place (findings_of_file rules before file)))

  abbrev pub found_by_files : List Declaration → List f.File → List FileFinding
  found_by_files before [] = []
  found_by_files before (file ∷ files) = found_by_file before file ++ found_by_files (before ++ declared_in file) files

-- this is found in files
abbrev pub AreFoundIn : Rules → Option Looked → List FileTiles → Vec FileFindings Global → Type 0
AreFoundIn rules looked files found = findings_view found.items ≡ found_by_files rules looked [] (files_view (files_of files))

-- what is found in files by these rules, and then the missing messages of a reference
abbrev pub found_by : Rules → Option Looked → List f.File → List f.File → List FileFinding
found_by rules looked references files = found_by_files rules looked [] files ++ missing_in_files rules.ids references

-- this is all of it
abbrev pub AreAllFound : Rules → Looked → List FileTiles → List FileTiles → Vec FileFindings Global → Type 0
AreAllFound rules looked references files found =
    findings_view found.items ≡ found_by rules (Some looked) (files_view (files_of references)) (files_view (files_of files))

-- ---- by what is known of the program and of the language

abbrev pub is_any : {X : Type 0} → List X → Bool
is_any [] = false
is_any (x ∷ xs) = true

-- what is looked for in a catalog: by plural rules if there are some, and by a reference if it has files
abbrev pub looked_by : Option LanguagePlurals → List f.File → Looked
looked_by plurals references = record { plurals = is_some plurals; differences = is_any references; gaps = false }

abbrev pub looked_with : Options → List f.File → Looked
looked_with options references = looked_by options.plurals references

-- What is found of a catalog with its reference. A catalog without a reference is looked at by itself.
abbrev pub told_if : Option Looked → Options → List f.File → List f.File → List FileFinding
told_if looked options [] files = found_by_files (catalog_rules options files) looked [] files
told_if looked options (r ∷ rs) files =
    found_by_files (translation_rules options (r ∷ rs) files) looked [] files ++ missing_messages options (r ∷ rs) files

-- without what comments leave out
abbrev pub told : Options → List f.File → List f.File → List FileFinding
told options references files = told_if (Some (looked_with options references)) options references files

-- with these codes ignored
abbrev pub reported : Options → List Text → List f.File → List f.File → List FileFinding
reported options ignored references files = kept_of ignored (told options references files)

-- no comment of these files leaves a finding out
abbrev pub AreUnsilenced : List f.File → Type 0
AreUnsilenced files = All (λ (file : f.File). silences file.source ≡ []) files

-- of what is found in files, that is left whose code isn't ignored
abbrev pub AreKept : List (Bor Text) → List FileFindings → List FileFindings → Type 0
AreKept ignored old new = findings_view new ≡ kept_of (texts ignored) (findings_view old)

abbrev pub AreKeptOf : List (Bor Text) → FileFindings → FileFindings → Type 0
AreKeptOf ignored old new = file_findings_view new ≡ kept_of (texts ignored) (file_findings_view old)
