-- What is found in a language, by a reference.
use Rattle.std.specs.Prelude.{◌≡◌, List, [], ◌∷◌, Option, drop, map}
use Rattle.fluent_plurals.specs.declared.plurals.LanguagePlurals.{LanguagePlurals}
use Rattle.lint_findings.specs.declared.records.File as code
use Rattle.lint_findings.specs.Files.{File}
use Rattle.lint_findings.specs.Finding.{Finding}
use Rattle.lint_findings.specs.Findings.{Options, Rules, translation_rules}
use Rattle.fluent_lint.specs.FileTiles.{files_of, files_view}
use Rattle.fluent_lint.specs.ReferenceView.{files_found, named_by}
use Rattle.fluent_lint.specs.Reports.{options_view}
use Rattle.fluent_lint.specs.Silence.{heard, looked_in}
use Rattle.fluent_lint.specs.declared.looked.Looked.{Looked}
use Rattle.fluent_grammar.specs.Words.{Text}
use Rattle.lint_findings.specs.DuplicateIds.{Declaration}
use Rattle.fluent_lint.specs.Taken.{declared_with}
use Rattle.fluent_lint.specs.Shown.{Catalogs}
use Rattle.fluent_lint.specs.Own.{IsWideIn}
use Rattle.lint_entries.specs.declared.declarations.Declarations.{Declarations}
use Rattle.fluent_lint.specs.Translated.{IsFoundAs, FileFound, LanguageFile, found_for, original_ids, own_file}
use Rattle.fluent_lint.specs.declared.original.LanguageFindings.{LanguageFindings}
use Rattle.fluent_lint.specs.declared.original.Original.{Original}
use Rattle.fluent_lint.specs.declared.original.Original.TheVariants as of
use Rattle.fluent_lint.specs.declared.own.OwnFiles.{OwnFiles}
use Rattle.fluent_lint.specs.declared.pairs.Found.{Found}
use Rattle.fluent_lint.specs.declared.pairs.OwnFile.{OwnFile}
use Rattle.fluent_lint.specs.declared.reference.ReferenceCatalog.{ReferenceCatalog}

-- The rules for the files of a language: those for a catalog with its reference, in which no message is compared.
abbrev pub language_rules : Options → List File → List File → Rules
language_rules options references files = record (translation_rules options references files) { compare = λ source e s. [] }

-- what the first file is translated from
abbrev pub first_original : List Original → Original
first_original [] = of.Unasked
first_original (o ∷ os) = o

-- what is found in files, each translated from the one of the same place
module _ (rules : Rules) (catalogs : Catalogs) (reference : List FileFound) where
  -- after these declarations of earlier files
  abbrev pub found_from : List Declaration → List Original → List File → List LanguageFile
  found_from before os [] = []
  found_from before os (file ∷ files) =
      found_for rules catalogs before file reference (first_original os)
      ∷ found_from (declared_with (original_ids reference (first_original os)) file before) (drop 1 os) files

  abbrev pub found_each : List Original → List File → List LanguageFile
  found_each os files = found_from [] os files

-- What is told of a file: what is found, without what its comments leave out.
abbrev pub told_of : Looked → Text → LanguageFile → LanguageFile
told_of looked source l = record { findings = heard looked source l.findings; messages = l.messages }

module _ (rules : Rules) (catalogs : Catalogs) (reference : List FileFound) where
  abbrev pub told_for : List Declaration → File → Original → LanguageFile
  told_for before file o = told_of (looked_in rules.plurals o) file.source (found_for rules catalogs before file reference o)

  -- the same of each file
  abbrev pub told_from : List Declaration → List Original → List File → List LanguageFile
  told_from before os [] = []
  told_from before os (file ∷ files) =
      told_for before file (first_original os)
      ∷ told_from (declared_with (original_ids reference (first_original os)) file before) (drop 1 os) files

  abbrev pub told_each : List Original → List File → List LanguageFile
  told_each os files = told_from [] os files

-- ---- in the code

-- the findings of files, of each its own
abbrev pub findings_by_file : LanguageFindings → List (List Finding)
findings_by_file found = map (λ (f : FileFound). f.findings) (files_found found.files.items)

-- these are they, of these files
pub record AreFoundEach (rules : Rules) (catalogs : Catalogs) (reference : List FileFound) (originals : List Original) (files : List code.File) (found : LanguageFindings) : Type 0 where
  pub named : named_by found.files.items ≡ files
  pub findings : findings_by_file found ≡ map (λ (l : LanguageFile). l.findings) (told_each rules catalogs reference originals (files_view files))
  pub messages : found.messages.items ≡ map (λ (l : LanguageFile). l.messages) (told_each rules catalogs reference originals (files_view files))

-- the files of a language, and those of a reference
abbrev pub catalogs_with : ReferenceCatalog → List File → Catalogs
catalogs_with reference files = record { mine = files; theirs = files_view reference.read.now.files.now }

abbrev pub catalogs_of : ReferenceCatalog → List code.File → Catalogs
catalogs_of reference files = catalogs_with reference (files_view files)

abbrev pub AreFoundIn : Rules → ReferenceCatalog → List Original → OwnFiles → LanguageFindings → Type 0
AreFoundIn rules reference originals own found =
    AreFoundEach rules (catalogs_of reference (files_of own.tiles.items)) (files_found reference.found.items) originals (files_of own.tiles.items) found

-- this is what is found in a file, by what it is translated from
abbrev pub IsFoundFor : Rules → Catalogs → ReferenceCatalog → OwnFile → Original → Declarations → Declarations → Found → Type 0
IsFoundFor rules catalogs reference own original old new found =
    IsFoundAs (own_file own) (original_ids (files_found reference.found.items) original) old new found
    (λ before. found_for rules catalogs before (own_file own) (files_found reference.found.items) original)

-- whichever the files of the language are that this one is among
abbrev pub IsFoundForAll : Rules → ReferenceCatalog → OwnFile → Original → Declarations → Declarations → Found → Type 0
IsFoundForAll rules reference own original old new found =
    (files : List File) → IsWideIn files own → IsFoundFor rules (catalogs_with reference files) reference own original old new found

-- what is known of the program, and of a language with these plural rules
abbrev pub options_for : ReferenceCatalog → Option LanguagePlurals → Options
options_for reference plurals = record (options_view reference.options) { plurals = plurals }

abbrev pub rules_for : ReferenceCatalog → Option LanguagePlurals → List code.File → Rules
rules_for reference plurals files = language_rules (options_for reference plurals) (files_view reference.read.now.files.now) (files_view files)

-- these are found in the files of a language
abbrev pub AreFoundInLanguage : ReferenceCatalog → Option LanguagePlurals → List Original → List code.File → LanguageFindings → Type 0
AreFoundInLanguage reference plurals originals files found =
    AreFoundEach (rules_for reference plurals files) (catalogs_of reference files) (files_found reference.found.items) originals files found
