-- The files of a language, each with what it is translated from, and what is found in them.
use Rattle.std.specs.Prelude.{◌≡◌, ℕ, List, [], ◌∷◌, ◌++◌, Option, Some, None, Vec, length, map, option_map}
use Rattle.std.specs.Global.{Global}
use Rattle.std.specs.List.{slice_get}
use Rattle.lint_findings.specs.View.{file_view, finding_view}
use Rattle.lint_findings.specs.declared.records.Finding as code
use Rattle.lint_findings.specs.Files.{File}
use Rattle.lint_findings.specs.Finding.{Finding}
use Rattle.lint_findings.specs.Findings.{Rules}
use Rattle.fluent_lint.specs.Lone.{obsolete_file_finding}
use Rattle.fluent_meaning.specs.Ids.{Ids}
use Rattle.lint_entries.specs.First.{AreFirst}
use Rattle.lint_entries.specs.declared.declarations.Declarations.{Declarations}
use Rattle.lint_findings.specs.DuplicateIds.{Declaration}
use Rattle.fluent_lint.specs.Own.{AreShown}
use Rattle.fluent_lint.specs.Pairs.{by_place, found_in_file, gaps, message_ids, new_among, own_ids, translated_count}
use Rattle.fluent_lint.specs.Shown.{Catalogs, differences}
use Rattle.fluent_lint.specs.Taken.{declared_with, taken}
use Rattle.fluent_lint.specs.declared.original.Messages.{Messages}
use Rattle.fluent_lint.specs.declared.original.Original.{Original}
use Rattle.fluent_lint.specs.declared.original.Original.TheVariants as of
use Rattle.fluent_lint.specs.declared.pairs.Found.{Found}
use Rattle.fluent_lint.specs.declared.pairs.OriginalFile.{OriginalFile}
use Rattle.fluent_lint.specs.declared.pairs.OwnFile.{OwnFile}
use Rattle.fluent_lint.specs.declared.tiles.FileTiles.{FileTiles}

-- a file with all that is found in it
pub record FileFound : Type 0 where
  pub file : File
  pub findings : List Finding

-- messages that no finding tells one by one
abbrev pub translated_of : ℕ → Messages
translated_of n = record { translated = n; lacking = 0; alone = 0 }

abbrev pub lacking_of : ℕ → Messages
lacking_of n = record { translated = 0; lacking = n; alone = 0 }

abbrev pub alone_of : ℕ → Messages
alone_of n = record { translated = 0; lacking = 0; alone = n }

-- what is found in a file of a language, and its messages
pub record LanguageFile : Type 0 where
  pub findings : List Finding
  pub messages : Messages

module _ (rules : Rules) (catalogs : Catalogs) (before : List Declaration) (file : File) where
  -- by itself, after these declarations of earlier files
  abbrev pub found_after : Option (Ids (Unit {0})) → List Finding
  found_after original = found_in_file rules file ++ taken original file before

  abbrev pub found_alone : LanguageFile
  found_alone = record { findings = by_place (found_after None); messages = translated_of 0 }

  -- of a file that the reference hasn't
  abbrev pub found_obsolete : LanguageFile
  found_obsolete =
      let count = length (message_ids file) in
      record { findings = by_place (found_after None ++ obsolete_file_finding count ∷ []); messages = alone_of count }

  -- Of a file that is translated from another: what that one has as well is left out, but how messages differ and which are missing.
  abbrev pub found_in_pair : FileFound → List Finding
  found_in_pair r =
      by_place (new_among r.findings (found_after (Some (own_ids r.file.source)))
      ++ (differences rules.plurals catalogs.mine catalogs.theirs file r.file ++ gaps file r.file))

  -- if that is there
  abbrev pub found_with : Option FileFound → LanguageFile
  found_with None = found_alone
  found_with (Some r) = record { findings = found_in_pair r; messages = translated_of (translated_count file r.file) }

  -- by the files of the reference with what is found in them
  abbrev pub found_for : List FileFound → Original → LanguageFile
  found_for reference (of.File i) = found_with (slice_get reference i)
  found_for reference of.Lacking = found_obsolete
  found_for reference of.Unasked = found_alone

-- what a file is translated from, by its messages and terms
abbrev pub original_ids : List FileFound → Original → Option (Ids (Unit {0}))
original_ids reference (of.File i) = option_map (λ (r : FileFound). own_ids r.file.source) (slice_get reference i)
original_ids reference of.Lacking = None
original_ids reference of.Unasked = None

-- ---- in the code

abbrev pub found_view : Found → LanguageFile
found_view found = record { findings = map finding_view found.findings.items; messages = found.messages }

abbrev pub own_file : OwnFile → File
own_file own = file_view own.tiles.now.file

abbrev pub original_view : OriginalFile → FileFound
original_view original = record { file = own_file original.file; findings = map finding_view original.known.now }

-- those that are like none of these are kept
abbrev pub KeepsNew : List code.Finding → Vec code.Finding Global → Vec code.Finding Global → Type 0
KeepsNew known old new = map finding_view new.items ≡ new_among (map finding_view known) (map finding_view old.items)

-- these are the findings of a file by itself
abbrev pub AreFoundInFile : Rules → FileTiles → Vec code.Finding Global → Type 0
AreFoundInFile rules tiled found = map finding_view found.items ≡ found_in_file rules (file_view tiled.file)

-- what is found in a file, after these declarations, which get its own
pub record IsFoundAs (file : File) (original : Option (Ids (Unit {0}))) (old new : Declarations) (found : Found) (these : List Declaration → LanguageFile) : Type 0 where
  pub found_is : (before : List Declaration) → AreFirst old before → found_view found ≡ these before
  pub declared : (before : List Declaration) → AreFirst old before → AreFirst new (declared_with original file before)

abbrev pub IsFoundInPair : Rules → Catalogs → OwnFile → OriginalFile → Declarations → Declarations → Found → Type 0
IsFoundInPair rules catalogs own original old new found =
    IsFoundAs (own_file own) (Some (own_ids (own_file original.file).source)) old new found
    (λ before. found_with rules catalogs before (own_file own) (Some (original_view original)))

abbrev pub IsFoundAlone : Rules → Catalogs → File → Declarations → Declarations → Found → Type 0
IsFoundAlone rules catalogs file old new found = IsFoundAs file None old new found (λ before. found_alone rules catalogs before file)

abbrev pub IsFoundObsolete : Rules → Catalogs → File → Declarations → Declarations → Found → Type 0
IsFoundObsolete rules catalogs file old new found = IsFoundAs file None old new found (λ before. found_obsolete rules catalogs before file)

-- whichever the files are that these two are among
abbrev pub IsFoundInPairOfAll : Rules → OwnFile → OriginalFile → Declarations → Declarations → Found → Type 0
IsFoundInPairOfAll rules own original old new found =
    (catalogs : Catalogs) → AreShown catalogs own original.file → IsFoundInPair rules catalogs own original old new found

abbrev pub IsFoundAloneOfAll : Rules → FileTiles → Declarations → Declarations → Found → Type 0
IsFoundAloneOfAll rules tiles old new found = (catalogs : Catalogs) → IsFoundAlone rules catalogs (file_view tiles.file) old new found

abbrev pub IsFoundObsoleteOfAll : Rules → FileTiles → Declarations → Declarations → Found → Type 0
IsFoundObsoleteOfAll rules tiles old new found = (catalogs : Catalogs) → IsFoundObsolete rules catalogs (file_view tiles.file) old new found
