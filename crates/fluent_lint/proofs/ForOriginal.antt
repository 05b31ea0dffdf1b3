-- What is found in a file, by what it is translated from.
use Rattle.std.proofs.Common.{◌≡◌, ℕ, List, Option, option_map, subst}
use Rattle.std.specs.List.{slice_get}
use Rattle.lint_entries.specs.declared.declarations.Declarations.{Declarations}
use Rattle.lint_findings.specs.Findings.{Rules}
use Rattle.fluent_lint.specs.Pairs.{own_ids}
use Rattle.fluent_lint.specs.Shown.{Catalogs}
use Rattle.fluent_lint.specs.Translated.{FileFound, IsFoundAs, found_with, own_file}
use Rattle.fluent_lint.specs.declared.pairs.Found.{Found}
use Rattle.fluent_lint.specs.declared.pairs.OwnFile.{OwnFile}

-- by the file that may be there
abbrev pub IsFoundWith : Rules → Catalogs → OwnFile → Declarations → Declarations → Found → Option FileFound → Type 0
IsFoundWith rules catalogs own old new found o =
    IsFoundAs (own_file own) (option_map (λ (r : FileFound). own_ids r.file.source) o) old new found (λ before. found_with rules catalogs before (own_file own) o)

pub with_original : (rules : Rules) (catalogs : Catalogs) (own : OwnFile) (old new : Declarations) (found : Found) (reference : List FileFound) (i : ℕ) (o : Option FileFound)
    → o ≡ slice_get reference i → IsFoundWith rules catalogs own old new found o → IsFoundWith rules catalogs own old new found (slice_get reference i)
with_original rules catalogs own old new found reference i o is holds = subst (IsFoundWith rules catalogs own old new found) is holds
