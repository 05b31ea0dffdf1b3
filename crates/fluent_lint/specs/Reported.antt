-- Which findings are reported, and in which order.
use Rattle.std.specs.Prelude.{not, List, [], ◌∷◌, ◌++◌, filter}
use Rattle.std.specs.List.{flat_map}
use Rattle.fluent_grammar.specs.Words.{Text, is_among}
use Rattle.lint_findings.specs.DuplicateIds.{Declaration}
use Rattle.lint_findings.specs.Files.{File}
use Rattle.lint_findings.specs.Finding.{Finding}
use Rattle.lint_findings.specs.Findings.{Options, Rules, FileFinding, FileTile, catalog_rules, declarations_of_tile, findings_of_tiles, missing_messages, tiles_in, translation_rules}
use Rattle.fluent_lint.specs.InOrder.{in_order}

-- findings of one file, in the order of their offsets
abbrev pub ordered : List FileFinding → List FileFinding
ordered fs = in_order (λ (f : FileFinding). f.finding.offset) fs

module _ (rules : Rules) where
  abbrev pub declarations_in : File → List Declaration
  declarations_in file = flat_map (λ (t : FileTile). declarations_of_tile rules t.file t.tile) (tiles_in file)

  -- of files one after the other, after these declarations
  abbrev pub found_in_files : List Declaration → List File → List FileFinding
  found_in_files before [] = []
  found_in_files before (file ∷ files) =
      ordered (findings_of_tiles rules before (tiles_in file)) ++ found_in_files (before ++ declarations_in file) files

-- What is found in a catalog and its reference. A catalog without a reference is looked at by itself. The missing
-- messages come last.
abbrev pub found : Options → List File → List File → List FileFinding
found options [] files = found_in_files (catalog_rules options files) [] files
found options (r ∷ rs) files =
    found_in_files (translation_rules options (r ∷ rs) files) [] files ++ missing_messages options (r ∷ rs) files

-- those whose code isn't ignored
abbrev pub kept : {X : Type 0} → (X → Finding) → List Text → List X → List X
kept finding ignored xs = filter (λ x. not (is_among (finding x).code ignored)) xs

-- the same of findings with their file
abbrev pub kept_of : List Text → List FileFinding → List FileFinding
kept_of ignored fs = kept (λ (f : FileFinding). f.finding) ignored fs
