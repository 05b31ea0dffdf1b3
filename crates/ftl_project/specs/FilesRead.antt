-- Which files of a project were read.
use Rattle.std.specs.Prelude.{◌≡◌, ℕ, false, List, Option, None, Some, option_and_then, option_map}
use Rattle.std.specs.Cmp.Lexicographic.{slice_cmp}
use Rattle.std.specs.List.{slice_get}
use Rattle.std.specs.List.Sorted.{IsStrictlySortedBy}
use Rattle.std.specs.Ordering.{nat_cmp}
use Rattle.fluent_grammar.specs.Words.{Text}
use Rattle.fluent_project.specs.Pairs.{is_among}
use Rattle.ftl_files.specs.TidyView.{source_view}
use Rattle.ftl_files.specs.declared.reading.SourceFile.{SourceFile}
use Rattle.lint_findings.specs.Files.{File}

-- paths in the order of their bytes, each once
abbrev pub AreInOrder : List Text → Type 0
AreInOrder paths = IsStrictlySortedBy (slice_cmp nat_cmp) paths

-- A path is at this place among others. Without one it isn't among them, if they are in order.
abbrev pub IsPlaceOf : Text → List Text → Option ℕ → Type 0
IsPlaceOf path paths (Some place) = slice_get paths place ≡ Some path
IsPlaceOf path paths None = AreInOrder paths → is_among paths path ≡ false

-- what was read of the file at this place
abbrev pub read_at : List (Option SourceFile) → ℕ → Option File
read_at files place = option_and_then (λ f. option_map source_view f) (slice_get files place)

abbrev pub read_if : List (Option SourceFile) → Option ℕ → Option File
read_if files place = option_and_then (read_at files) place
