-- Which files a report on a project is narrowed to.
use Rattle.std.specs.Prelude.{Bool, true, ◌||◌, List, [], ◌∷◌, filter, is_some}
use Rattle.std.specs.List.{flat_map, list_any}
use Rattle.std.specs.Str.{bytes_eq}
use Rattle.fluent_grammar.specs.Words.{Text}
use Rattle.fluent_project.specs.Relative.{below}
use Rattle.fluent_project.specs.Taking.{is_none}
use Rattle.lint_findings.specs.Findings.{FileFinding}

-- A path is this one, or below it. Each is below the current folder, whose path may be empty.
abbrev pub is_in : Text → Text → Bool
is_in folder path = is_none folder || (bytes_eq path folder || is_some (below folder path))

-- it is one of these, or below one; without any, each is chosen
abbrev pub is_chosen : List Text → Text → Bool
is_chosen [] path = true
is_chosen (first ∷ others) path = list_any (λ folder. is_in folder path) (first ∷ others)

-- what is found in a file, with its path
pub record PathFound : Type 0 where
  pub path : Text
  pub found : List FileFinding

-- what is found in the files that are chosen, in their order
abbrev pub chosen : List Text → List PathFound → List FileFinding
chosen only files = flat_map (λ (f : PathFound). f.found) (filter (λ (f : PathFound). is_chosen only f.path) files)
