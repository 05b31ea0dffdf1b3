-- The files of a reference.
use Rattle.std.specs.Prelude.{◌≡◌, ℕ, List, [], ◌∷◌, Option, option_map, string_bytes}
use denote.Ref.{Bor}
use Rattle.fluent_grammar.specs.Words.{Text}
use Rattle.fluent_project.specs.Relative.{relative}
use Rattle.lint_findings.specs.View.{file_view}
use Rattle.ftl_project.specs.FilesRead.{IsPlaceOf, read_if}
use Rattle.ftl_project.specs.declared.reference.ReferenceFile.{ReferenceFile}
use Rattle.ftl_project.specs.declared.sources.Sources.{Sources}

-- each of the second list is what the one at its place in the first says
abbrev pub Paired : {A B : Type 0} → (A → B → Type 0) → List A → List B → Type 0
Paired Is [] [] = Unit {0}
Paired Is [] (b ∷ ys) = ⊥
Paired Is (a ∷ xs) [] = ⊥
Paired Is (a ∷ xs) (b ∷ ys) = Is a b × Paired Is xs ys

-- A file of the reference, by its path: its name is the path as it is seen from the current folder, and it is what was read at the
-- place of the path among all files.
pub record IsReference (here : Text) (files : List Text) (sources : Sources) (path : Bor Text) (r : ReferenceFile) : Type 0 where
  pub place : Option ℕ
  pub path_is : r.path.now ≡ path.now
  pub name_is : string_bytes r.name ≡ relative here path.now
  pub is_place : IsPlaceOf path.now files place
  pub file_is : option_map file_view r.file ≡ read_if sources.files.items place

abbrev pub AreReferences : Text → List Text → Sources → List (Bor Text) → List ReferenceFile → Type 0
AreReferences here files sources paths rs = Paired (IsReference here files sources) paths rs
