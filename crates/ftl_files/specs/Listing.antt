-- What is listed.
use Rattle.std.specs.Prelude.{◌==◌, ◌||◌, All, List, [], ◌++◌, codes, if◌then◌else◌, length, map, string_bytes}
use Rattle.std.specs.List.{ends_with}
use Rattle.fluent_serve.specs.Text.{Text}
use Rattle.ftl_files.specs.Files.{IsBelow, IsSourceBelow}
use Rattle.ftl_files.specs.declared.folder.Listing.{Listing}
use Rattle.ftl_files.specs.declared.listing.Walk.{Walk}

-- the names that a name stands for: the sources, and then the folders that can't be listed
abbrev pub listed_names : Listing → List Text
listed_names listing = map string_bytes (listing.sources.items ++ listing.unlisted.items)

-- they are those of a folder
pub record AreListedBelow (folder : Text) (listing : Listing) : Type 0 where
  pub of_sources : All (λ name. IsSourceBelow folder (string_bytes name)) listing.sources.items
  pub of_unlisted : All (λ name. IsBelow folder (string_bytes name)) listing.unlisted.items

-- and so are the folders that are still to be listed
pub record IsWalkBelow (folder : Text) (walk : Walk) : Type 0 where
  pub found : AreListedBelow folder walk.listing
  pub left : All (λ name. IsBelow folder (string_bytes name)) walk.folders.items

-- what is added to a walk is below this folder, and so below each that this one is below
abbrev pub AddsBelow : Text → Walk → Walk → Type 0
AddsBelow folder old new = (root : Text) → IsBelow root folder → IsWalkBelow root old → IsWalkBelow root new

-- what stands between the name of a folder and one in it: a slash, unless the folder ends with one
abbrev pub slash_after : Text → Text
slash_after folder = if (length folder == 0) || ends_with (λ a b. a == b) folder (codes "/") then [] else codes "/"

-- the path of a name in a folder
abbrev pub path_in : Text → Text → Text
path_in folder name = folder ++ (slash_after folder ++ name)
