-- Laws of tidying, as statements.
use Rattle.std.specs.Prelude.{◌≡◌, ◌↔◌, false, List}
use Rattle.fluent_grammar.specs.Words.{Text}
use Rattle.fluent_grammar.specs.Tree.{Entry}
use Rattle.fluent_grammar.specs.Tiling.{tree}
use Rattle.fluent_tidy_laws.specs.Cut.{cut}
use Rattle.fluent_json.specs.Selectors.{selects_by_attribute}
use Rattle.fluent_json.specs.Json.{json, unversioned_json, HasNoTree}
use Rattle.fluent_tidy_laws.specs.Normal.{IsNormalText, HasNoNormalText}
use Rattle.fluent_tidy.specs.Trees.{IsImported, IsNotImported}

-- What the JSON tree of a source is imported as.
pub record ImportsExport (source : Text) : Type 0 where
  pub text : (text : Text) → IsImported (json (tree (cut source))) text ↔ IsNormalText source text
  pub not_normal : IsNotImported (json (tree (cut source))) ↔ HasNoNormalText source
  pub never_shape : HasNoTree (json (tree (cut source))) → ⊥

abbrev pub ExportsAreImported : Type 0
ExportsAreImported = (source : Text) → ImportsExport source

-- What the value without a version is imported as: what the one with a version is.
pub record ImportsAlike (entries : List Entry) : Type 0 where
  pub text : (text : Text) → IsImported (unversioned_json entries) text ↔ IsImported (json entries) text
  pub not_normal : IsNotImported (unversioned_json entries) ↔ IsNotImported (json entries)
  pub never_shape : HasNoTree (unversioned_json entries) → ⊥

-- So it is for each tree that has such a value.
abbrev pub VersionsAreImportedAlike : Type 0
VersionsAreImportedAlike = (entries : List Entry) → selects_by_attribute entries ≡ false → ImportsAlike entries
