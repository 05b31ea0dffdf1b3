-- Trees, their written texts and their JSON values.
use Rattle.std.specs.Prelude.{◌≡◌, List, []}
use Rattle.serde_json.specs.Data.{Data}
use Rattle.fluent_grammar.specs.Words.{Text}
use Rattle.fluent_grammar.specs.Tree as t
use Rattle.fluent_grammar.specs.Tiling.{tree, errors}
use Rattle.fluent_grammar.specs.Written.{written}
use Rattle.fluent_json.specs.Json.{HasValue}
use Rattle.fluent_tidy_laws.specs.Normal.{IsCanonical}

-- A text is read whole, and as these entries.
pub record IsReadAs (text : Text) (entries : List t.Entry) : Type 0 where
  pub no_junk : errors text ≡ []
  pub read_back : tree text ≡ entries

-- The text of a JSON value, with a version or without: what is written of its tree, which is canonical.
pub record IsImported (value : Data) (text : Text) : Type 0 where
  pub entries : List t.Entry
  pub has_value : HasValue entries value
  pub canonical : IsCanonical entries
  pub is : text ≡ written entries

-- The value of a tree that isn't canonical.
pub record IsNotImported (value : Data) : Type 0 where
  pub entries : List t.Entry
  pub has_value : HasValue entries value
  pub not_canonical : IsCanonical entries → ⊥
