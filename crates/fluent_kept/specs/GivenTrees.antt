-- The tree that a JSON text is of, and what is written of it.
use Rattle.std.specs.Prelude.{◌≡◌, Bool, List, Some, None}
use Rattle.serde_json.specs.Data.{Data}
use Rattle.serde_json.specs.Read.{read as read_text}
use Rattle.fluent_grammar.specs.Tree.{Entry}
use Rattle.fluent_grammar.specs.Words.{Text}
use Rattle.fluent_grammar.specs.Written.{written_with}
use Rattle.fluent_json_write.specs.Json.{HasValue, HasNoTree}
use Rattle.fluent_kept.specs.declared.tree.error.TreeError.{TreeError}
use Rattle.fluent_kept.specs.declared.tree.error.TreeError.TheVariants.{Memory, NotJson, NotTree}

-- A JSON text has a value, and it is that of the tree with these entries, with its version or without.
pub record IsTreeOf (json : Text) (entries : List Entry) : Type 0 where
  pub value : Data
  pub read : read_text json ≡ Some value
  pub has_value : HasValue entries value

-- A JSON text has a value, and no tree has it.
pub record IsOfNoTree (json : Text) : Type 0 where
  pub value : Data
  pub read : read_text json ≡ Some value
  pub no_tree : HasNoTree value

-- what is so of a JSON text that gave no tree: if memory ran out, nothing
abbrev pub IsRefusedFor : Text → TreeError → Type 0
IsRefusedFor json Memory = Unit {0}
IsRefusedFor json NotJson = read_text json ≡ None
IsRefusedFor json NotTree = IsOfNoTree json

-- The text that is written of the tree that a JSON text is of, with its junk or without.
pub record IsWrittenOf (json : Text) (with_junk : Bool) (text : Text) : Type 0 where
  pub entries : List Entry
  pub tree : IsTreeOf json entries
  pub is : text ≡ written_with with_junk entries

-- a JSON text is of one tree at most
abbrev pub TextDecides : Type 0
TextDecides = (json : Text) (x y : List Entry) → IsTreeOf json x → IsTreeOf json y → x ≡ y

-- one text at most is written of a JSON text
abbrev pub WritingDecides : Type 0
WritingDecides = (json : Text) (with_junk : Bool) (x y : Text) → IsWrittenOf json with_junk x → IsWrittenOf json with_junk y → x ≡ y
