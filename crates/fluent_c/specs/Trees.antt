-- The source that is written of a tree, which is given as JSON, for C.
use Rattle.std.specs.Prelude.{◌≡◌, ◌≢◌, ℕ, Bool, [], ◌∷◌, None, IsUtf8}
use Rattle.serde_json.specs.Read.{read as read_text}
use Rattle.fluent_grammar.specs.Words.{Text}
use Rattle.fluent_kept.specs.GivenTrees.{IsOfNoTree, IsWrittenOf}
use Rattle.fluent_c.specs.Made.{Holds}
use Rattle.fluent_c.specs.Statuses.{IsOneOf}
use Rattle.fluent_c.specs.declared.TheConstants.{FLUENT_READ, FLUENT_NOT_UTF8, FLUENT_NO_MEMORY, FLUENT_NOT_JSON, FLUENT_NOT_TREE}
use Rattle.fluent_c.specs.declared.text.FluentText.{FluentText}

-- a text holds what is written of the tree that a JSON text is of; it is of one tree at most
pub record HoldsWrittenTree (json : Text) (with_junk : Bool) (made : FluentText) : Type 0 where
  pub text : Text
  pub is_written : IsWrittenOf json with_junk text
  pub held : Holds made text

-- what a call returns that writes such a tree
pub record WritesTree (json : Text) (status : ℕ) : Type 0 where
  pub decided : IsOneOf status (FLUENT_READ ∷ FLUENT_NOT_UTF8 ∷ FLUENT_NO_MEMORY ∷ FLUENT_NOT_JSON ∷ FLUENT_NOT_TREE ∷ [])
  pub not_utf8 : status ≡ FLUENT_NOT_UTF8 → ¬ (IsUtf8 json)
  pub utf8 : status ≢ FLUENT_NOT_UTF8 → IsUtf8 json
  pub not_json : status ≡ FLUENT_NOT_JSON → read_text json ≡ None
  pub not_tree : status ≡ FLUENT_NOT_TREE → IsOfNoTree json
