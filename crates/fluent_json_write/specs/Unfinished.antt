-- The members of objects that are not finished.
use Rattle.std.specs.Prelude.{ℕ, List, [], ◌∷◌, Option, String, codes}
use Rattle.std.specs.declared.alloc.Global.{Global}
use Rattle.serde_json.specs.Data.{Members, string, array}
use Rattle.fluent_ast.specs.declared.Attribute.{Attribute}
use Rattle.fluent_ast.specs.declared.Comment.{Comment}
use Rattle.fluent_ast.specs.declared.Identifier.{Identifier}
use Rattle.fluent_json_write.specs.Objects.{members}
use Rattle.fluent_json_write.specs.Parts.{accessor_json, attributes_json, identifier_json, maybe_comment_json}

abbrev Text : Type 0
Text = String Global

-- of an object of this `type` with an identifier
abbrev pub identified_members : List ℕ → Identifier Text → Members
identified_members kind id = members ((codes "type", string kind) ∷ (codes "id", identifier_json id) ∷ [])

-- of a message or a term without its value
abbrev pub entry_members : List ℕ → Identifier Text → List (Attribute Text) → Option (Comment Text) → Members
entry_members kind id attributes comment = members ((codes "type", string kind) ∷ (codes "id", identifier_json id) ∷ (codes "attributes", array (attributes_json attributes)) ∷ (codes "comment", maybe_comment_json comment) ∷ [])

-- of a reference to a term without its arguments
abbrev pub term_reference_members : Identifier Text → Option (Identifier Text) → Members
term_reference_members id attribute = members ((codes "type", string (codes "TermReference")) ∷ (codes "id", identifier_json id) ∷ (codes "attribute", accessor_json attribute) ∷ [])
