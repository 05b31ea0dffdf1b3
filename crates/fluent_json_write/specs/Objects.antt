-- The objects of a tree's JSON value, as `docs/reference/json.md` has them in a table.
use Rattle.std.specs.Prelude.{ℕ, Bool, List, [], ◌∷◌, codes}
use Rattle.serde_json.specs.Data.{Data, boolean, string, array, object, Items, Members, no_members, put}

-- a key and its value
abbrev pub Member : Type 0
Member = List ℕ × Data

-- an object holds its members in the order of their keys' bytes
abbrev pub members : List Member → Members
members [] = no_members
members (m ∷ ms) = put m.0 m.1 (members ms)

-- ---- the objects: the `type`, and exactly these other keys

abbrev pub node : List ℕ → List Member → Data
node kind others = object (put (codes "type") (string kind) (members others))

-- with the version of the table
abbrev pub resource : Items → Data
resource body = node (codes "Resource") ((codes "body", array body) ∷ (codes "syntax", string (codes "2")) ∷ [])

-- without a version, as before there were any
abbrev pub unversioned_resource : Items → Data
unversioned_resource body = node (codes "Resource") ((codes "body", array body) ∷ [])

abbrev pub message : Data → Data → Items → Data → Data
message id value attributes comment = node (codes "Message") ((codes "id", id) ∷ (codes "value", value) ∷ (codes "attributes", array attributes) ∷ (codes "comment", comment) ∷ [])

abbrev pub term : Data → Data → Items → Data → Data
term id value attributes comment = node (codes "Term") ((codes "id", id) ∷ (codes "value", value) ∷ (codes "attributes", array attributes) ∷ (codes "comment", comment) ∷ [])

abbrev pub comment : Items → Data
comment content = node (codes "Comment") ((codes "content", array content) ∷ [])

abbrev pub group_comment : Items → Data
group_comment content = node (codes "GroupComment") ((codes "content", array content) ∷ [])

abbrev pub resource_comment : Items → Data
resource_comment content = node (codes "ResourceComment") ((codes "content", array content) ∷ [])

abbrev pub junk : List ℕ → Data
junk content = node (codes "Junk") ((codes "content", string content) ∷ [])

abbrev pub identifier : List ℕ → Data
identifier name = node (codes "Identifier") ((codes "name", string name) ∷ [])

abbrev pub attribute : Data → Data → Data
attribute id value = node (codes "Attribute") ((codes "id", id) ∷ (codes "value", value) ∷ [])

abbrev pub pattern : Items → Data
pattern elements = node (codes "Pattern") ((codes "elements", array elements) ∷ [])

abbrev pub text_element : List ℕ → Data
text_element value = node (codes "TextElement") ((codes "value", string value) ∷ [])

abbrev pub placeable : Data → Data
placeable expression = node (codes "Placeable") ((codes "expression", expression) ∷ [])

abbrev pub select : Data → Items → Data
select selector variants = node (codes "Select") ((codes "selector", selector) ∷ (codes "variants", array variants) ∷ [])

abbrev pub variant : Data → Data → Bool → Data
variant key value default = node (codes "Variant") ((codes "key", key) ∷ (codes "value", value) ∷ (codes "default", boolean default) ∷ [])

abbrev pub string_literal : List ℕ → Data
string_literal value = node (codes "StringLiteral") ((codes "value", string value) ∷ [])

abbrev pub number_literal : List ℕ → Data
number_literal value = node (codes "NumberLiteral") ((codes "value", string value) ∷ [])

abbrev pub function_reference : Data → Data → Data
function_reference id arguments = node (codes "FunctionReference") ((codes "id", id) ∷ (codes "arguments", arguments) ∷ [])

abbrev pub message_reference : Data → Data → Data
message_reference id attribute = node (codes "MessageReference") ((codes "id", id) ∷ (codes "attribute", attribute) ∷ [])

abbrev pub term_reference : Data → Data → Data → Data
term_reference id attribute arguments = node (codes "TermReference") ((codes "id", id) ∷ (codes "attribute", attribute) ∷ (codes "arguments", arguments) ∷ [])

abbrev pub variable_reference : Data → Data
variable_reference id = node (codes "VariableReference") ((codes "id", id) ∷ [])

abbrev pub call_arguments : Items → Items → Data
call_arguments positional named = node (codes "CallArguments") ((codes "positional", array positional) ∷ (codes "named", array named) ∷ [])

abbrev pub named_argument : Data → Data → Data
named_argument name value = node (codes "NamedArgument") ((codes "name", name) ∷ (codes "value", value) ∷ [])
