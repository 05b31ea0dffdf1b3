-- The JSON value of a tree, as `docs/reference/json.md` has it: which object of the table each part is.
use Rattle.std.specs.Prelude.{◌≡◌, ◌≢◌, ℕ, false, List, [], ◌∷◌, Option, Some, None}
use Rattle.serde_json.specs.Data.{Data, null, string, Items, no_items, item}
use Rattle.fluent_grammar.specs.Tree as t
use Rattle.fluent_grammar.specs.Tree.{VariantKey, Elements, Expression, Variants, Inline, MaybeArguments, Arguments, Inlines, Nameds, Attribute, Entry}
use Rattle.fluent_json_write.specs.Objects.{resource, unversioned_resource, message, term, comment, group_comment, resource_comment, junk, identifier, attribute, pattern, text_element, placeable, select, variant, string_literal, number_literal, function_reference, message_reference, term_reference, variable_reference, call_arguments, named_argument}
use Rattle.fluent_json_write.specs.Selectors.{selects_by_attribute}

-- what may be absent: null, or its value
abbrev pub or_null : {A : Type 0} → (A → Data) → Option A → Data
or_null json None = null
or_null json (Some x) = json x

-- the value of each
abbrev pub each : {A : Type 0} → (A → Data) → List A → Items
each json [] = no_items
each json (x ∷ xs) = item (json x) (each json xs)

abbrev pub json_key : VariantKey → Data
json_key (t.identifier_key name) = identifier name
json_key (t.number_key value) = number_literal value

abbrev mutual
  pub json_elements : Elements → Items
  json_elements t.no_elements = no_items
  json_elements (t.text value rest) = item (text_element value) (json_elements rest)
  json_elements (t.placeable e rest) = item (placeable (json_expression e)) (json_elements rest)

  -- a `Select`, or the object of the inline expression itself
  pub json_expression : Expression → Data
  json_expression (t.select selector variants) = select (json_inline selector) (json_variants variants)
  json_expression (t.inline e) = json_inline e

  pub json_variants : Variants → Items
  json_variants t.no_variants = no_items
  json_variants (t.variant key value default rest) = item (variant (json_key key) (pattern (json_elements value)) default) (json_variants rest)

  -- a nested placeable is a `Placeable`, as one in a pattern is
  pub json_inline : Inline → Data
  json_inline (t.string_literal value) = string_literal value
  json_inline (t.number_literal value) = number_literal value
  json_inline (t.function_reference id call) = function_reference (identifier id) (json_arguments call)
  json_inline (t.message_reference id attribute_id) = message_reference (identifier id) (or_null identifier attribute_id)
  json_inline (t.term_reference id attribute_id call) = term_reference (identifier id) (or_null identifier attribute_id) (json_maybe_arguments call)
  json_inline (t.variable_reference id) = variable_reference (identifier id)
  json_inline (t.nested e) = placeable (json_expression e)

  pub json_maybe_arguments : MaybeArguments → Data
  json_maybe_arguments t.no_arguments = null
  json_maybe_arguments (t.with_arguments call) = json_arguments call

  pub json_arguments : Arguments → Data
  json_arguments (t.arguments inlines nameds) = call_arguments (json_positional inlines) (json_named nameds)

  pub json_positional : Inlines → Items
  json_positional t.no_inlines = no_items
  json_positional (t.positional e rest) = item (json_inline e) (json_positional rest)

  pub json_named : Nameds → Items
  json_named t.no_nameds = no_items
  json_named (t.named name value rest) = item (named_argument (identifier name) (json_inline value)) (json_named rest)

abbrev pub json_pattern : Elements → Data
json_pattern elements = pattern (json_elements elements)

abbrev pub json_attribute : Attribute → Data
json_attribute a = attribute (identifier a.id) (json_pattern a.value)

-- a comment above an entry, of its lines
abbrev pub json_comment : List (List ℕ) → Data
json_comment lines = comment (each string lines)

abbrev pub json_entry : Entry → Data
json_entry (t.message m) = message (identifier m.id) (or_null json_pattern m.value) (each json_attribute m.attributes) (or_null json_comment m.comment)
json_entry (t.term m) = term (identifier m.id) (json_pattern m.value) (each json_attribute m.attributes) (or_null json_comment m.comment)
json_entry (t.comment lines) = json_comment lines
json_entry (t.group_comment lines) = group_comment (each string lines)
json_entry (t.resource_comment lines) = resource_comment (each string lines)
json_entry (t.junk content) = junk content

-- the value of a tree, which is the list of its entries
abbrev pub json : List Entry → Data
json entries = resource (each json_entry entries)

-- nothing has this value
abbrev pub HasNone : {A D : Type 0} → (A → D) → D → Type 0
HasNone {A} json d = (x : A) → json x ≢ d

-- the value without a version, as it was before there were any
abbrev pub unversioned_json : List Entry → Data
unversioned_json entries = unversioned_resource (each json_entry entries)

-- A tree has its value, and where none of its selects is by a message's attribute the one without a version, too.
pub data HasValue (entries : List Entry) (value : Data) : Type 0 where
  with_version : json entries ≡ value → HasValue entries value
  without_version : selects_by_attribute entries ≡ false → unversioned_json entries ≡ value → HasValue entries value

-- no tree has this value
abbrev pub HasNoTree : Data → Type 0
HasNoTree value = (entries : List Entry) → HasValue entries value → ⊥

-- two trees with one value are equal
abbrev pub ValueDecides : Type 0
ValueDecides = (x y : List Entry) (value : Data) → HasValue x value → HasValue y value → x ≡ y
