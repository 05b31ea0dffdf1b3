-- What indices are to contracts.
use Rattle.std.specs.Prelude.{◌≡◌, ℕ, Bool, ◌&&◌, if◌then◌else◌, Option, Some, option_map}
use Rattle.std.specs.HashMap.{get_by}
use Rattle.std.specs.Option.{unwrap_or}
use Rattle.std.specs.Str.{bytes_eq}
use denote.Ref.{Bor}
use Rattle.fluent_grammar.specs.Words.{Text}
use Rattle.fluent_value.specs.Matching.{same_bool, same_option}
use Rattle.lint_nodes.specs.declared.indices.Indices.{Indices}

abbrev pub attribute_text : Option (Bor Text) → Option Text
attribute_text attribute = option_map (λ s. s.now) attribute

-- whether these are the names of a key
abbrev pub is_key : Bool → Text → Option Text → Bool × Bor Text × Option (Bor Text) → Bool
is_key is_term id attribute k = same_bool is_term k.0 && (bytes_eq id k.1.now && same_option bytes_eq attribute (attribute_text k.2))

-- the index of these names
abbrev pub index_of : Indices → Bool → Text → Option Text → Option ℕ
index_of indices is_term id attribute = get_by (is_key is_term id attribute) indices.by_name

-- or this one, if they have none
abbrev pub index_or : Indices → Bool → Text → Option Text → ℕ → ℕ
index_or indices is_term id attribute index = unwrap_or (index_of indices is_term id attribute) index

-- whether two have the same names
abbrev pub same_names : Bool → Text → Option Text → Bool → Text → Option Text → Bool
same_names is_term id attribute t i a = same_bool is_term t && (bytes_eq id i && same_option bytes_eq attribute a)

-- under these names is this index, and what was there under all others
abbrev pub GetsIndex : Indices → Indices → Bool → Text → Option Text → ℕ → Type 0
GetsIndex old new is_term id attribute index = (t : Bool) (i : Text) (a : Option Text) →
    index_of new t i a ≡ (if same_names is_term id attribute t i a then Some index else index_of old t i a)
