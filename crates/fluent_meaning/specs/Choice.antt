-- Which variant of a select is chosen.
use Rattle.std.specs.Prelude.{Bool, true, false, if◌then◌else◌, Option, Some, None}
use Rattle.fluent_grammar.specs.Tree.{Elements, Variants, no_variants, variant, VariantKey, identifier_key, number_key}
use Rattle.fluent_value.specs.Value.{Value, text, number, custom, none, error, number_or_text}
use Rattle.fluent_value.specs.Matching.{Plurals, matches}

-- what a variant's key stands for: a number is read as texts are, and is else a text
abbrev pub key_value : {S : Type 0} → VariantKey → Value S
key_value (identifier_key s) = text s
key_value (number_key s) = number_or_text s

-- whether variants are chosen by a value: by texts and numbers alone
abbrev pub is_choice : {S : Type 0} → Value S → Bool
is_choice (text s) = true
is_choice (number n) = true
is_choice (custom c) = false
is_choice none = false
is_choice error = false

-- the first variant whose key matches
abbrev pub first_match : {S : Type 0} → Plurals → Value S → Variants → Option Elements
first_match plurals v no_variants = None
first_match plurals v (variant k es d vs) = if matches plurals (key_value k) v then Some es else first_match plurals v vs

-- the first default variant
abbrev pub first_default : Variants → Option Elements
first_default no_variants = None
first_default (variant k es d vs) = if d then Some es else first_default vs

abbrev pub or_else : {A : Type 0} → Option A → Option A → Option A
or_else None o = o
or_else (Some a) o = Some a

-- the first variant whose key matches, or else the first default
abbrev pub chosen : {S : Type 0} → Plurals → Value S → Variants → Option Elements
chosen plurals v vs = or_else (if is_choice v then first_match plurals v vs else None) (first_default vs)
