-- The JSON value of a tree has no floats.
use Rattle.std.proofs.Common.{◌≡◌, ℕ, Bool, false, List, [], ◌∷◌, Option, Some, None, refl}
use Rattle.std.specs.Prelude.{◌||◌}
use Rattle.serde_json.specs.Data.{Data, string}
use Rattle.serde_json.specs.Written.{has_float, items_have_float}
use Rattle.fluent_grammar.specs.Tree as t
use Rattle.fluent_json_write.specs.Objects.{identifier}
use Rattle.fluent_json_write.specs.Json.{json, each, or_null, json_key, json_elements, json_expression, json_variants, json_inline, json_maybe_arguments, json_arguments, json_positional, json_named, json_pattern, json_attribute, json_comment, json_entry}

neither : {a b : Bool} → a ≡ false → b ≡ false → (a || b) ≡ false
neither ea eb = cc

each_none : {A : Type 0} (f : A → Data) → ((x : A) → has_float (f x) ≡ false) → (xs : List A) → items_have_float (each f xs) ≡ false
each_none f none [] = refl
each_none f none (x ∷ xs) = neither (none x) (each_none f none xs)

or_null_none : {A : Type 0} (f : A → Data) → ((x : A) → has_float (f x) ≡ false) → (x : Option A) → has_float (or_null f x) ≡ false
or_null_none f none None = refl
or_null_none f none (Some x) = none x

accessor_none : (x : Option (List ℕ)) → has_float (or_null identifier x) ≡ false
accessor_none = or_null_none identifier (λ s. refl)

key_none : (k : t.VariantKey) → has_float (json_key k) ≡ false
key_none (t.identifier_key s) = refl
key_none (t.number_key s) = refl

mutual
  elements_none : (es : t.Elements) → items_have_float (json_elements es) ≡ false
  elements_none t.no_elements = refl
  elements_none (t.text s es) = elements_none es
  elements_none (t.placeable e es) = neither (neither (expression_none e) refl) (elements_none es)

  expression_none : (e : t.Expression) → has_float (json_expression e) ≡ false
  expression_none (t.select s vs) = neither (inline_none s) (neither (variants_none vs) refl)
  expression_none (t.inline e) = inline_none e

  variants_none : (vs : t.Variants) → items_have_float (json_variants vs) ≡ false
  variants_none t.no_variants = refl
  variants_none (t.variant key es default vs) = neither (neither (key_none key) (neither (neither (elements_none es) refl) refl)) (variants_none vs)

  inline_none : (e : t.Inline) → has_float (json_inline e) ≡ false
  inline_none (t.string_literal s) = refl
  inline_none (t.number_literal s) = refl
  inline_none (t.function_reference s a) = neither (arguments_none a) refl
  inline_none (t.message_reference s a) = neither (accessor_none a) refl
  inline_none (t.term_reference s a c) = neither (maybe_arguments_none c) (neither (accessor_none a) refl)
  inline_none (t.variable_reference s) = refl
  inline_none (t.nested e) = neither (expression_none e) refl

  maybe_arguments_none : (c : t.MaybeArguments) → has_float (json_maybe_arguments c) ≡ false
  maybe_arguments_none t.no_arguments = refl
  maybe_arguments_none (t.with_arguments a) = arguments_none a

  arguments_none : (a : t.Arguments) → has_float (json_arguments a) ≡ false
  arguments_none (t.arguments ps ns) = neither (nameds_none ns) (neither (positional_none ps) refl)

  positional_none : (ps : t.Inlines) → items_have_float (json_positional ps) ≡ false
  positional_none t.no_inlines = refl
  positional_none (t.positional e ps) = neither (inline_none e) (positional_none ps)

  nameds_none : (ns : t.Nameds) → items_have_float (json_named ns) ≡ false
  nameds_none t.no_nameds = refl
  nameds_none (t.named s e ns) = neither (neither (inline_none e) refl) (nameds_none ns)

pattern_none : (es : t.Elements) → has_float (json_pattern es) ≡ false
pattern_none es = neither (elements_none es) refl

attribute_none : (a : t.Attribute) → has_float (json_attribute a) ≡ false
attribute_none a = neither (pattern_none a.value) refl

lines_none : (lines : List (List ℕ)) → items_have_float (each string lines) ≡ false
lines_none = each_none string (λ s. refl)

comment_none : (lines : List (List ℕ)) → has_float (json_comment lines) ≡ false
comment_none lines = neither (lines_none lines) refl

entry_none : (e : t.Entry) → has_float (json_entry e) ≡ false
entry_none (t.message m) = neither (each_none json_attribute attribute_none m.attributes) (neither (or_null_none json_comment comment_none m.comment) (neither (or_null_none json_pattern pattern_none m.value) refl))
entry_none (t.term m) = neither (each_none json_attribute attribute_none m.attributes) (neither (or_null_none json_comment comment_none m.comment) (neither (pattern_none m.value) refl))
entry_none (t.comment lines) = comment_none lines
entry_none (t.group_comment lines) = neither (lines_none lines) refl
entry_none (t.resource_comment lines) = neither (lines_none lines) refl
entry_none (t.junk s) = refl

pub has_no_float : (es : List t.Entry) → has_float (json es) ≡ false
has_no_float es = neither (each_none json_entry entry_none es) refl
