-- What the definitions give on rows, by computing.
use Rattle.std.specs.Prelude.{ℕ, true, false, List, [], ◌∷◌, Some, None, is_some, codes, unwrap_or, option_and_then}
use Rattle.std.proofs.Common.{◌≡◌, ◌≢◌, true≢false, bytes_eq, refl, sym, ap, ◌∙◌}
use Rattle.std.proofs.lemmas.Slice.Eq.{bytes_eq-Decides}
use Rattle.serde_json.specs.Find.{get, as_str}
use Rattle.serde_json.specs.Data.{Data, string, array, object, no_items, no_members, member}
use Rattle.serde_json.specs.Written.{compact_text}
use Rattle.serde_json.proofs.OnLiterals.{serde_json_on_literals}
use Rattle.fluent_grammar.specs.Tree as t
use Rattle.fluent_grammar.specs.Tree.{Entry}
use Rattle.fluent_json_write.specs.Selectors.{selects_by_attribute}
use Rattle.fluent_json_write.specs.Json.{json, unversioned_json, each, json_entry, HasValue, with_version, without_version, HasNoTree}
use Rattle.fluent_json_write.proofs.Injective.{unversioned_json_injective, versions_differ}

empty : json [] ≡ object (member (codes "body") (array no_items) (member (codes "syntax") (string (codes "2")) (member (codes "type") (string (codes "Resource")) no_members)))
empty = refl

empty_without_version : unversioned_json [] ≡ object (member (codes "body") (array no_items) (member (codes "type") (string (codes "Resource")) no_members))
empty_without_version = refl

-- the tree of `a = b`
a_is_b : List Entry
a_is_b = t.message (record { id = codes "a"; value = Some (t.text (codes "b") t.no_elements); attributes = []; comment = None }) ∷ []

written : compact_text (json a_is_b) ≡ codes "{\"body\":[{\"attributes\":[],\"comment\":null,\"id\":{\"name\":\"a\",\"type\":\"Identifier\"},\"type\":\"Message\",\"value\":{\"elements\":[{\"type\":\"TextElement\",\"value\":\"b\"}],\"type\":\"Pattern\"}}],\"syntax\":\"2\",\"type\":\"Resource\"}"
unfolding serde_json_on_literals a_is_b
written = refl

written_without_version : compact_text (unversioned_json a_is_b) ≡ codes "{\"body\":[{\"attributes\":[],\"comment\":null,\"id\":{\"name\":\"a\",\"type\":\"Identifier\"},\"type\":\"Message\",\"value\":{\"elements\":[{\"type\":\"TextElement\",\"value\":\"b\"}],\"type\":\"Pattern\"}}],\"type\":\"Resource\"}"
unfolding serde_json_on_literals a_is_b
written_without_version = refl

-- both are values of it
with_its_version : HasValue a_is_b (json a_is_b)
with_its_version = with_version refl

without_its_version : HasValue a_is_b (unversioned_json a_is_b)
unfolding a_is_b
without_its_version = without_version refl refl

-- ---- values that no tree has

-- the text at a key, and whether there is the key
abbrev text_at : List ℕ → Data → List ℕ
text_at key d = unwrap_or (option_and_then as_str (get key d)) []

texts_differ : (key : List ℕ) (d e : Data) → bytes_eq (text_at key d) (text_at key e) ≡ false → d ≢ e
texts_differ key d e apart h = true≢false (sym ((bytes_eq-Decides (text_at key d) (text_at key e)).1 (ap (text_at key) h)) ∙ apart)

keys_differ : (key : List ℕ) (d e : Data) → is_some (get key d) ≡ false → is_some (get key e) ≡ true → d ≢ e
keys_differ key d e without within h = true≢false (sym within ∙ sym (ap (λ x. is_some (get key x)) h) ∙ without)

abbrev of_version : List ℕ → Data
of_version version = object (member (codes "body") (array no_items) (member (codes "syntax") (string version) (member (codes "type") (string (codes "Resource")) no_members)))

no_other_version : HasNoTree (of_version (codes "1"))
no_other_version entries (with_version h) = texts_differ (codes "syntax") (json entries) (of_version (codes "1")) refl h
no_other_version entries (without_version _ h) = texts_differ (codes "syntax") (unversioned_json entries) (of_version (codes "1")) refl h

abbrev with_more : Data → Data
with_more d = object (member (codes "body") (array no_items) (member (codes "syntax") (string (codes "2")) (member (codes "type") (string (codes "Resource")) (member (codes "x") d no_members))))

no_key_beside_the_version : (d : Data) → HasNoTree (with_more d)
no_key_beside_the_version d entries (with_version h) = keys_differ (codes "x") (json entries) (with_more d) refl refl h
no_key_beside_the_version d entries (without_version _ h) = keys_differ (codes "x") (unversioned_json entries) (with_more d) refl refl h

abbrev with_another : Data → Data
with_another d = object (member (codes "body") (array no_items) (member (codes "type") (string (codes "Resource")) (member (codes "x") d no_members)))

no_key_in_its_place : (d : Data) → HasNoTree (with_another d)
no_key_in_its_place d entries (with_version h) = keys_differ (codes "x") (json entries) (with_another d) refl refl h
no_key_in_its_place d entries (without_version _ h) = keys_differ (codes "x") (unversioned_json entries) (with_another d) refl refl h

-- ---- selects by a message's attribute

one_variant : t.Variants
one_variant = t.variant (t.identifier_key (codes "d")) (t.text (codes "e") t.no_elements) true t.no_variants

by_attribute : t.Expression
by_attribute = t.select (t.message_reference (codes "b") (Some (codes "c"))) one_variant

holding : t.Expression → List Entry
holding e = t.message (record { id = codes "a"; value = Some (t.placeable e t.no_elements); attributes = []; comment = None }) ∷ []

directly : selects_by_attribute (holding by_attribute) ≡ true
unfolding holding by_attribute
directly = refl

in_a_nested_placeable : selects_by_attribute (holding (t.inline (t.nested by_attribute))) ≡ true
unfolding holding by_attribute
in_a_nested_placeable = refl

in_a_variant : selects_by_attribute (holding (t.select (t.variable_reference (codes "x")) (t.variant (t.number_key (codes "1")) (t.placeable by_attribute t.no_elements) true t.no_variants))) ≡ true
unfolding holding by_attribute
in_a_variant = refl

in_a_selector : selects_by_attribute (holding (t.select (t.function_reference (codes "F") (t.arguments (t.positional (t.nested by_attribute) t.no_inlines) t.no_nameds)) one_variant)) ≡ true
unfolding holding by_attribute one_variant
in_a_selector = refl

in_an_argument_by_name : selects_by_attribute (holding (t.inline (t.term_reference (codes "f") None (t.with_arguments (t.arguments t.no_inlines (t.named (codes "x") (t.nested by_attribute) t.no_nameds)))))) ≡ true
unfolding holding by_attribute
in_an_argument_by_name = refl

in_an_attribute : selects_by_attribute (t.term (record { id = codes "a"; value = t.text (codes "b") t.no_elements; attributes = record { id = codes "c"; value = t.placeable by_attribute t.no_elements } ∷ []; comment = None }) ∷ []) ≡ true
unfolding by_attribute
in_an_attribute = refl

-- by the message itself, by a term's attribute, and the attribute itself without a select
by_the_message : selects_by_attribute (holding (t.select (t.message_reference (codes "b") None) one_variant)) ≡ false
unfolding holding one_variant
by_the_message = refl

by_a_terms_attribute : selects_by_attribute (holding (t.select (t.term_reference (codes "b") (Some (codes "c")) t.no_arguments) one_variant)) ≡ false
unfolding holding one_variant
by_a_terms_attribute = refl

without_a_select : selects_by_attribute (holding (t.inline (t.message_reference (codes "b") (Some (codes "c"))))) ≡ false
unfolding holding
without_a_select = refl

in_a_nested_selector : selects_by_attribute (holding (t.select (t.nested (t.inline (t.message_reference (codes "b") (Some (codes "c"))))) one_variant)) ≡ false
unfolding holding one_variant
in_a_nested_selector = refl

-- so this value, which has no version, is of no tree
no_version_needed : HasNoTree (unversioned_json (holding by_attribute))
no_version_needed entries (with_version h) = versions_differ (each json_entry entries) (each json_entry (holding by_attribute)) h
no_version_needed entries (without_version none h) =
    absurd (true≢false (sym directly ∙ ap selects_by_attribute (sym (unversioned_json_injective entries (holding by_attribute) h)) ∙ none))
