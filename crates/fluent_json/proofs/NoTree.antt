-- A value that no part of a tree has: where a part inside it has no tree, or no object of the table has it.
use Rattle.std.proofs.Common.{◌≡◌, ◌≢◌, ℕ, zero, suc, ◌<◌, ◌≤◌, true, false, true≢false, List, [], ◌∷◌, length, get_or, map, Some, None, Result, Ok, Err, refl, sym, ap, ◌∙◌, arith}
use Rattle.std.specs.Prelude.{IfErr, is_some}
use Rattle.std.specs.Result.{IsErrAnd}
use Rattle.serde_json.specs.Data.{Data, string, Items, item, depth, items_depth}
use Rattle.serde_json.specs.Find.{as_null, as_str}
use Rattle.serde_json.specs.View.{view, items_of, items_view}
use Rattle.serde_json.specs.declared.value.Value.{Value}
use Rattle.fluent_grammar.specs.Tree as t
use Rattle.fluent_ast.specs.View as v
use Rattle.fluent_json.specs.declared.error.FromValueError.{FromValueError}
use Rattle.fluent_json.specs.declared.error.FromValueError.TheVariants.{Shape}
use Rattle.fluent_json_write.specs.Objects.{resource, unversioned_resource, message, term, comment, group_comment, resource_comment, junk, identifier, text_element, placeable, select, string_literal, number_literal, function_reference, message_reference, term_reference, variable_reference, call_arguments}
use Rattle.fluent_json_write.specs.Json.{HasNone, HasNoTree, with_version, without_version, json_entry, each, or_null, json_key, json_elements, json_expression, json_variants, json_inline, json_arguments, json_maybe_arguments, json_positional, json_named}
use Rattle.fluent_json_write.specs.Parts.{json_element, json_variant, json_one_named}
use Rattle.fluent_json_write.specs.Selectors.{selects_by_attribute}
use Rattle.fluent_json_write.proofs.Lists.{each-items}
use Rattle.fluent_json_write.proofs.Injective.{unversioned_json_injective, versions_differ}

-- a `?` hands a callee's error on
pub passed_on : {T : Type 0} {e : FromValueError} {P Q : Type 0} (r : Result T FromValueError) → IsErrAnd r (λ y. y ≡ e) → (e ≡ Shape → P) → (P → Q) → IfErr r (λ y. y ≡ Shape → Q)
passed_on (Ok x) is p q = tt
passed_on (Err y) is p q = λ shape. q (p (sym is ∙ shape))

-- ---- lists

pub depth-item : (vs : List Value) (k : ℕ) (v : Value) → k < length vs → v ≡ get_or vs k v → depth (view v) ≤ items_depth (items_view vs)
depth-item [] k v inside is = absurd (omega arith)
depth-item (w ∷ vs) zero v inside is = rw is (omega arith)
depth-item (w ∷ vs) (suc k) v inside is = omega (arith, depth-item vs k v (omega arith) is)

pub no_item : {A : Type 0} (json : A → Data) (xs : List A) (vs : List Value) (k : ℕ) (v : Value) → k < length vs → v ≡ get_or vs k v → HasNone json (view v) → items_of (map json xs) ≢ items_view vs
no_item json xs [] k v inside is none h = omega arith
no_item json [] (w ∷ vs) k v inside is none h = cc
no_item json (x ∷ xs) (w ∷ vs) zero v inside is none h =
    let same : json x ≡ view w = cc in
    none x (same ∙ ap view (sym is))
no_item json (x ∷ xs) (w ∷ vs) (suc k) v inside is none h =
    let same : items_of (map json xs) ≡ items_view vs = cc in
    no_item json xs vs k v (omega arith) is none same

pub no_each : {A : Type 0} (json : A → Data) (vs : List Value) (k : ℕ) (v : Value) → k < length vs → v ≡ get_or vs k v → HasNone json (view v) → HasNone (each json) (items_view vs)
no_each json vs k v inside is none xs h = no_item json xs vs k v inside is none (sym (each-items json xs) ∙ h)

listed_elements : (es : t.Elements) → (xs : List v.Element) × (json_elements es ≡ items_of (map json_element xs))
listed_elements t.no_elements = ([], refl)
listed_elements (t.text s es) = (v.text s ∷ (listed_elements es).0, ap (item (text_element s)) (listed_elements es).1)
listed_elements (t.placeable e es) = (v.placeable e ∷ (listed_elements es).0, ap (item (placeable (json_expression e))) (listed_elements es).1)

pub no_elements : (vs : List Value) (k : ℕ) (v : Value) → k < length vs → v ≡ get_or vs k v → HasNone json_element (view v) → HasNone json_elements (items_view vs)
no_elements vs k v inside is none es h = no_item json_element (listed_elements es).0 vs k v inside is none (sym (listed_elements es).1 ∙ h)

listed_variants : (vs : t.Variants) → (xs : List v.Variant) × (json_variants vs ≡ items_of (map json_variant xs))
listed_variants t.no_variants = ([], refl)
listed_variants (t.variant k p d vs) =
    let first : v.Variant = record { key = k; value = p; default = d } in
    (first ∷ (listed_variants vs).0, ap (item (json_variant first)) (listed_variants vs).1)

pub no_variants : (vs : List Value) (k : ℕ) (v : Value) → k < length vs → v ≡ get_or vs k v → HasNone json_variant (view v) → HasNone json_variants (items_view vs)
no_variants vs k v inside is none es h = no_item json_variant (listed_variants es).0 vs k v inside is none (sym (listed_variants es).1 ∙ h)

listed_positional : (es : t.Inlines) → (xs : List t.Inline) × (json_positional es ≡ items_of (map json_inline xs))
listed_positional t.no_inlines = ([], refl)
listed_positional (t.positional e es) = (e ∷ (listed_positional es).0, ap (item (json_inline e)) (listed_positional es).1)

pub no_positional : (vs : List Value) (k : ℕ) (v : Value) → k < length vs → v ≡ get_or vs k v → HasNone json_inline (view v) → HasNone json_positional (items_view vs)
no_positional vs k v inside is none es h = no_item json_inline (listed_positional es).0 vs k v inside is none (sym (listed_positional es).1 ∙ h)

listed_named : (ns : t.Nameds) → (xs : List v.Named) × (json_named ns ≡ items_of (map json_one_named xs))
listed_named t.no_nameds = ([], refl)
listed_named (t.named n e ns) =
    let first : v.Named = record { name = n; value = e } in
    (first ∷ (listed_named ns).0, ap (item (json_one_named first)) (listed_named ns).1)

pub no_named : (vs : List Value) (k : ℕ) (v : Value) → k < length vs → v ≡ get_or vs k v → HasNone json_one_named (view v) → HasNone json_named (items_view vs)
no_named vs k v inside is none ns h = no_item json_one_named (listed_named ns).0 vs k v inside is none (sym (listed_named ns).1 ∙ h)

-- ---- keys, elements and expressions

pub no_key : (d : Data) → ((s : List ℕ) → d ≢ identifier s) → ((s : List ℕ) → d ≢ number_literal s) → HasNone json_key d
no_key d f g (t.identifier_key s) h = f s (sym h)
no_key d f g (t.number_key s) h = g s (sym h)

pub no_element : (d : Data) → ((s : List ℕ) → d ≢ text_element s) → ((e : Data) → d ≢ placeable e) → HasNone json_element d
no_element d f g (v.text s) h = f s (sym h)
no_element d f g (v.placeable e) h = g _ (sym h)

not_select : (s : Data) (vs : Items) (e : t.Inline) → json_inline e ≢ select s vs
not_select s vs (t.string_literal x) h = cc
not_select s vs _ h = cc

pub no_selector : (d s : Data) (vs : Items) → d ≡ select s vs → HasNone json_inline s → HasNone json_expression d
no_selector d s vs is none (t.select e ws) h = let same : json_inline e ≡ s = cc in none e same
no_selector d s vs is none (t.inline e) h = not_select s vs e (h ∙ is)

pub no_select_variants : (d s : Data) (vs : Items) → d ≡ select s vs → HasNone json_variants vs → HasNone json_expression d
no_select_variants d s vs is none (t.select e ws) h = let same : json_variants ws ≡ vs = cc in none ws same
no_select_variants d s vs is none (t.inline e) h = not_select s vs e (h ∙ is)

pub no_expression : (d : Data) → ((s : Data) (vs : Items) → d ≢ select s vs) → HasNone json_inline d → HasNone json_expression d
no_expression d f none (t.select e ws) h = f _ _ (sym h)
no_expression d f none (t.inline e) h = none e h

pub no_variable : (d i : Data) → d ≡ variable_reference i → HasNone identifier i → HasNone json_inline d
no_variable d i is none (t.variable_reference id) h = let same : identifier id ≡ i = cc in none id same
no_variable d i is none _ h = cc

pub no_message_id : (d i a : Data) → d ≡ message_reference i a → HasNone identifier i → HasNone json_inline d
no_message_id d i a is none (t.message_reference id x) h = let same : identifier id ≡ i = cc in none id same
no_message_id d i a is none _ h = cc

pub no_message_attribute : (d i a : Data) → d ≡ message_reference i a → HasNone (or_null identifier) a → HasNone json_inline d
no_message_attribute d i a is none (t.message_reference id x) h = let same : or_null identifier x ≡ a = cc in none x same
no_message_attribute d i a is none _ h = cc

pub no_term_id : (i a c : Data) → HasNone identifier i → HasNone json_inline (term_reference i a c)
no_term_id i a c none (t.term_reference id x y) h = let same : identifier id ≡ i = cc in none id same
no_term_id i a c none _ h = cc

pub no_term_attribute : (i a c : Data) → HasNone (or_null identifier) a → HasNone json_inline (term_reference i a c)
no_term_attribute i a c none (t.term_reference id x y) h = let same : or_null identifier x ≡ a = cc in none x same
no_term_attribute i a c none _ h = cc

pub no_term_arguments : (i a c : Data) → HasNone json_maybe_arguments c → HasNone json_inline (term_reference i a c)
no_term_arguments i a c none (t.term_reference id x y) h = let same : json_maybe_arguments y ≡ c = cc in none y same
no_term_arguments i a c none _ h = cc

pub no_function_id : (d i a : Data) → d ≡ function_reference i a → HasNone identifier i → HasNone json_inline d
no_function_id d i a is none (t.function_reference id x) h = let same : identifier id ≡ i = cc in none id same
no_function_id d i a is none _ h = cc

pub no_function_arguments : (d i a : Data) → d ≡ function_reference i a → HasNone json_arguments a → HasNone json_inline d
no_function_arguments d i a is none (t.function_reference id x) h = let same : json_arguments x ≡ a = cc in none x same
no_function_arguments d i a is none _ h = cc

pub no_nested : (d i : Data) → d ≡ placeable i → HasNone json_expression i → HasNone json_inline d
no_nested d i is none (t.nested e) h = let same : json_expression e ≡ i = cc in none e same
no_nested d i is none _ h = cc

pub no_inline : (d : Data) → ((s : List ℕ) → d ≢ string_literal s) → ((s : List ℕ) → d ≢ number_literal s) → ((i : Data) → d ≢ variable_reference i) → ((i a : Data) → d ≢ message_reference i a) → ((i a c : Data) → d ≢ term_reference i a c) → ((i a : Data) → d ≢ function_reference i a) → ((e : Data) → d ≢ placeable e) → HasNone json_inline d
no_inline d f1 f2 f3 f4 f5 f6 f7 (t.string_literal s) h = f1 _ (sym h)
no_inline d f1 f2 f3 f4 f5 f6 f7 (t.number_literal s) h = f2 _ (sym h)
no_inline d f1 f2 f3 f4 f5 f6 f7 (t.variable_reference i) h = f3 _ (sym h)
no_inline d f1 f2 f3 f4 f5 f6 f7 (t.message_reference i a) h = f4 _ _ (sym h)
no_inline d f1 f2 f3 f4 f5 f6 f7 (t.term_reference i a c) h = f5 _ _ _ (sym h)
no_inline d f1 f2 f3 f4 f5 f6 f7 (t.function_reference i a) h = f6 _ _ (sym h)
no_inline d f1 f2 f3 f4 f5 f6 f7 (t.nested e) h = f7 _ (sym h)

-- ---- arguments

pub no_maybe_arguments : (d : Data) → is_some (as_null d) ≡ false → HasNone json_arguments d → HasNone json_maybe_arguments d
no_maybe_arguments d present none t.no_arguments h = true≢false (ap (λ x. is_some (as_null x)) h ∙ present)
no_maybe_arguments d present none (t.with_arguments a) h = none a h

pub no_call : (d : Data) → ((p n : Items) → d ≢ call_arguments p n) → HasNone json_arguments d
no_call d f (t.arguments p n) h = f _ _ (sym h)

pub no_call_positional : (d : Data) (p n : Items) → d ≡ call_arguments p n → HasNone json_positional p → HasNone json_arguments d
no_call_positional d p n is none (t.arguments x y) h = let same : json_positional x ≡ p = cc in none x same

pub no_call_named : (d : Data) (p n : Items) → d ≡ call_arguments p n → HasNone json_named n → HasNone json_arguments d
no_call_named d p n is none (t.arguments x y) h = let same : json_named y ≡ n = cc in none y same

-- ---- entries

pub no_text : (d : Data) → None ≡ as_str d → HasNone string d
no_text d none s h =
    let some : Some s ≡ as_str d = ap as_str h in
    cc

pub no_entry : (d : Data) → ((i v : Data) (list : Items) (c : Data) → d ≢ message i v list c) → ((i v : Data) (list : Items) (c : Data) → d ≢ term i v list c) → ((ls : Items) → d ≢ comment ls) → ((ls : Items) → d ≢ group_comment ls) → ((ls : Items) → d ≢ resource_comment ls) → ((s : List ℕ) → d ≢ junk s) → HasNone json_entry d
no_entry d f1 f2 f3 f4 f5 f6 (t.message m) h = f1 _ _ _ _ (sym h)
no_entry d f1 f2 f3 f4 f5 f6 (t.term m) h = f2 _ _ _ _ (sym h)
no_entry d f1 f2 f3 f4 f5 f6 (t.comment ls) h = f3 _ (sym h)
no_entry d f1 f2 f3 f4 f5 f6 (t.group_comment ls) h = f4 _ (sym h)
no_entry d f1 f2 f3 f4 f5 f6 (t.resource_comment ls) h = f5 _ (sym h)
no_entry d f1 f2 f3 f4 f5 f6 (t.junk s) h = f6 _ (sym h)

pub no_resource : (d : Data) (body : Items) → d ≡ resource body → HasNone (each json_entry) body → HasNoTree d
no_resource d body is none es (with_version h) = let same : each json_entry es ≡ body = cc in none es same
no_resource d body is none es (without_version _ h) = absurd (versions_differ body (each json_entry es) (sym is ∙ sym h))

pub no_unversioned_resource : (d : Data) (body : Items) → d ≡ unversioned_resource body → HasNone (each json_entry) body → HasNoTree d
no_unversioned_resource d body is none es (with_version h) = absurd (versions_differ (each json_entry es) body (h ∙ is))
no_unversioned_resource d body is none es (without_version _ h) = let same : each json_entry es ≡ body = cc in none es same

pub no_resource_at_all : (d : Data) → ((body : Items) → d ≢ resource body) → ((body : Items) → d ≢ unversioned_resource body) → HasNoTree d
no_resource_at_all d f g es (with_version h) = f _ (sym h)
no_resource_at_all d f g es (without_version _ h) = g _ (sym h)

-- a tree that needs a version
pub no_version_needed : (d : Data) (body : Items) (tree : List t.Entry) → d ≡ unversioned_resource body → each json_entry tree ≡ body → selects_by_attribute tree ≡ true → HasNoTree d
no_version_needed d body tree is same selects es (with_version h) = absurd (versions_differ (each json_entry es) body (h ∙ is))
no_version_needed d body tree is same selects es (without_version none h) =
    let one : es ≡ tree = unversioned_json_injective es tree (h ∙ is ∙ ap unversioned_resource (sym same)) in
    absurd (true≢false (sym selects ∙ ap selects_by_attribute (sym one) ∙ none))
