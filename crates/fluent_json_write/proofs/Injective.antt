-- Parts of a tree that have one value are equal.
use Rattle.std.proofs.Common.{◌≡◌, ◌≢◌, ℕ, Bool, false, true≢false, bytes_eq, List, [], ◌∷◌, Option, Some, None, refl, sym, ap, ◌∙◌}
use Rattle.std.specs.Prelude.{codes, unwrap_or, option_and_then}
use Rattle.std.proofs.lemmas.Slice.Eq.{bytes_eq-Decides}
use Rattle.serde_json.specs.Find.{get, as_str}
use Rattle.serde_json.specs.Data.{Data, null, string, Items, item}
use Rattle.fluent_grammar.specs.Tree as t
use Rattle.fluent_json_write.specs.Objects.{resource, unversioned_resource, pattern, variant, identifier}
use Rattle.fluent_json_write.specs.Json.{json, unversioned_json, HasValue, with_version, without_version, ValueDecides, each, or_null, json_key, json_elements, json_expression, json_variants, json_inline, json_maybe_arguments, json_arguments, json_positional, json_named, json_pattern, json_attribute, json_comment, json_entry}

-- the text of an object's `type`
abbrev type_text : Data → List ℕ
type_text d = unwrap_or (option_and_then as_str (get (codes "type") d)) []

-- objects of two types differ
types_differ : (d e : Data) → bytes_eq (type_text d) (type_text e) ≡ false → d ≢ e
types_differ d e apart h = true≢false (sym ((bytes_eq-Decides (type_text d) (type_text e)).1 (ap type_text h)) ∙ apart)

string_injective : (s r : List ℕ) → string s ≡ string r → s ≡ r
string_injective s r h = cc

identifier_injective : (s r : List ℕ) → identifier s ≡ identifier r → s ≡ r
identifier_injective s r h = cc

or_null_injective : {A : Type 0} (f : A → Data) → ((x : A) → null ≢ f x) → ((x y : A) → f x ≡ f y → x ≡ y) → (x y : Option A) → or_null f x ≡ or_null f y → x ≡ y
or_null_injective f present one None None h = refl
or_null_injective f present one None (Some y) h = absurd (present y h)
or_null_injective f present one (Some x) None h = let back : null ≡ f x = cc in absurd (present x back)
or_null_injective f present one (Some x) (Some y) h = ap Some (one x y h)

each_injective : {A : Type 0} (f : A → Data) → ((x y : A) → f x ≡ f y → x ≡ y) → (xs ys : List A) → each f xs ≡ each f ys → xs ≡ ys
each_injective f one [] [] h = refl
each_injective f one [] (y ∷ ys) h = cc
each_injective f one (x ∷ xs) [] h = cc
each_injective f one (x ∷ xs) (y ∷ ys) h =
    let first : f x ≡ f y = cc in
    let others : each f xs ≡ each f ys = cc in
    let same : x ≡ y = one x y first in
    let all : xs ≡ ys = each_injective f one xs ys others in
    cc

accessor_injective : (x y : Option (List ℕ)) → or_null identifier x ≡ or_null identifier y → x ≡ y
accessor_injective = or_null_injective identifier (λ s h. cc) identifier_injective

json_key_injective : (x y : t.VariantKey) → json_key x ≡ json_key y → x ≡ y
json_key_injective (t.identifier_key s) (t.identifier_key r) h = let same : s ≡ r = cc in cc
json_key_injective (t.identifier_key s) (t.number_key r) h = cc
json_key_injective (t.number_key s) (t.identifier_key r) h = cc
json_key_injective (t.number_key s) (t.number_key r) h = let same : s ≡ r = cc in cc

not_select : (s : t.Inline) (vs : t.Variants) (e : t.Inline) → json_expression (t.select s vs) ≢ json_inline e
not_select s vs (t.string_literal x) h = cc
not_select s vs _ h = cc

not_null : (a : t.Arguments) → null ≢ json_arguments a
not_null (t.arguments p n) h = cc

pattern_injective : (a b : Items) → pattern a ≡ pattern b → a ≡ b
pattern_injective a b h = cc

variant_injective : (k l v w : Data) (d e : Bool) (rest others : Items) → item (variant k v d) rest ≡ item (variant l w e) others → (k ≡ l) × (v ≡ w) × (d ≡ e) × (rest ≡ others)
variant_injective k l v w d e rest others h = (cc, cc, cc, cc)

mutual
  json_elements_injective : (x y : t.Elements) → json_elements x ≡ json_elements y → x ≡ y
  json_elements_injective t.no_elements t.no_elements h = refl
  json_elements_injective t.no_elements _ h = cc
  json_elements_injective (t.text s x) (t.text r y) h =
      let texts : s ≡ r = cc in
      let others : json_elements x ≡ json_elements y = cc in
      let rest : x ≡ y = json_elements_injective x y others in
      cc
  json_elements_injective (t.text s x) _ h = cc
  json_elements_injective (t.placeable e x) (t.placeable f y) h =
      let inner : json_expression e ≡ json_expression f = cc in
      let others : json_elements x ≡ json_elements y = cc in
      let same : e ≡ f = json_expression_injective e f inner in
      let rest : x ≡ y = json_elements_injective x y others in
      cc
  json_elements_injective (t.placeable e x) _ h = cc

  json_expression_injective : (x y : t.Expression) → json_expression x ≡ json_expression y → x ≡ y
  json_expression_injective (t.select e vs) (t.select f ws) h =
      let selectors : json_inline e ≡ json_inline f = cc in
      let variants : json_variants vs ≡ json_variants ws = cc in
      let same : e ≡ f = json_inline_injective e f selectors in
      let all : vs ≡ ws = json_variants_injective vs ws variants in
      cc
  json_expression_injective (t.select e vs) (t.inline f) h = absurd (not_select e vs f h)
  json_expression_injective (t.inline e) (t.select f ws) h = let back : json_expression (t.select f ws) ≡ json_inline e = cc in absurd (not_select f ws e back)
  json_expression_injective (t.inline e) (t.inline f) h = ap t.inline (json_inline_injective e f h)

  json_variants_injective : (x y : t.Variants) → json_variants x ≡ json_variants y → x ≡ y
  json_variants_injective t.no_variants t.no_variants h = refl
  json_variants_injective t.no_variants _ h = cc
  json_variants_injective (t.variant k p d x) (t.variant l q e y) h =
      let parts = variant_injective _ _ _ _ d e _ _ h in
      let key : k ≡ l = json_key_injective k l parts.0 in
      let value : p ≡ q = json_elements_injective p q (pattern_injective _ _ parts.1) in
      let default : d ≡ e = parts.2 in
      let rest : x ≡ y = json_variants_injective x y parts.3 in
      cc
  json_variants_injective (t.variant k p d x) _ h = cc

  json_inline_injective : (x y : t.Inline) → json_inline x ≡ json_inline y → x ≡ y
  json_inline_injective (t.string_literal s) (t.string_literal r) h = let same : s ≡ r = cc in cc
  json_inline_injective (t.string_literal s) _ h = absurd (types_differ (json_inline (t.string_literal s)) _ refl h)
  json_inline_injective (t.number_literal s) (t.number_literal r) h = let same : s ≡ r = cc in cc
  json_inline_injective (t.number_literal s) _ h = absurd (types_differ (json_inline (t.number_literal s)) _ refl h)
  json_inline_injective (t.function_reference i a) (t.function_reference j b) h =
      let ids : i ≡ j = cc in
      let calls : json_arguments a ≡ json_arguments b = cc in
      let same : a ≡ b = json_arguments_injective a b calls in
      cc
  json_inline_injective (t.function_reference i a) _ h = absurd (types_differ (json_inline (t.function_reference i a)) _ refl h)
  json_inline_injective (t.message_reference i a) (t.message_reference j b) h =
      let ids : i ≡ j = cc in
      let accessors : or_null identifier a ≡ or_null identifier b = cc in
      let same : a ≡ b = accessor_injective a b accessors in
      cc
  json_inline_injective (t.message_reference i a) _ h = absurd (types_differ (json_inline (t.message_reference i a)) _ refl h)
  json_inline_injective (t.term_reference i a c) (t.term_reference j b d) h =
      let ids : i ≡ j = cc in
      let accessors : or_null identifier a ≡ or_null identifier b = cc in
      let calls : json_maybe_arguments c ≡ json_maybe_arguments d = cc in
      let same : a ≡ b = accessor_injective a b accessors in
      let call : c ≡ d = json_maybe_arguments_injective c d calls in
      cc
  json_inline_injective (t.term_reference i a c) _ h = absurd (types_differ (json_inline (t.term_reference i a c)) _ refl h)
  json_inline_injective (t.variable_reference i) (t.variable_reference j) h = let ids : i ≡ j = cc in cc
  json_inline_injective (t.variable_reference i) _ h = absurd (types_differ (json_inline (t.variable_reference i)) _ refl h)
  json_inline_injective (t.nested e) (t.nested f) h =
      let inner : json_expression e ≡ json_expression f = cc in
      ap t.nested (json_expression_injective e f inner)
  json_inline_injective (t.nested e) _ h = absurd (types_differ (json_inline (t.nested e)) _ refl h)

  json_maybe_arguments_injective : (x y : t.MaybeArguments) → json_maybe_arguments x ≡ json_maybe_arguments y → x ≡ y
  json_maybe_arguments_injective t.no_arguments t.no_arguments h = refl
  json_maybe_arguments_injective t.no_arguments (t.with_arguments b) h = absurd (not_null b h)
  json_maybe_arguments_injective (t.with_arguments a) t.no_arguments h = let back : null ≡ json_arguments a = cc in absurd (not_null a back)
  json_maybe_arguments_injective (t.with_arguments a) (t.with_arguments b) h = ap t.with_arguments (json_arguments_injective a b h)

  json_arguments_injective : (x y : t.Arguments) → json_arguments x ≡ json_arguments y → x ≡ y
  json_arguments_injective (t.arguments p n) (t.arguments q m) h =
      let positionals : json_positional p ≡ json_positional q = cc in
      let nameds : json_named n ≡ json_named m = cc in
      let positional : p ≡ q = json_positional_injective p q positionals in
      let named : n ≡ m = json_named_injective n m nameds in
      cc

  json_positional_injective : (x y : t.Inlines) → json_positional x ≡ json_positional y → x ≡ y
  json_positional_injective t.no_inlines t.no_inlines h = refl
  json_positional_injective t.no_inlines _ h = cc
  json_positional_injective (t.positional e x) (t.positional f y) h =
      let first : json_inline e ≡ json_inline f = cc in
      let others : json_positional x ≡ json_positional y = cc in
      let same : e ≡ f = json_inline_injective e f first in
      let rest : x ≡ y = json_positional_injective x y others in
      cc
  json_positional_injective (t.positional e x) _ h = cc

  json_named_injective : (x y : t.Nameds) → json_named x ≡ json_named y → x ≡ y
  json_named_injective t.no_nameds t.no_nameds h = refl
  json_named_injective t.no_nameds _ h = cc
  json_named_injective (t.named i e x) (t.named j f y) h =
      let names : i ≡ j = cc in
      let first : json_inline e ≡ json_inline f = cc in
      let others : json_named x ≡ json_named y = cc in
      let same : e ≡ f = json_inline_injective e f first in
      let rest : x ≡ y = json_named_injective x y others in
      cc
  json_named_injective (t.named i e x) _ h = cc

json_pattern_injective : (x y : t.Elements) → json_pattern x ≡ json_pattern y → x ≡ y
json_pattern_injective x y h = let elements : json_elements x ≡ json_elements y = cc in json_elements_injective x y elements

json_attribute_injective : (x y : t.Attribute) → json_attribute x ≡ json_attribute y → x ≡ y
json_attribute_injective x y h =
    let ids : x.id ≡ y.id = cc in
    let values : json_pattern x.value ≡ json_pattern y.value = cc in
    ap (λ i. record x { id = i }) ids ∙ ap (λ v. record y { value = v }) (json_pattern_injective x.value y.value values)

json_comment_injective : (x y : List (List ℕ)) → json_comment x ≡ json_comment y → x ≡ y
json_comment_injective x y h = let lines : each string x ≡ each string y = cc in each_injective string string_injective x y lines

maybe_pattern_injective : (x y : Option t.Elements) → or_null json_pattern x ≡ or_null json_pattern y → x ≡ y
maybe_pattern_injective = or_null_injective json_pattern (λ p h. cc) json_pattern_injective

maybe_comment_injective : (x y : Option (List (List ℕ))) → or_null json_comment x ≡ or_null json_comment y → x ≡ y
maybe_comment_injective = or_null_injective json_comment (λ c h. cc) json_comment_injective

message_injective : (x y : t.Message) → json_entry (t.message x) ≡ json_entry (t.message y) → x ≡ y
message_injective x y h =
    let ids : x.id ≡ y.id = cc in
    let values : or_null json_pattern x.value ≡ or_null json_pattern y.value = cc in
    let lists : each json_attribute x.attributes ≡ each json_attribute y.attributes = cc in
    let comments : or_null json_comment x.comment ≡ or_null json_comment y.comment = cc in
    ap (λ i. record x { id = i }) ids
    ∙ ap (λ v. record x { id = y.id; value = v }) (maybe_pattern_injective x.value y.value values)
    ∙ ap (λ list. record y { attributes = list; comment = x.comment }) (each_injective json_attribute json_attribute_injective x.attributes y.attributes lists)
    ∙ ap (λ c. record y { comment = c }) (maybe_comment_injective x.comment y.comment comments)

term_injective : (x y : t.Term) → json_entry (t.term x) ≡ json_entry (t.term y) → x ≡ y
term_injective x y h =
    let ids : x.id ≡ y.id = cc in
    let values : json_pattern x.value ≡ json_pattern y.value = cc in
    let lists : each json_attribute x.attributes ≡ each json_attribute y.attributes = cc in
    let comments : or_null json_comment x.comment ≡ or_null json_comment y.comment = cc in
    ap (λ i. record x { id = i }) ids
    ∙ ap (λ v. record x { id = y.id; value = v }) (json_pattern_injective x.value y.value values)
    ∙ ap (λ list. record y { attributes = list; comment = x.comment }) (each_injective json_attribute json_attribute_injective x.attributes y.attributes lists)
    ∙ ap (λ c. record y { comment = c }) (maybe_comment_injective x.comment y.comment comments)

json_entry_injective : (x y : t.Entry) → json_entry x ≡ json_entry y → x ≡ y
json_entry_injective (t.message m) (t.message n) h = ap t.message (message_injective m n h)
json_entry_injective (t.message m) _ h = absurd (types_differ (json_entry (t.message m)) _ refl h)
json_entry_injective (t.term m) (t.term n) h = ap t.term (term_injective m n h)
json_entry_injective (t.term m) _ h = absurd (types_differ (json_entry (t.term m)) _ refl h)
json_entry_injective (t.comment x) (t.comment y) h = let lines : each string x ≡ each string y = cc in ap t.comment (each_injective string string_injective x y lines)
json_entry_injective (t.comment x) _ h = absurd (types_differ (json_entry (t.comment x)) _ refl h)
json_entry_injective (t.group_comment x) (t.group_comment y) h = let lines : each string x ≡ each string y = cc in ap t.group_comment (each_injective string string_injective x y lines)
json_entry_injective (t.group_comment x) _ h = absurd (types_differ (json_entry (t.group_comment x)) _ refl h)
json_entry_injective (t.resource_comment x) (t.resource_comment y) h = let lines : each string x ≡ each string y = cc in ap t.resource_comment (each_injective string string_injective x y lines)
json_entry_injective (t.resource_comment x) _ h = absurd (types_differ (json_entry (t.resource_comment x)) _ refl h)
json_entry_injective (t.junk s) (t.junk r) h = let same : s ≡ r = cc in cc
json_entry_injective (t.junk s) _ h = absurd (types_differ (json_entry (t.junk s)) _ refl h)

pub json_injective : (x y : List t.Entry) → json x ≡ json y → x ≡ y
json_injective x y h = let entries : each json_entry x ≡ each json_entry y = cc in each_injective json_entry json_entry_injective x y entries

pub unversioned_json_injective : (x y : List t.Entry) → unversioned_json x ≡ unversioned_json y → x ≡ y
unversioned_json_injective x y h = let entries : each json_entry x ≡ each json_entry y = cc in each_injective json_entry json_entry_injective x y entries

-- a value with a version is none without
pub versions_differ : (body other : Items) → resource body ≢ unversioned_resource other
versions_differ body other h = cc

pub value_decides : ValueDecides
value_decides x y d (with_version a) (with_version b) = json_injective x y (a ∙ sym b)
value_decides x y d (with_version a) (without_version _ b) = absurd (versions_differ (each json_entry x) (each json_entry y) (a ∙ sym b))
value_decides x y d (without_version _ a) (with_version b) = absurd (versions_differ (each json_entry y) (each json_entry x) (b ∙ sym a))
value_decides x y d (without_version _ a) (without_version _ b) = unversioned_json_injective x y (a ∙ sym b)
