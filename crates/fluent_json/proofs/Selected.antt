-- Lists in which a select is by a message's attribute: the tests of their items, one after the other.
use Rattle.std.proofs.Common.{◌≡◌, ℕ, ◌≤◌, Bool, List, [], ◌∷◌, length, take, map, String, Global, string_bytes, refl, sym, ap, ◌∙◌}
use Rattle.std.specs.Prelude.{◌||◌}
use Rattle.std.specs.List.{list_any}
use Rattle.std.proofs.lemmas.List.{take_all}
use Rattle.fluent_grammar.specs.Tree as t
use Rattle.fluent_ast.specs.declared.Entry.{Entry}
use Rattle.fluent_ast.specs.declared.Attribute.{Attribute}
use Rattle.fluent_ast.specs.declared.InlineExpression.{InlineExpression}
use Rattle.fluent_ast.specs.declared.PatternElement.{PatternElement}
use Rattle.fluent_ast.specs.declared.Variant.{Variant as VariantOf}
use Rattle.fluent_ast.specs.declared.NamedArgument.{NamedArgument}
use Rattle.fluent_ast.specs.View.{Element, text, placeable, Variant, Named, elements_of, variants_of, inlines_of, nameds_of, element_view, variant_view, inline_view, named_view, attribute_view, entry_view}
use Rattle.fluent_json_write.specs.Selectors.{elements_select, expression_selects, variants_select, inline_selects, positional_select, named_select, attribute_selects, entry_selects}
use Rattle.fluent_json.specs.Selects.{element_selects, variant_selects, one_named_selects, in_element, in_inline, in_variant, in_named, in_attribute, in_entry, in_elements, in_variants, in_positional, in_nameds, in_attributes, in_entries}

any-map : {A B : Type 0} (p : B → Bool) (f : A → B) (xs : List A) → list_any p (map f xs) ≡ list_any (λ x. p (f x)) xs
any-map p f [] = refl
any-map p f (x ∷ xs) = ap (λ (b : Bool). p (f x) || b) (any-map p f xs)

elements-any : (es : List Element) → elements_select (elements_of es) ≡ list_any element_selects es
elements-any [] = refl
elements-any (text s ∷ es) = elements-any es
elements-any (placeable e ∷ es) = ap (λ (b : Bool). expression_selects e || b) (elements-any es)

variants-any : (vs : List Variant) → variants_select (variants_of vs) ≡ list_any variant_selects vs
variants-any [] = refl
variants-any (v ∷ vs) = ap (λ (b : Bool). variant_selects v || b) (variants-any vs)

positional-any : (es : List t.Inline) → positional_select (inlines_of es) ≡ list_any inline_selects es
positional-any [] = refl
positional-any (e ∷ es) = ap (λ (b : Bool). inline_selects e || b) (positional-any es)

named-any : (ns : List Named) → named_select (nameds_of ns) ≡ list_any one_named_selects ns
named-any [] = refl
named-any (n ∷ ns) = ap (λ (b : Bool). one_named_selects n || b) (named-any ns)

pub in_elements-any : (es : List (PatternElement (String Global))) → in_elements es ≡ list_any in_element es
in_elements-any es = elements-any (map (element_view (String Global) string_bytes) es) ∙ any-map element_selects (element_view (String Global) string_bytes) es

pub in_variants-any : (vs : List (VariantOf (String Global))) → in_variants vs ≡ list_any in_variant vs
in_variants-any vs = variants-any (map (variant_view (String Global) string_bytes) vs) ∙ any-map variant_selects (variant_view (String Global) string_bytes) vs

pub in_positional-any : (es : List (InlineExpression (String Global))) → in_positional es ≡ list_any in_inline es
in_positional-any es = positional-any (map (inline_view (String Global) string_bytes) es) ∙ any-map inline_selects (inline_view (String Global) string_bytes) es

pub in_nameds-any : (ns : List (NamedArgument (String Global))) → in_nameds ns ≡ list_any in_named ns
in_nameds-any ns = named-any (map (named_view (String Global) string_bytes) ns) ∙ any-map one_named_selects (named_view (String Global) string_bytes) ns

pub in_attributes-any : (list : List (Attribute (String Global))) → in_attributes list ≡ list_any in_attribute list
in_attributes-any list = any-map attribute_selects (attribute_view (String Global) string_bytes) list

pub in_entries-any : (es : List (Entry (String Global))) → in_entries es ≡ list_any in_entry es
in_entries-any es = any-map entry_selects (entry_view (String Global) string_bytes) es

-- the end of a loop: all items
pub all_of_them : {A : Type 0} (p : A → Bool) (xs : List A) (k : ℕ) (found all : Bool) → length xs ≤ k → found ≡ list_any p (take k xs) → all ≡ list_any p xs → found ≡ all
all_of_them p xs k found all end so_far whole = so_far ∙ ap (list_any p) (take_all k xs end) ∙ sym whole
