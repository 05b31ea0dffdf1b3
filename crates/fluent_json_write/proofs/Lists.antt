-- The arrays of a tree's values, as lists.
use Rattle.std.proofs.Common.{◌≡◌, ℕ, ◌+◌, ◌<◌, ◌≤◌, List, [], ◌∷◌, ◌++◌, length, get_or, take, map, String, Global, string_bytes, refl, sym, ap, ◌∙◌}
use Rattle.std.proofs.lemmas.List.{take_more, take_all, map-append}
use Rattle.serde_json.specs.Data.{Data, item}
use Rattle.serde_json.specs.View.{items_of}
use Rattle.fluent_grammar.specs.Tree as t
use Rattle.fluent_ast.specs.declared.InlineExpression.{InlineExpression}
use Rattle.fluent_ast.specs.declared.PatternElement.{PatternElement}
use Rattle.fluent_ast.specs.declared.Variant.{Variant as VariantOf}
use Rattle.fluent_ast.specs.declared.NamedArgument.{NamedArgument}
use Rattle.fluent_ast.specs.View.{Element, text, placeable, Variant, Named, elements_of, variants_of, inlines_of, nameds_of, element_view, variant_view, inline_view, named_view}
use Rattle.fluent_json_write.specs.Json.{each, json_elements, json_variants, json_positional, json_named, json_inline}
use Rattle.fluent_json_write.specs.Parts.{json_element, json_variant, json_one_named, element_json, elements_json, variant_json, variants_json, inline_json, positional_json, named_json, nameds_json}

map_after-map : {A B C : Type 0} (f : B → C) (g : A → B) (xs : List A) → map f (map g xs) ≡ map (λ x. f (g x)) xs
map_after-map f g [] = refl
map_after-map f g (x ∷ xs) = ap (λ ys. f (g x) ∷ ys) (map_after-map f g xs)

pub each-items : {A : Type 0} (json : A → Data) (xs : List A) → each json xs ≡ items_of (map json xs)
each-items json [] = refl
each-items json (x ∷ xs) = ap (item (json x)) (each-items json xs)

pub each-map : {A B : Type 0} (json : B → Data) (f : A → B) (xs : List A) → each json (map f xs) ≡ items_of (map (λ x. json (f x)) xs)
each-map json f xs = each-items json (map f xs) ∙ ap items_of (map_after-map json f xs)

pub json_elements-items : (es : List Element) → json_elements (elements_of es) ≡ items_of (map json_element es)
json_elements-items [] = refl
json_elements-items (text s ∷ es) = ap (item (json_element (text s))) (json_elements-items es)
json_elements-items (placeable e ∷ es) = ap (item (json_element (placeable e))) (json_elements-items es)

pub json_variants-items : (vs : List Variant) → json_variants (variants_of vs) ≡ items_of (map json_variant vs)
json_variants-items [] = refl
json_variants-items (v ∷ vs) = ap (item (json_variant v)) (json_variants-items vs)

pub json_positional-items : (es : List t.Inline) → json_positional (inlines_of es) ≡ items_of (map json_inline es)
json_positional-items [] = refl
json_positional-items (e ∷ es) = ap (item (json_inline e)) (json_positional-items es)

pub json_named-items : (ns : List Named) → json_named (nameds_of ns) ≡ items_of (map json_one_named ns)
json_named-items [] = refl
json_named-items (n ∷ ns) = ap (item (json_one_named n)) (json_named-items ns)

pub elements_json-items : (es : List (PatternElement (String Global))) → elements_json es ≡ items_of (map element_json es)
elements_json-items es = json_elements-items _ ∙ ap items_of (map_after-map json_element (element_view (String Global) string_bytes) es)

pub variants_json-items : (vs : List (VariantOf (String Global))) → variants_json vs ≡ items_of (map variant_json vs)
variants_json-items vs = json_variants-items _ ∙ ap items_of (map_after-map json_variant (variant_view (String Global) string_bytes) vs)

pub positional_json-items : (es : List (InlineExpression (String Global))) → positional_json es ≡ items_of (map inline_json es)
positional_json-items es = json_positional-items _ ∙ ap items_of (map_after-map json_inline (inline_view (String Global) string_bytes) es)

pub nameds_json-items : (ns : List (NamedArgument (String Global))) → nameds_json ns ≡ items_of (map named_json ns)
nameds_json-items ns = json_named-items _ ∙ ap items_of (map_after-map json_one_named (named_view (String Global) string_bytes) ns)

-- one more made of the item at k
pub map-made_more : {A B C : Type 0} (f : B → C) (g : A → C) (made : List B) (xs : List A) (k : ℕ) (more : B) (it : A) → k < length xs → it ≡ get_or xs k it → f more ≡ g it → map f made ≡ map g (take k xs) → map f (made ++ more ∷ []) ≡ map g (take (k + 1) xs)
map-made_more f g made xs k more it inside is same below =
    map-append f made (more ∷ [])
    ∙ ap (λ ys. ys ++ f more ∷ []) below
    ∙ ap (λ y. map g (take k xs) ++ y ∷ []) (same ∙ ap g is)
    ∙ sym (map-append g (take k xs) (get_or xs k it ∷ []))
    ∙ ap (map g) (sym (take_more xs k it inside))

-- all are made
pub items_of-made : {A B : Type 0} (f : B → Data) (g : A → Data) (made : List B) (xs : List A) (k : ℕ) → length xs ≤ k → map f made ≡ map g (take k xs) → items_of (map f made) ≡ items_of (map g xs)
items_of-made f g made xs k end below = ap items_of (below ∙ ap (map g) (take_all k xs end))
