-- Without their places, occurrences are what the tree names.
use Rattle.std.proofs.Common.{◌≡◌, ◌∙◌, List, [], ◌∷◌, ◌++◌, Option, Some, None, ap, drop, length, map, refl}
use Rattle.std.proofs.lemmas.List.{map-append}
use Rattle.fluent_grammar.specs.Words.{Text, skip_blank, skip_blank_block, skip_separator, skip_spaces}
use Rattle.fluent_grammar.specs.Tiling.{listed}
use Rattle.fluent_grammar.specs.Tree as t
use Rattle.lint_entries.specs.AttributePlaces.{value_elements}
use Rattle.lint_entries.specs.Kept.{kept_tiles, part_of_tile}
use Rattle.lint_findings.specs.Occurrences.{after_equals}
use Rattle.lint_findings.specs.PlaceLaws.{tile_entries}
use Rattle.lint_findings.specs.Tiles.{Tile, entry_tile, junk_tile, tiles}
use Rattle.lint_findings.proofs.TilesAreTheList.{tiles_are_the_list}
use Rattle.lint_nodes.specs.Rests.{after_attribute, after_texts, first_placeable, first_variant, inline_rest, inlines_rest, pattern_rest, placeable_rest, value_of_argument, value_of_variant, within}
use Rattle.fluent_symbols.specs.Entries.{in_attributes, in_body, in_entry}
use Rattle.fluent_symbols.specs.Mentions.{Mention, defined, mention, of_argument, of_arguments, of_attribute, of_attributes, of_call, of_elements, of_entries, of_entry, of_expression, of_inline, of_inlines, of_nameds, of_variants, referred}
use Rattle.fluent_symbols.specs.Occurrences.{Occurrence, argument_named, attribute, attribute_named, function, in_arguments, in_call, in_elements, in_expression, in_inline, in_inlines, in_nameds, in_pattern, in_variants, message, named, owned, term, with_minus}
use Rattle.fluent_symbols.specs.OrderLaws.{OccurrencesAreOfTheTree}
use Rattle.fluent_symbols.specs.Sources.{in_parts}

-- of two lists after each other
both : (xs ys : List Occurrence) {us vs : List Mention} → map mention xs ≡ us → map mention ys ≡ vs → map mention (xs ++ ys) ≡ us ++ vs
both xs ys {us} p q = map-append mention xs ys ∙ ap (λ zs. zs ++ map mention ys) p ∙ ap (λ zs. us ++ zs) q

also : (m : Mention) {zs us : List Mention} → zs ≡ us → m ∷ zs ≡ m ∷ us
also m p = ap (λ zs. m ∷ zs) p

-- ---- patterns

attribute_mentions : (owner : Text) (a : Option Text) (s : Text) → map mention (attribute_named owner a s) ≡ of_attribute owner a
attribute_mentions owner None s = refl
attribute_mentions owner (Some name) s = refl

argument_mentions : (callee : Option Text) (name s : Text) → map mention (argument_named callee name s) ≡ of_argument callee name
argument_mentions None name s = refl
argument_mentions (Some callee) name s = refl

module _ (owner : Text) where
  mutual
    pub elements_mentions : (es : t.Elements) (s : Text) → map mention (in_elements owner es s) ≡ of_elements owner es
    elements_mentions t.no_elements s = refl
    elements_mentions (t.text x es) s = elements_mentions es s
    elements_mentions (t.placeable e es) s =
        let later = after_texts (placeable_rest e s) in
        both (in_expression owner e (within s)) (in_elements owner es later) (expression_mentions e (within s)) (elements_mentions es later)

    expression_mentions : (e : t.Expression) (s : Text) → map mention (in_expression owner e s) ≡ of_expression owner e
    expression_mentions (t.select i vs) s =
        let later = first_variant (inline_rest i s) in
        both (in_inline owner i s) (in_variants owner vs later) (inline_mentions i s) (variants_mentions vs later)
    expression_mentions (t.inline i) s = inline_mentions i s

    variants_mentions : (vs : t.Variants) (s : Text) → map mention (in_variants owner vs s) ≡ of_variants owner vs
    variants_mentions t.no_variants s = refl
    variants_mentions (t.variant k es d vs) s =
        let value = first_placeable (value_of_variant k s) in
        let later = skip_blank (pattern_rest es (value_of_variant k s)) in
        both (in_elements owner es value) (in_variants owner vs later) (elements_mentions es value) (variants_mentions vs later)

    inline_mentions : (i : t.Inline) (s : Text) → map mention (in_inline owner i s) ≡ of_inline owner i
    inline_mentions (t.string_literal x) s = refl
    inline_mentions (t.number_literal x) s = refl
    inline_mentions (t.function_reference id a) s =
        also (referred (named function id)) (arguments_mentions None a (within (skip_blank (drop (length id) s))))
    inline_mentions (t.message_reference id a) s =
        also (referred (named message id)) (attribute_mentions id a (skip_blank (drop (length id) s)))
    inline_mentions (t.term_reference id a c) s =
        let after = drop (length id) (drop 1 s) in
        let later = skip_blank (after_attribute a after) in
        also (referred (named term id))
        (both (attribute_named (with_minus id) a after) (in_call owner (with_minus id) c later) (attribute_mentions (with_minus id) a after) (call_mentions (with_minus id) c later))
    inline_mentions (t.variable_reference id) s = refl
    inline_mentions (t.nested e) s = expression_mentions e (within s)

    call_mentions : (callee : Text) (c : t.MaybeArguments) (s : Text) → map mention (in_call owner callee c s) ≡ of_call owner callee c
    call_mentions callee t.no_arguments s = refl
    call_mentions callee (t.with_arguments a) s = arguments_mentions (Some callee) a (within s)

    arguments_mentions : (callee : Option Text) (a : t.Arguments) (s : Text) → map mention (in_arguments owner callee a s) ≡ of_arguments owner callee a
    arguments_mentions callee (t.arguments ps ns) s =
        both (in_inlines owner ps s) (in_nameds owner callee ns (inlines_rest ps s)) (inlines_mentions ps s) (nameds_mentions callee ns (inlines_rest ps s))

    inlines_mentions : (ps : t.Inlines) (s : Text) → map mention (in_inlines owner ps s) ≡ of_inlines owner ps
    inlines_mentions t.no_inlines s = refl
    inlines_mentions (t.positional e ps) s =
        let later = skip_separator (inline_rest e s) in
        both (in_inline owner e s) (in_inlines owner ps later) (inline_mentions e s) (inlines_mentions ps later)

    nameds_mentions : (callee : Option Text) (ns : t.Nameds) (s : Text) → map mention (in_nameds owner callee ns s) ≡ of_nameds owner callee ns
    nameds_mentions callee t.no_nameds s = refl
    nameds_mentions callee (t.named name e ns) s =
        let value = value_of_argument name s in
        let later = skip_separator (inline_rest e value) in
        both (argument_named callee name s) (in_inline owner e value ++ in_nameds owner callee ns later) (argument_mentions callee name s)
        (both (in_inline owner e value) (in_nameds owner callee ns later) (inline_mentions e value) (nameds_mentions callee ns later))

-- ---- entries

attributes_mentions : (owner : Text) (as' : List t.Attribute) (s : Text) → map mention (in_attributes owner as' s) ≡ of_attributes owner as'
attributes_mentions owner [] s = refl
attributes_mentions owner (a ∷ as') s =
    let value = after_equals (drop 1 (skip_spaces s)) in
    let later = pattern_rest a.value value in
    also (defined (owned attribute owner a.id))
    (both (in_pattern owner a.value value) (in_attributes owner as' later) (elements_mentions owner a.value (first_placeable value)) (attributes_mentions owner as' later))

body_mentions : (owner : Text) (value : t.Elements) (as' : List t.Attribute) (s : Text) → map mention (in_body owner value as' s) ≡ of_elements owner value ++ of_attributes owner as'
body_mentions owner value as' s =
    let later = skip_blank_block (pattern_rest value s) in
    both (in_pattern owner value s) (in_attributes owner as' later) (elements_mentions owner value (first_placeable s)) (attributes_mentions owner as' later)

entry_mentions : (e : t.Entry) (s : Text) → map mention (in_entry e s) ≡ of_entry e
entry_mentions (t.message m) s = also (defined (named message m.id)) (body_mentions m.id (value_elements m.value) m.attributes (after_equals s))
entry_mentions (t.term m) s = also (defined (named term m.id)) (body_mentions (with_minus m.id) m.value m.attributes (after_equals (drop 1 s)))
entry_mentions (t.comment c) s = refl
entry_mentions (t.group_comment c) s = refl
entry_mentions (t.resource_comment c) s = refl
entry_mentions (t.junk x) s = refl

-- ---- sources

tiles_mentions : (ts : List Tile) → map mention (in_parts (map part_of_tile (kept_tiles ts))) ≡ of_entries (listed (tile_entries ts))
tiles_mentions [] = refl
tiles_mentions (entry_tile at s (t.message m) ∷ ts) = both (in_entry (t.message m) s) (in_parts (map part_of_tile (kept_tiles ts))) (entry_mentions (t.message m) s) (tiles_mentions ts)
tiles_mentions (entry_tile at s (t.term m) ∷ ts) = both (in_entry (t.term m) s) (in_parts (map part_of_tile (kept_tiles ts))) (entry_mentions (t.term m) s) (tiles_mentions ts)
tiles_mentions (entry_tile at s (t.comment c) ∷ ts) = tiles_mentions ts
tiles_mentions (entry_tile at s (t.group_comment c) ∷ ts) = tiles_mentions ts
tiles_mentions (entry_tile at s (t.resource_comment c) ∷ ts) = tiles_mentions ts
tiles_mentions (entry_tile at s (t.junk x) ∷ ts) = tiles_mentions ts
tiles_mentions (junk_tile at s refusal ∷ ts) = tiles_mentions ts

pub occurrences_are_of_the_tree : OccurrencesAreOfTheTree
occurrences_are_of_the_tree source = tiles_mentions (tiles source) ∙ ap of_entries (tiles_are_the_list source)
