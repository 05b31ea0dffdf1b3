-- Names ascend: each begins at or after the end of the one before it.
use Rattle.std.proofs.Common.{◌≡◌, ◌∙◌, ℕ, zero, suc, ◌+◌, ◌-◌, ◌==◌, ◌≤◌, Bool, true, false, if◌then◌else◌, List, [], ◌∷◌, ◌++◌, Option, Some, None, ap, arith, drop, length, map, refl, subst, sym}
use Rattle.std.specs.Prelude.{All}
use Rattle.std.proofs.lemmas.List.{length-append, length-drop}
use Rattle.std.proofs.lemmas.List.Elements.{All-head, All-tail}
use Rattle.fluent_grammar.specs.Words.{Text, asterisk, begins_with, name_len, skip_blank, skip_blank_block, skip_separator, skip_spaces}
use Rattle.fluent_grammar.specs.Ends.{EndsIn}
use Rattle.fluent_grammar.specs.Reading.{entry_at}
use Rattle.fluent_grammar.specs.Refusal.{Reading, got, refused}
use Rattle.fluent_grammar.specs.Spelling.{SpellsHead, a_head, an_attribute, SpellsAttributes, no_more_attributes, one_more_attribute, SpellsEntry, a_message, a_term}
use Rattle.fluent_grammar.specs.Tiling.{at_column_zero, behind_junk}
use Rattle.fluent_grammar.specs.Tree as t
use Rattle.fluent_grammar.proofs.Entries.{entry_sound}
use Rattle.fluent_grammar.proofs.TilesJunk.{resume-end}
use Rattle.fluent_grammar.proofs.Within.{Fair, end-blank, end-blank_block, end-drop, end-if, end-le, end-none, end-same, end-separator, end-spaces, end-trans, entry-fair}
use Rattle.lint_entries.specs.Kept.{kept_tiles, part_of_tile}
use Rattle.lint_findings.specs.Occurrences.{after_equals}
use Rattle.lint_findings.specs.Tiles.{Tile, and_tiles, tiles_from}
use Rattle.lint_nodes.specs.Rests.{after_attribute, after_texts, arguments_rest, elements_rest, expression_rest, first_placeable, first_variant, inline_rest, inlines_rest, maybe_rest, nameds_rest, pattern_rest, placeable_rest, value_of_argument, value_of_variant, variants_rest, within}
use Rattle.lint_nodes.proofs.RestsAreRead.{name_left, pattern_left}
use Rattle.fluent_symbols.specs.Entries.{in_attributes, in_body, in_entry}
use Rattle.fluent_symbols.specs.OffsetLaws.{IsNamedIn}
use Rattle.fluent_symbols.specs.Occurrences.{Occurrence, argument_named, attribute_named, in_arguments, in_call, in_elements, in_expression, in_inline, in_inlines, in_nameds, in_pattern, in_variants, with_minus}
use Rattle.fluent_symbols.specs.OrderLaws.{Ascend, NamesAscend}
use Rattle.fluent_symbols.specs.Sources.{in_parts, occurrences}
use Rattle.fluent_symbols.proofs.NamesThere.{name_rest, names_stand_there, value_is}
use Rattle.fluent_symbols.proofs.RestsEnd.{placeable_begins_end, sign_end, texts_end, variant_begins_end, variant_value_end, within_end}

-- From one text on, up to another, each occurrence begins at or after the end of the name before it.
data Follows : Text → List Occurrence → Text → Type 0 where
  no_more : {s t : Text} → EndsIn t s → Follows s [] t
  one_more : {s t : Text} {o : Occurrence} {os : List Occurrence} → EndsIn o.at s → Follows (drop (length o.symbol.name) o.at) os t → Follows s (o ∷ os) t

from : {s u t : Text} {os : List Occurrence} → EndsIn u s → Follows u os t → Follows s os t
from h (no_more e) = no_more (end-trans e h)
from h (one_more e f) = one_more (end-trans e h) f

up_to : {s t u : Text} {os : List Occurrence} → EndsIn u t → Follows s os t → Follows s os u
up_to h (no_more e) = no_more (end-trans h e)
up_to h (one_more e f) = one_more e (up_to h f)

both : {s t u : Text} {xs ys : List Occurrence} → Follows s xs t → Follows t ys u → Follows s (xs ++ ys) u
both (no_more e) g = from e g
both (one_more e f) g = one_more e (both f g)

-- ---- patterns

attribute_follows : (owner : Text) (a : Option Text) (s : Text) → Follows s (attribute_named owner a s) (after_attribute a s)
attribute_follows owner None s = no_more (end-same s)
attribute_follows owner (Some name) s = one_more (end-drop 1 (end-same s)) (no_more (end-same (drop (length name) (drop 1 s))))

argument_follows : (callee : Option Text) (name s : Text) → Follows s (argument_named callee name s) (drop (length name) s)
argument_follows None name s = no_more (end-drop (length name) (end-same s))
argument_follows (Some callee) name s = one_more (end-same s) (no_more (end-same (drop (length name) s)))

module _ (owner : Text) where
  mutual
    elements_follow : (es : t.Elements) (s : Text) → Follows s (in_elements owner es s) (elements_rest es s)
    elements_follow t.no_elements s = no_more (end-same s)
    elements_follow (t.text x es) s = elements_follow es s
    elements_follow (t.placeable e es) s =
        both (from (within_end (end-same s)) (expression_follows e (within s)))
        (from (texts_end (placeable_rest e s) (sign_end (end-same (expression_rest e (within s))))) (elements_follow es (after_texts (placeable_rest e s))))

    expression_follows : (e : t.Expression) (s : Text) → Follows s (in_expression owner e s) (expression_rest e s)
    expression_follows (t.select i vs) s =
        both (inline_follows i s) (from (variant_begins_end (end-same (inline_rest i s))) (variants_follow vs (first_variant (inline_rest i s))))
    expression_follows (t.inline i) s = inline_follows i s

    variants_follow : (vs : t.Variants) (s : Text) → Follows s (in_variants owner vs s) (variants_rest vs s)
    variants_follow t.no_variants s = no_more (end-if (begins_with asterisk s) (end-drop 1 (end-same s)) (end-same s))
    variants_follow (t.variant k es d vs) s =
        let value = value_of_variant k s in
        both (from (placeable_begins_end value (variant_value_end k (end-same s))) (elements_follow es (first_placeable value)))
        (from (end-blank (end-same (pattern_rest es value))) (variants_follow vs (skip_blank (pattern_rest es value))))

    inline_follows : (i : t.Inline) (s : Text) → Follows s (in_inline owner i s) (inline_rest i s)
    inline_follows (t.string_literal x) s = no_more (end-drop 1 (end-drop (length x) (end-drop 1 (end-same s))))
    inline_follows (t.number_literal x) s = no_more (end-drop (length x) (end-same s))
    inline_follows (t.function_reference id a) s =
        let after = drop (length id) s in
        one_more (end-same s) (from (within_end (end-blank (end-same after))) (arguments_follow None a (within (skip_blank after))))
    inline_follows (t.message_reference id a) s =
        let after = drop (length id) s in
        one_more (end-same s) (from (end-blank (end-same after)) (attribute_follows id a (skip_blank after)))
    inline_follows (t.term_reference id a c) s =
        let after = drop (length id) (drop 1 s) in
        let left = after_attribute a after in
        one_more (end-drop 1 (end-same s))
        (both (attribute_follows (with_minus id) a after) (from (end-blank (end-same left)) (call_follows (with_minus id) c (skip_blank left))))
    inline_follows (t.variable_reference id) s = one_more (end-drop 1 (end-same s)) (no_more (end-same (drop (length id) (drop 1 s))))
    inline_follows (t.nested e) s =
        up_to (sign_end (end-same (expression_rest e (within s)))) (from (within_end (end-same s)) (expression_follows e (within s)))

    call_follows : (callee : Text) (c : t.MaybeArguments) (s : Text) → Follows s (in_call owner callee c s) (maybe_rest c s)
    call_follows callee t.no_arguments s = no_more (end-same s)
    call_follows callee (t.with_arguments a) s = from (within_end (end-same s)) (arguments_follow (Some callee) a (within s))

    arguments_follow : (callee : Option Text) (a : t.Arguments) (s : Text) → Follows s (in_arguments owner callee a s) (arguments_rest a s)
    arguments_follow callee (t.arguments ps ns) s =
        let later = inlines_rest ps s in
        up_to (end-drop 1 (end-same (nameds_rest ns later))) (both (inlines_follow ps s) (nameds_follow callee ns later))

    inlines_follow : (ps : t.Inlines) (s : Text) → Follows s (in_inlines owner ps s) (inlines_rest ps s)
    inlines_follow t.no_inlines s = no_more (end-same s)
    inlines_follow (t.positional e ps) s =
        both (inline_follows e s) (from (end-separator (end-same (inline_rest e s))) (inlines_follow ps (skip_separator (inline_rest e s))))

    nameds_follow : (callee : Option Text) (ns : t.Nameds) (s : Text) → Follows s (in_nameds owner callee ns s) (nameds_rest ns s)
    nameds_follow callee t.no_nameds s = no_more (end-same s)
    nameds_follow callee (t.named name e ns) s =
        let value = value_of_argument name s in
        both (argument_follows callee name s)
        (both (from (within_end (end-blank (end-same (drop (length name) s)))) (inline_follows e value))
        (from (end-separator (end-same (inline_rest e value))) (nameds_follow callee ns (skip_separator (inline_rest e value)))))

-- ---- entries

-- what is known of a name, an equals sign and what may be a pattern
record HeadIs (id : Text) (value : t.Elements) (s rest : Text) : Type 0 where
  after : EndsIn (after_equals s) (drop (length id) s)
  over : pattern_rest value (after_equals s) ≡ rest

head_is : {id : Text} {value : t.Elements} {s rest : Text} → SpellsHead id value s rest → HeadIs id value s rest
head_is (a_head {id} {s} {u} {v} {rest} {value} n c p) =
    let there : after_equals s ≡ v = ap (λ x. drop 1 (skip_spaces x)) (name_rest n) ∙ ap (drop 1) c in
    record {
      after = subst (λ x. EndsIn (after_equals s) x) (name_rest n ∙ sym (name_left n)) (end-drop 1 (end-spaces (end-same (drop (name_len s) s))));
      over = ap (pattern_rest value) there ∙ pattern_left p;
    }

-- the pattern after a name
value_follows : (owner : Text) {id : Text} {value : t.Elements} {s rest : Text} → HeadIs id value s rest →
    Follows (drop (length id) s) (in_pattern owner value (after_equals s)) (pattern_rest value (after_equals s))
value_follows owner {value = value} {s = s} head =
    from (placeable_begins_end (after_equals s) head.after) (elements_follow owner value (first_placeable (after_equals s)))

attributes_follow : (owner : Text) {as' : List t.Attribute} {s rest : Text} → SpellsAttributes as' s rest → Follows s (in_attributes owner as' s) rest
attributes_follow owner (no_more_attributes {s} c) = no_more (end-same s)
attributes_follow owner (one_more_attribute {s} {u} {rest} {others} (an_attribute {id} {value} e d some) more) =
    let name = drop 1 (skip_spaces s) in
    let head : HeadIs id value name u = subst (λ x. HeadIs id value x u) (sym (ap (drop 1) e)) (head_is d) in
    one_more (end-drop 1 (end-spaces (end-same s)))
    (both (value_follows owner head) (subst (λ x. Follows x (in_attributes owner others x) rest) (sym head.over) (attributes_follow owner more)))

body_follows : (owner : Text) {id : Text} {value : t.Elements} {as' : List t.Attribute} {s u rest : Text} → HeadIs id value s u → SpellsAttributes as' (skip_blank_block u) rest →
    Follows (drop (length id) s) (in_body owner value as' (after_equals s)) rest
body_follows owner {value = value} {as' = as'} {s = s} {rest = rest} head d =
    both (value_follows owner head)
    (from (end-blank_block (end-same (pattern_rest value (after_equals s))))
    (subst (λ x. Follows x (in_attributes owner as' x) rest) (sym (ap skip_blank_block head.over)) (attributes_follow owner d)))

entry_follows : {e : t.Entry} {s rest : Text} → SpellsEntry e s rest → EndsIn rest s → Follows s (in_entry e s) rest
entry_follows (a_message {id} {s} {u} {rest} {value} {attributes} d more some) h =
    one_more (end-same s)
    (subst (λ es. Follows (drop (length id) s) (in_body id es attributes (after_equals s)) rest) (sym (value_is value)) (body_follows id (head_is d) more))
entry_follows (a_term {id} {s} {u} {v} {rest} {value} {attributes} b d more some) h =
    let head : HeadIs id value (drop 1 s) v = subst (λ x. HeadIs id value x v) (sym (ap (drop 1) b)) (head_is d) in
    one_more (end-drop 1 (end-same s)) (body_follows (with_minus id) head more)
entry_follows other h = no_more h

-- ---- sources

abbrev in_tiles : List Tile → List Occurrence
in_tiles ts = in_parts (map part_of_tile (kept_tiles ts))

module _ (left : ℕ → Text → List Tile) (go : (at : ℕ) (s : Text) → Follows s (in_tiles (left at s)) []) where
  read_follows : (e : t.Entry) (s rest : Text) → entry_at s ≡ got e rest → EndsIn rest s → Follows s (in_entry e s) rest
  read_follows e s rest is h = entry_follows (entry_sound s e rest is) h

  tile_follows : (at : ℕ) (s : Text) (r : Reading t.Entry) → entry_at s ≡ r → Fair r s → Follows s (in_tiles (and_tiles left at s r)) []
  tile_follows at s (got (t.message m) rest) is fair = both (read_follows (t.message m) s rest is fair.parts) (go _ rest)
  tile_follows at s (got (t.term m) rest) is fair = both (read_follows (t.term m) s rest is fair.parts) (go _ rest)
  tile_follows at s (got (t.comment c) rest) is fair = from fair.parts (go _ rest)
  tile_follows at s (got (t.group_comment c) rest) is fair = from fair.parts (go _ rest)
  tile_follows at s (got (t.resource_comment c) rest) is fair = from fair.parts (go _ rest)
  tile_follows at s (got (t.junk x) rest) is fair = from fair.parts (go _ rest)
  tile_follows at s (refused refusal) is fair = from (resume-end (at_column_zero s refusal.at) refusal.at fair.parts.0) (go _ (behind_junk s refusal.at))

branch : (b : Bool) (s : Text) (ts : List Tile) → Follows s (in_tiles ts) [] → Follows s (in_tiles (if b then [] else ts)) []
branch true s ts f = no_more (end-none s)
branch false s ts f = f

follow_from : (n at : ℕ) (s : Text) → Follows s (in_tiles (tiles_from n at s)) []
unfolding tiles_from
follow_from zero at s = no_more (end-none s)
follow_from (suc n) at s =
    let u = skip_blank_block s in
    let here = at + (length s - length u) in
    branch (length u == 0) s (and_tiles (tiles_from n) here u (entry_at u))
    (from (end-blank_block (end-same s)) (tile_follows (tiles_from n) (follow_from n) here u (entry_at u) refl (entry-fair (end-same u))))

-- ---- offsets

module _ (source : Text) where
  -- the end of a name, by what is left after it
  end_of : (o : Occurrence) → IsNamedIn source o → length source - length (drop (length o.symbol.name) o.at) ≡ (length source - length o.at) + length o.symbol.name
  end_of o h =
      let fits : length o.at ≤ length source = end-le h.place in
      omega (arith, fits, ap length h.name, length-append o.symbol.name h.rest, length-drop (length o.symbol.name) o.at)

  ascend : {os : List Occurrence} {s : Text} → Follows s os [] → All (IsNamedIn source) os → Ascend source (length source - length s) os
  ascend (no_more e) named = tt
  ascend (one_more {s} {o} {os} e f) named =
      let it = All-head (IsNamedIn source) o os named in
      (omega (arith, end-le e), subst (λ n. Ascend source n os) (end_of o it) (ascend f (All-tail (IsNamedIn source) o os named)))

pub names_ascend : NamesAscend
names_ascend source =
    let start : length source - length source ≡ 0 = omega arith in
    subst (λ n. Ascend source n (occurrences source)) start (ascend source (follow_from (suc (length source)) 0 source) (names_stand_there source))
