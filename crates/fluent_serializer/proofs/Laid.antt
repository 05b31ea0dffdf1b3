-- The signs of a list of nodes, one node after another.
use Rattle.std.proofs.Common.{◌≡◌, ℕ, ◌+◌, Bool, true, false, List, [], ◌∷◌, ◌++◌, refl, sym, ap, ◌∙◌, append_assoc, append-nil, length, map}
use Rattle.std.proofs.Math.Dec.{eqb-suc-zero}
use Rattle.std.specs.Prelude.{◌||◌, not, ◌==◌}
use Rattle.fluent_grammar.specs.Words.{Text, dot, equals, space}
use Rattle.fluent_grammar.specs.Tree.{Attribute, Entry, Inline, Nameds, no_nameds, named}
use Rattle.fluent_grammar.specs.Written.{Sign, sign, argument_name_signs, attributes_signs, between, comment_signs, comment_text_signs, entries_signs, entry_signs, is_no_junk, new_line, elements_signs, has_positional, inline_signs, inlines_signs, nameds_signs, placeable_signs, variants_signs, variant_head_signs, pattern_signs}
use Rattle.fluent_ast.specs.View.{Element, text, placeable, elements_of, Variant, variants_of, inlines_of, Named, nameds_of}

pub elements_signs-append : (level : ℕ) (es fs : List Element) → elements_signs level (elements_of (es ++ fs)) ≡ elements_signs level (elements_of es) ++ elements_signs level (elements_of fs)
elements_signs-append level [] fs = refl
elements_signs-append level (text s ∷ es) fs = ap (λ x. sign level s ∷ x) (elements_signs-append level es fs)
elements_signs-append level (placeable e ∷ es) fs =
    ap (λ x. placeable_signs level e ++ x) (elements_signs-append level es fs)
    ∙ sym (append_assoc (placeable_signs level e) (elements_signs level (elements_of es)) _)

pub variants_signs-append : (level : ℕ) (vs ws : List Variant) → variants_signs level (variants_of (vs ++ ws)) ≡ variants_signs level (variants_of vs) ++ variants_signs level (variants_of ws)
variants_signs-append level [] ws = refl
variants_signs-append level (v ∷ vs) ws =
    let first = variant_head_signs level v.key v.default ++ pattern_signs (level + 2) v.value in
    ap (λ x. first ++ x) (variants_signs-append level vs ws)
    ∙ sym (append_assoc first (variants_signs level (variants_of vs)) (variants_signs level (variants_of ws)))

or_true : (b : Bool) → (b || true) ≡ true
or_true true = refl
or_true false = refl

pub or_false : (b : Bool) → (b || false) ≡ b
or_false true = refl
or_false false = refl

-- one more argument without a name
pub inlines_signs-push : (level : ℕ) (after : Bool) (ps : List Inline) (e : Inline) → inlines_signs level after (inlines_of (ps ++ e ∷ [])) ≡ inlines_signs level after (inlines_of ps) ++ (between level (after || has_positional (inlines_of ps)) ++ inline_signs level e)
inlines_signs-push level after [] e =
    ap (λ x. between level after ++ x) (append-nil (inline_signs level e))
    ∙ ap (λ b. between level b ++ inline_signs level e) (sym (or_false after))
inlines_signs-push level after (p ∷ ps) e =
    ap (λ x. between level after ++ (inline_signs level p ++ x)) (inlines_signs-push level true ps e)
    ∙ ap (λ x. between level after ++ x) (sym (append_assoc (inline_signs level p) (inlines_signs level true (inlines_of ps)) _))
    ∙ sym (append_assoc (between level after) (inline_signs level p ++ inlines_signs level true (inlines_of ps)) _)
    ∙ ap (λ b. (between level after ++ (inline_signs level p ++ inlines_signs level true (inlines_of ps))) ++ (between level b ++ inline_signs level e)) (sym (or_true after))

pub has_positional-push : (ps : List Inline) (e : Inline) → has_positional (inlines_of (ps ++ e ∷ [])) ≡ true
has_positional-push [] e = refl
has_positional-push (p ∷ ps) e = refl

-- whether there is an argument with a name
abbrev pub has_named : Nameds → Bool
has_named no_nameds = false
has_named (named name e ns) = true

-- one more argument with a name
pub nameds_signs-push : (level : ℕ) (after : Bool) (ns : List Named) (n : Named) → nameds_signs level after (nameds_of (ns ++ n ∷ [])) ≡ nameds_signs level after (nameds_of ns) ++ (argument_name_signs level (after || has_named (nameds_of ns)) n.name ++ inline_signs level n.value)
nameds_signs-push level after [] n =
    ap (λ x. argument_name_signs level after n.name ++ x) (append-nil (inline_signs level n.value))
    ∙ ap (λ b. argument_name_signs level b n.name ++ inline_signs level n.value) (sym (or_false after))
nameds_signs-push level after (m ∷ ns) n =
    ap (λ x. argument_name_signs level after m.name ++ (inline_signs level m.value ++ x)) (nameds_signs-push level true ns n)
    ∙ ap (λ x. argument_name_signs level after m.name ++ x) (sym (append_assoc (inline_signs level m.value) (nameds_signs level true (nameds_of ns)) _))
    ∙ sym (append_assoc (argument_name_signs level after m.name) (inline_signs level m.value ++ nameds_signs level true (nameds_of ns)) _)
    ∙ ap (λ b. (argument_name_signs level after m.name ++ (inline_signs level m.value ++ nameds_signs level true (nameds_of ns))) ++ (argument_name_signs level b n.name ++ inline_signs level n.value)) (sym (or_true after))

pub has_named-push : (after : Bool) (ns : List Named) (n : Named) → (after || has_named (nameds_of (ns ++ n ∷ []))) ≡ true
has_named-push after [] n = or_true after
has_named-push after (m ∷ ns) n = or_true after

-- no argument without a name, by their number
pub has_positional-length : {A : Type 0} (view : A → Inline) (xs : List A) (n : ℕ) → n ≡ length xs → not (n == 0) ≡ has_positional (inlines_of (map view xs))
has_positional-length view [] n is = ap (λ k. not (k == 0)) is
has_positional-length view (x ∷ xs) n is = ap (λ k. not (k == 0)) is ∙ ap not (eqb-suc-zero (length xs))

pub comment_signs-append : (level : Text) (ls ms : List Text) → comment_signs level (ls ++ ms) ≡ comment_signs level ls ++ comment_signs level ms
comment_signs-append level [] ms = refl
comment_signs-append level (l ∷ ls) ms =
    let first = sign 0 level ∷ (comment_text_signs l ++ new_line ∷ []) in
    ap (λ x. first ++ x) (comment_signs-append level ls ms)
    ∙ sym (append_assoc first (comment_signs level ls) (comment_signs level ms))

-- an attribute
abbrev attribute_signs : Attribute → List Sign
attribute_signs a = new_line ∷ sign 1 (dot ∷ []) ∷ sign 1 a.id ∷ sign 1 (space ∷ equals ∷ []) ∷ pattern_signs 2 a.value

pub attributes_signs-append : (bs cs : List Attribute) → attributes_signs (bs ++ cs) ≡ attributes_signs bs ++ attributes_signs cs
attributes_signs-append [] cs = refl
attributes_signs-append (b ∷ bs) cs =
    ap (λ x. attribute_signs b ++ x) (attributes_signs-append bs cs)
    ∙ sym (append_assoc (attribute_signs b) (attributes_signs bs) (attributes_signs cs))

-- whether an entry that isn't junk stands right after some entries
abbrev pub after_entries : Bool → List Entry → Bool
after_entries after [] = after
after_entries after (e ∷ es) = after_entries (is_no_junk e) es

pub after_entries-push : (after : Bool) (es : List Entry) (e : Entry) → after_entries after (es ++ e ∷ []) ≡ is_no_junk e
after_entries-push after [] e = refl
after_entries-push after (d ∷ es) e = after_entries-push (is_no_junk d) es e

-- one more entry
pub entries_signs-push : (with_junk after : Bool) (es : List Entry) (e : Entry) → entries_signs with_junk after (es ++ e ∷ []) ≡ entries_signs with_junk after es ++ entry_signs with_junk (after_entries after es) e
entries_signs-push with_junk after [] e = append-nil (entry_signs with_junk after e)
entries_signs-push with_junk after (d ∷ es) e =
    ap (λ x. entry_signs with_junk after d ++ x) (entries_signs-push with_junk (is_no_junk d) es e)
    ∙ sym (append_assoc (entry_signs with_junk after d) (entries_signs with_junk (is_no_junk d) es) _)
