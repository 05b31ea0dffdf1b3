-- The steps are the readings.
use Rattle.std.proofs.Common.{◌≡◌, ℕ, Bool, true, false, cond, ◌&&◌, List, [], ◌∷◌, ◌++◌, length, drop, refl, sym, ap, ◌∙◌, arith, subst, Option, Some, None}
use Rattle.std.specs.Prelude.{◌==◌}
use Rattle.std.proofs.lemmas.Bool.{false≢true}
use Rattle.fluent_tokens.proofs.Scanned.{test_of}
use Rattle.fluent_grammar.specs.Words as w
use Rattle.fluent_grammar.specs.Words.{Text, skip_blank, skip_separator, begins_with, begins_crlf, skip_blank_block, skip_spaces}
use Rattle.fluent_grammar.specs.Refusal.{Reading, got, refused, refuse, mapped, ◌>>=◌}
use Rattle.fluent_grammar.specs.Refusal as r
use Rattle.fluent_grammar.specs.Tree as t
use Rattle.fluent_grammar.specs.Lines.{Piece, in_line, placed, value_of, ends_line, pattern_ends, ends_behind_spaces}
use Rattle.fluent_grammar.specs.Reading as g
use Rattle.fluent_parser.specs.declared.fault.Fault.{Fault}
use Rattle.fluent_parser.specs.Reads.{whole, byte_at, argument_value_at, Fails}
use Rattle.fluent_parser.proofs.Failing.{fails_bind}
use Rattle.fluent_ast.specs.View.{Variant, Named}
use Rattle.fluent_parser.specs.Steps.{expression_by, placeable_by, closed_by, pattern_by, present, variant_by, variants_behind, positional, named, positional_by, named_or_positional_by, argument_by, names_with, with_argument, inlines_behind, nameds_behind, arguments_behind, text_piece, piece_behind, piece_by, pieces_by, pieces_after, first_place}
use Rattle.fluent_parser.proofs.Whole.{whole-inline, whole-line, whole-pieces}

bind_assoc : {A B C : Type 0} (x : Reading A) (f : A × Text → Reading B) (h : B × Text → Reading C) → ((x >>= f) >>= h) ≡ (x >>= (λ a. f a >>= h))
bind_assoc (got a rest) f h = refl
bind_assoc (refused fault) f h = refl

bind_same : {A B : Type 0} (x : Reading A) (f h : A × Text → Reading B) → ((a : A) (rest : Text) → f (a, rest) ≡ h (a, rest)) → (x >>= f) ≡ (x >>= h)
bind_same (got a rest) f h p = p a rest
bind_same (refused fault) f h p = refl

bind_mapped : {A B C : Type 0} (k : A → B) (x : Reading A) (f : B × Text → Reading C) → (mapped k x >>= f) ≡ (x >>= (λ a. f (k a.0, a.1)))
bind_mapped k (got a rest) f = refl
bind_mapped k (refused fault) f = refl

mapped_bind : {A B C : Type 0} (k : B → C) (x : Reading A) (f : A × Text → Reading B) → mapped k (x >>= f) ≡ (x >>= (λ a. mapped k (f a)))
mapped_bind k (got a rest) f = refl
mapped_bind k (refused fault) f = refl

mapped_mapped : {A B C : Type 0} (k : B → C) (j : A → B) (x : Reading A) → mapped k (mapped j x) ≡ mapped (λ a. k (j a)) x
mapped_mapped k j (got a rest) = refl
mapped_mapped k j (refused fault) = refl

mapped_same : {A B : Type 0} (k j : A → B) (x : Reading A) → ((a : A) → k a ≡ j a) → mapped k x ≡ mapped j x
mapped_same k j (got a rest) p = ap (λ z. got z rest) (p a)
mapped_same k j (refused fault) p = refl

bind_if : {A B : Type 0} (b : Bool) (x y : Reading A) (f : A × Text → Reading B) → (cond b x y >>= f) ≡ cond b (x >>= f) (y >>= f)
bind_if true x y f = refl
bind_if false x y f = refl

if_same : {A : Type 0} (b : Bool) (x y x' y' : A) → x ≡ x' → y ≡ y' → cond b x y ≡ cond b x' y'
if_same true x y x' y' p q = p
if_same false x y x' y' p q = q

-- placeables
closing_is : (e : t.Expression) (s : Text) → g.closing_at whole e s ≡ (byte_at w.close_brace s >>= (λ u. got e u.1))
unfolding g.closing_at
closing_is e s = sym (bind_if (begins_with w.close_brace s) (got tt (drop 1 s)) (refuse (r.expected_token w.close_brace) s) (λ u. got e u.1))

pub placeable_is : (s : Text) → g.placeable_at whole s ≡ placeable_by s
unfolding g.placeable_at placeable_by expression_by
placeable_is s =
    bind_same (whole.inline (skip_blank (drop 1 s))) _ _ (λ e rest. bind_same (g.select_or_inline_at whole e (skip_blank rest)) _ _ (λ x behind. closing_is x (skip_blank behind)))
    ∙ sym (bind_assoc (whole.inline (skip_blank (drop 1 s))) (λ e. g.select_or_inline_at whole e.0 (skip_blank e.1)) (λ x. byte_at w.close_brace (skip_blank x.1) >>= (λ u. got x.0 u.1)))

-- a placeable by its parts
pub placeable_read : (s rest behind : Text) (e : t.Inline) (x : t.Expression) → whole.inline (skip_blank (drop 1 s)) ≡ got e rest → g.select_or_inline_at whole e (skip_blank rest) ≡ got x behind → placeable_by s ≡ closed_by x behind
unfolding placeable_by expression_by
placeable_read s rest behind e x h k = rw (h, k) refl

pub placeable_fails : (f : Fault) (s at : Text) → Fails f at (whole.inline (skip_blank (drop 1 s))) → Fails f at (placeable_by s)
unfolding placeable_by expression_by
placeable_fails f s at h = fails_bind f at (whole.inline (skip_blank (drop 1 s)) >>= (λ e. g.select_or_inline_at whole e.0 (skip_blank e.1))) _ (fails_bind f at (whole.inline (skip_blank (drop 1 s))) _ h)

pub select_fails : (f : Fault) (s rest at : Text) (e : t.Inline) → whole.inline (skip_blank (drop 1 s)) ≡ got e rest → Fails f at (g.select_or_inline_at whole e (skip_blank rest)) → Fails f at (placeable_by s)
unfolding placeable_by expression_by
select_fails f s rest at e h k = fails_bind f at (whole.inline (skip_blank (drop 1 s)) >>= (λ e. g.select_or_inline_at whole e.0 (skip_blank e.1))) _ (subst (λ (x : Reading t.Inline). Fails f at (x >>= (λ e. g.select_or_inline_at whole e.0 (skip_blank e.1)))) (sym h) k)

-- variants
behind_is : (default : Bool) (key : t.VariantKey) (marked : Bool) (es : t.Elements) (s : Text) →
    g.variants_behind whole default key marked es s ≡ (present (value_of es) s >>= (λ v. mapped (t.variant key v.0 default) (whole.variants marked (skip_blank v.1))))
unfolding g.variants_behind
behind_is default key marked t.no_elements s = refl
behind_is default key marked (t.text x es) s = refl
behind_is default key marked (t.placeable x es) s = refl

value_is : (default : Bool) (key : t.VariantKey) (marked : Bool) (s : Text) →
    (g.pattern_at whole s >>= (λ value. g.variants_behind whole default key marked value.0 value.1))
    ≡ (pattern_by s >>= (λ value. present value.0 value.1 >>= (λ v. mapped (t.variant key v.0 default) (whole.variants marked (skip_blank v.1)))))
value_is default key marked s =
    bind_same (g.pattern_at whole s) _ _ (λ es rest. behind_is default key marked es rest)
    ∙ sym (bind_mapped value_of (g.pattern_at whole s) _)

variant_value_is : (default : Bool) (key : t.VariantKey) (marked : Bool) (s : Text) →
    g.variant_value_at whole default key marked s
    ≡ (byte_at w.close_bracket s >>= (λ u. pattern_by u.1 >>= (λ value. present value.0 value.1 >>= (λ v. mapped (t.variant key v.0 default) (whole.variants marked (skip_blank v.1))))))
unfolding g.variant_value_at
variant_value_is default key marked s =
    if_same (begins_with w.close_bracket s) _ _ _ _ (value_is default key marked (drop 1 s)) refl
    ∙ sym (bind_if (begins_with w.close_bracket s) (got tt (drop 1 s)) (refuse (r.expected_token w.close_bracket) s) _)

present_case : (default : Bool) (key : t.VariantKey) (marked : Bool) (x : Reading t.Elements) →
    (x >>= (λ v. mapped (t.variant key v.0 default) (whole.variants marked (skip_blank v.1))))
    ≡ ((x >>= (λ (es : t.Elements × Text). got (record { key = key; value = es.0; default = default }) es.1)) >>= (λ (v : Variant × Text). mapped (t.variant v.0.key v.0.value v.0.default) (whole.variants marked (skip_blank v.1))))
present_case default key marked (got es rest) = refl
present_case default key marked (refused fault) = refl

pattern_case : (default : Bool) (key : t.VariantKey) (marked : Bool) (x : Reading (Option t.Elements)) →
    (x >>= (λ value. present value.0 value.1 >>= (λ v. mapped (t.variant key v.0 default) (whole.variants marked (skip_blank v.1)))))
    ≡ ((x >>= (λ value. present value.0 value.1 >>= (λ (es : t.Elements × Text). got (record { key = key; value = es.0; default = default }) es.1))) >>= (λ (v : Variant × Text). mapped (t.variant v.0.key v.0.value v.0.default) (whole.variants marked (skip_blank v.1))))
pattern_case default key marked (got value rest) = present_case default key marked (present value rest)
pattern_case default key marked (refused fault) = refl

bracket_case : (default : Bool) (key : t.VariantKey) (marked : Bool) (x : Reading (Unit {0})) →
    (x >>= (λ u. pattern_by u.1 >>= (λ value. present value.0 value.1 >>= (λ v. mapped (t.variant key v.0 default) (whole.variants marked (skip_blank v.1))))))
    ≡ (((x >>= (λ u. got key u.1)) >>= (λ (k : t.VariantKey × Text). pattern_by k.1 >>= (λ value. present value.0 value.1 >>= (λ (es : t.Elements × Text). got (record { key = k.0; value = es.0; default = default }) es.1))))
    >>= (λ (v : Variant × Text). mapped (t.variant v.0.key v.0.value v.0.default) (whole.variants marked (skip_blank v.1))))
bracket_case default key marked (got u rest) = pattern_case default key marked (pattern_by rest)
bracket_case default key marked (refused fault) = refl

key_case : (default marked : Bool) (x : Reading t.VariantKey) →
    (x >>= (λ key. g.variant_value_at whole default key.0 marked (skip_blank key.1)))
    ≡ (((x >>= (λ key. byte_at w.close_bracket (skip_blank key.1) >>= (λ u. got key.0 u.1))) >>= (λ (k : t.VariantKey × Text). pattern_by k.1 >>= (λ value. present value.0 value.1 >>= (λ (es : t.Elements × Text). got (record { key = k.0; value = es.0; default = default }) es.1))))
    >>= (λ (v : Variant × Text). mapped (t.variant v.0.key v.0.value v.0.default) (whole.variants marked (skip_blank v.1))))
key_case default marked (got key rest) = variant_value_is default key marked (skip_blank rest) ∙ bracket_case default key marked (byte_at w.close_bracket (skip_blank rest))
key_case default marked (refused fault) = refl

pub variant_is : (default marked : Bool) (s : Text) →
    g.variant_at whole default marked s ≡ (variant_by default s >>= (λ v. mapped (t.variant v.0.key v.0.value v.0.default) (whole.variants marked (skip_blank v.1))))
unfolding g.variant_at variant_by
variant_is default marked s = key_case default marked (g.key_at (skip_blank (drop 1 s)))

behind_more : (vs : List Variant) (v : Variant) (more : t.Variants) → variants_behind (vs ++ v ∷ []) more ≡ variants_behind vs (t.variant v.key v.value v.default more)
behind_more [] v more = refl
behind_more (x ∷ vs) v more = ap (t.variant x.key x.value x.default) (behind_more vs v more)

variant_then : (vs : List Variant) (marked : Bool) (v : Variant) (rest : Text) →
    mapped (variants_behind vs) (mapped (t.variant v.key v.value v.default) (whole.variants marked (skip_blank rest))) ≡ mapped (variants_behind (vs ++ v ∷ [])) (whole.variants marked (skip_blank rest))
variant_then vs marked v rest =
    mapped_mapped (variants_behind vs) (t.variant v.key v.value v.default) (whole.variants marked (skip_blank rest))
    ∙ mapped_same _ _ (whole.variants marked (skip_blank rest)) (λ more. sym (behind_more vs v more))

-- one more variant
pub variant_read : (vs : List Variant) (default marked : Bool) (s rest : Text) (v : Variant) → variant_by default s ≡ got v rest →
    mapped (variants_behind vs) (g.variant_at whole default marked s) ≡ mapped (variants_behind (vs ++ v ∷ [])) (whole.variants marked (skip_blank rest))
variant_read vs default marked s rest v e =
    ap (mapped (variants_behind vs)) (variant_is default marked s ∙ ap (λ (x : Reading Variant). x >>= (λ v. mapped (t.variant v.0.key v.0.value v.0.default) (whole.variants marked (skip_blank v.1)))) e)
    ∙ variant_then vs marked v rest

-- arguments
with_is : (e : t.Inline) (a : t.Arguments) → g.with_positional e a ≡ with_argument (positional e) a
with_is e (t.arguments ps ns) = refl

with_named_is : (n : Named) (a : t.Arguments) → g.with_named n.name n.value a ≡ with_argument (named n) a
with_named_is n (t.arguments ps ns) = refl

named_read : (names : List Text) (name : Text) (x : Reading t.Inline) →
    (x >>= (λ v. mapped (g.with_named name v.0) (whole.arguments (name ∷ names) (skip_separator v.1))))
    ≡ (mapped (λ v. named (record { name = name; value = v })) x >>= (λ a. mapped (with_argument a.0) (whole.arguments (names_with a.0 names) (skip_separator a.1))))
named_read names name (got v rest) = mapped_same _ _ (whole.arguments (name ∷ names) (skip_separator rest)) (λ a. with_named_is (record { name = name; value = v }) a)
named_read names name (refused fault) = refl

named_case : (names : List Text) (name : Text) (b : Bool) (s : Text) (x : Reading t.Inline) →
    cond b (refuse (r.duplicated_named_argument name) s) (x >>= (λ v. mapped (g.with_named name v.0) (whole.arguments (name ∷ names) (skip_separator v.1))))
    ≡ (mapped (λ v. named (record { name = name; value = v })) (cond b (refuse (r.duplicated_named_argument name) s) x) >>= (λ a. mapped (with_argument a.0) (whole.arguments (names_with a.0 names) (skip_separator a.1))))
named_case names name true s x = refl
named_case names name false s x = named_read names name x

positional_is : (names : List Text) (e : t.Inline) (s : Text) →
    g.positional_at whole names e s ≡ (positional_by names e s >>= (λ a. mapped (with_argument a.0) (whole.arguments (names_with a.0 names) (skip_separator a.1))))
unfolding g.positional_at
positional_is [] e s = mapped_same _ _ (whole.arguments [] (skip_separator s)) (λ a. with_is e a)
positional_is (name ∷ names) e s = refl

value_is_named : (names : List Text) (name : Text) (s : Text) →
    g.named_value_at whole names name s
    ≡ (mapped (λ v. named (record { name = name; value = v })) (argument_value_at names name s) >>= (λ a. mapped (with_argument a.0) (whole.arguments (names_with a.0 names) (skip_separator a.1))))
unfolding g.named_value_at
value_is_named names name s = named_case names name (w.is_among name names) s (g.literal_at (skip_blank (drop 1 s)))

argument_is : (names : List Text) (e : t.Inline) (o : Option Text) (s : Text) →
    g.argument_at whole names e o s ≡ (named_or_positional_by names e o s >>= (λ a. mapped (with_argument a.0) (whole.arguments (names_with a.0 names) (skip_separator a.1))))
unfolding g.argument_at
argument_is names e None s = positional_is names e s
argument_is names e (Some name) s =
    if_same (begins_with w.colon s) _ _ _ _ (value_is_named names name s) (positional_is names e s)
    ∙ sym (bind_if (begins_with w.colon s) _ _ (λ a. mapped (with_argument a.0) (whole.arguments (names_with a.0 names) (skip_separator a.1))))

inline_case : (names : List Text) (x : Reading t.Inline) →
    (x >>= (λ e. g.argument_at whole names e.0 (g.name_of_argument e.0) e.1))
    ≡ ((x >>= (λ e. named_or_positional_by names e.0 (g.name_of_argument e.0) e.1)) >>= (λ a. mapped (with_argument a.0) (whole.arguments (names_with a.0 names) (skip_separator a.1))))
inline_case names (got e rest) = argument_is names e (g.name_of_argument e) rest
inline_case names (refused fault) = refl

pub argument_first : (names : List Text) (s : Text) →
    (g.inline_at whole s >>= (λ e. g.argument_at whole names e.0 (g.name_of_argument e.0) e.1))
    ≡ (argument_by names s >>= (λ a. mapped (with_argument a.0) (whole.arguments (names_with a.0 names) (skip_separator a.1))))
unfolding argument_by
argument_first names s = rw (← whole-inline s) (inline_case names (whole.inline s))

inlines_more : (es : List t.Inline) (e : t.Inline) (more : t.Inlines) → inlines_behind (es ++ e ∷ []) more ≡ inlines_behind es (t.positional e more)
inlines_more [] e more = refl
inlines_more (x ∷ es) e more = ap (t.positional x) (inlines_more es e more)

nameds_more : (ns : List Named) (n : Named) (more : t.Nameds) → nameds_behind (ns ++ n ∷ []) more ≡ nameds_behind ns (t.named n.name n.value more)
nameds_more [] n more = refl
nameds_more (x ∷ ns) n more = ap (t.named x.name x.value) (nameds_more ns n more)

pub positional_more : (ps : List t.Inline) (ns : List Named) (e : t.Inline) (a : t.Arguments) → arguments_behind ps ns (with_argument (positional e) a) ≡ arguments_behind (ps ++ e ∷ []) ns a
positional_more ps ns e (t.arguments es ms) = ap (λ x. t.arguments x (nameds_behind ns ms)) (sym (inlines_more ps e es))

pub named_more : (ps : List t.Inline) (ns : List Named) (n : Named) (a : t.Arguments) → arguments_behind ps ns (with_argument (named n) a) ≡ arguments_behind ps (ns ++ n ∷ []) a
named_more ps ns n (t.arguments es ms) = ap (λ x. t.arguments (inlines_behind ps es) x) (sym (nameds_more ns n ms))

-- pieces
if_by : {A : Type 0} (b : Bool) (x y x' y' : A) → (b ≡ true → x ≡ x') → (b ≡ false → y ≡ y') → cond b x y ≡ cond b x' y'
if_by true x y x' y' p q = p refl
if_by false x y x' y' p q = q refl

after_is : (line : Bool) (s : Text) → g.after_text_at whole line s ≡ pieces_by line s
unfolding g.after_text_at
after_is true s = refl
after_is false s = refl

placeable_case : (line : Bool) (x : Reading t.Expression) →
    (x >>= (λ e. mapped (λ ps. placed line e.0 ∷ ps) (whole.pieces e.1))) ≡ (mapped (λ e. Some (placed line e, false)) x >>= (λ p. pieces_after p.0 p.1))
placeable_case line (got e rest) = refl
placeable_case line (refused fault) = refl

placeable_piece_is : (line : Bool) (s : Text) → g.placeable_piece_at whole line s ≡ (mapped (λ e. Some (placed line e, false)) (placeable_by s) >>= (λ p. pieces_after p.0 p.1))
unfolding g.placeable_piece_at
placeable_piece_is line s = ap (λ (x : Reading t.Expression). x >>= (λ e. mapped (λ ps. placed line e.0 ∷ ps) (whole.pieces e.1))) (placeable_is s) ∙ placeable_case line (placeable_by s)

text_case : (piece : Text → Piece) (x : Reading Text) →
    (x >>= (λ y. mapped (λ ps. piece y.0 ∷ ps) (g.after_text_at whole (ends_line y.0) y.1))) ≡ ((x >>= (λ y. got (Some (piece y.0, ends_line y.0)) y.1)) >>= (λ p. pieces_after p.0 p.1))
text_case piece (got y rest) = ap (mapped (λ ps. piece y ∷ ps)) (after_is (ends_line y) rest)
text_case piece (refused fault) = refl

text_piece_is : (piece : Text → Piece) (s : Text) → g.text_piece_at whole piece s ≡ ((g.text_run s >>= (λ y. got (Some (piece y.0, ends_line y.0)) y.1)) >>= (λ p. pieces_after p.0 p.1))
unfolding g.text_piece_at
text_piece_is piece s = text_case piece (g.text_run s)

line_feed_piece : Piece
line_feed_piece = in_line (w.line_feed ∷ [])

-- the choice after the spaces
behind_spaces : (z line : Bool) (indent : ℕ) (u : Text) (crlf : Reading (List Piece)) → z ≡ (line && indent == 0) →
    ((length u == 0) ≡ false → begins_with w.open_brace u ≡ false → begins_crlf u ≡ true → crlf ≡ mapped (λ ps. in_line (w.line_feed ∷ []) ∷ ps) (whole.line (drop 2 u))) →
    cond (length u == 0) (got [] []) (cond (begins_with w.open_brace u) (g.placeable_piece_at whole z u) (cond (begins_crlf u) crlf (g.text_piece_at whole (text_piece line indent) u)))
    ≡ (piece_behind line indent u >>= (λ p. pieces_after p.0 p.1))
behind_spaces z line indent u crlf e k =
    if_by (length u == 0) _ _ _ _ (λ _. refl) (λ a.
    if_by (begins_with w.open_brace u) _ _ _ _ (λ _. rw e (placeable_piece_is (line && indent == 0) u)) (λ b.
    if_by (begins_crlf u) _ _ _ _ (λ c. k a b c) (λ _. text_piece_is (text_piece line indent) u)
    ∙ sym (bind_if (begins_crlf u) (got (Some (in_line (w.line_feed ∷ []), true)) (drop 2 u)) (g.text_run u >>= (λ x. got (Some (text_piece line indent x.0, ends_line x.0)) x.1)) (λ p. pieces_after p.0 p.1)))
    ∙ sym (bind_if (begins_with w.open_brace u) (mapped (λ e. Some (placed (line && indent == 0) e, false)) (placeable_by u)) _ (λ p. pieces_after p.0 p.1)))
    ∙ sym (bind_if (length u == 0) (got None []) _ (λ p. pieces_after p.0 p.1))

crlf_pieces : (u : Text) → (length u == 0) ≡ false → begins_with w.open_brace u ≡ false → begins_crlf u ≡ true → g.pieces_at whole u ≡ mapped (λ ps. in_line (w.line_feed ∷ []) ∷ ps) (whole.line (drop 2 u))
unfolding g.pieces_at
crlf_pieces u a b c = rw (a, b, c) refl

in_line_is : (s : Text) → g.pieces_at whole s ≡ (piece_behind false 0 s >>= (λ p. pieces_after p.0 p.1))
unfolding g.pieces_at
in_line_is s = behind_spaces false false 0 s (mapped (λ ps. in_line (w.line_feed ∷ []) ∷ ps) (whole.line (drop 2 s))) refl (λ a b c. refl)

none_left : (s : Text) → (length s == 0) ≡ true → s ≡ []
none_left [] h = refl
none_left (c ∷ cs) h = absurd (omega (arith, test_of (length (c ∷ cs)) 0 h))

empty_by : (b : Bool) (s u : Text) (x : Bool) → (b ≡ true → s ≡ u) → u ≡ [] → cond b x (w.begins ends_behind_spaces u) ≡ true → s ≡ []
empty_by true s u x f e h = f refl ∙ e
empty_by false s u x f e h = absurd (false≢true (sym (ap (w.begins ends_behind_spaces) e) ∙ h))

swapped : {A : Type 0} (a p : Bool) (R : Reading (List A)) (s : Text) → (a ≡ true → p ≡ true → s ≡ []) → cond a (got [] []) (cond p (got [] s) R) ≡ cond p (got [] s) (cond a (got [] []) R)
swapped true true R s f = ap (got []) (sym (f refl refl))
swapped true false R s f = refl
swapped false p R s f = refl

empty_end : (s : Text) → (length (skip_spaces s) == 0) ≡ true → pattern_ends s ≡ true → s ≡ []
empty_end s a b =
    let u : skip_spaces s ≡ [] = none_left (skip_spaces s) a in
    empty_by (w.spaces s == 0) s (skip_spaces s) _ (λ e. let n : w.spaces s ≡ 0 = test_of _ 0 e in sym (ap (λ (k : ℕ). drop k s) n)) u b

line_is : (s : Text) → g.line_at whole s ≡ (piece_by true s >>= (λ p. pieces_after p.0 p.1))
unfolding g.line_at piece_by
line_is s =
    swapped (length (skip_spaces s) == 0) (pattern_ends s) _ s (empty_end s)
    ∙ if_same (pattern_ends s) _ _ _ _ refl (behind_spaces (w.spaces s == 0) true (w.spaces s) (skip_spaces s) (g.pieces_at whole (skip_spaces s)) refl (crlf_pieces (skip_spaces s)))
    ∙ sym (bind_if (pattern_ends s) (got None s) (piece_behind true (w.spaces s) (skip_spaces s)) (λ p. pieces_after p.0 p.1))

pub pieces_is : (line : Bool) (s : Text) → pieces_by line s ≡ (piece_by line s >>= (λ p. pieces_after p.0 p.1))
unfolding piece_by
pieces_is true s = whole-line s ∙ line_is s
pieces_is false s = whole-pieces s ∙ in_line_is s

pub first_is : (s : Text) (o : Option Text) → g.first_pieces_at whole s o ≡ pieces_by (first_place s o).0 (first_place s o).1
unfolding g.first_pieces_at
first_is s None = sym (whole-pieces s)
first_is s (Some rest) = sym (whole-line (skip_blank_block rest))
