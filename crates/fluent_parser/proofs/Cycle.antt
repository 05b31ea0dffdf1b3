-- What each reader of expressions gives is what the grammar reads.
use Rattle.std.proofs.Common.{◌≡◌, ◌<◌, Bool, true, false, cond, not, ◌&&◌, ◌||◌, List, [], ◌∷◌, ◌++◌, length, drop, map, reverse, refl, sym, ap, ◌∙◌, arith, subst, Option, Some, None, Result, Ok, Err, append_assoc}
use Rattle.std.specs.Prelude.{◌==◌, OnOk}
use Rattle.std.specs.List.{list_all}
use Rattle.std.proofs.lemmas.List.{append-nil, map-append, reverse-append, length-map, length-reverse}
use Rattle.fluent_grammar.specs.Words as w
use Rattle.fluent_grammar.specs.Words.{Text, skip_blank, skip_spaces, skip_separator, begins_with, after_line_end}
use Rattle.fluent_grammar.specs.Refusal.{Reading, got, refused, refuse, mapped, ◌>>=◌}
use Rattle.fluent_grammar.specs.Refusal as r
use Rattle.fluent_grammar.specs.Tree as t
use Rattle.fluent_grammar.specs.Lines.{Piece, elements_of, value_of}
use Rattle.fluent_grammar.specs.Reading as g
use Rattle.fluent_grammar.specs.Ends.{Took}
use Rattle.fluent_grammar.proofs.LawsOfDepth.{inline-took}
use Rattle.fluent_grammar.proofs.Within.{readers-fair}
use Rattle.fluent_parser.specs.declared.fault.Fault.{Fault}
use Rattle.fluent_tokens.specs.Counted.{begins_literal}
use Rattle.fluent_parser.specs.Reads.{whole, Fails, Gives, string_or_number_at, argument_value_at}
use Rattle.fluent_ast.specs.View.{Variant, Named, variants_of, inlines_of, nameds_of}
use Rattle.fluent_parser.specs.Steps.{placeable_by, pattern_by, pattern_behind, variant_by, variants_behind, Argument, positional, named, positional_by, named_or_positional_by, argument_by, names_with, with_argument, inlines_behind, nameds_behind, arguments_behind, names_of, pieces_by, pieces_after, piece_by, first_place, default_mark_at}
use Rattle.fluent_parser.proofs.Failing.{fails_bind, fails_mapped, fails_same}
use Rattle.fluent_parser.proofs.Whole.{whole-inline, whole-arguments, whole-variants}
use Rattle.fluent_parser.proofs.Steps.{placeable_is, variant_read, variant_is, argument_first, positional_more, named_more, pieces_is, first_is}
use Rattle.fluent_tokens.proofs.Scanned.{test_ne}

pub gives_same : {X Y : Type 0} (view : X → Y) (rest : Text) (result : Result X Fault) (x y : Reading Y) → x ≡ y → Gives view rest result x → Gives view rest result y
gives_same view rest result x y e h = subst (Gives view rest result) e h

-- inline expressions
literal_choice : {A : Type 0} (Q D H L : Bool) (a b c x : A) → ((Q || D) || (H && not L)) ≡ true → cond Q a (cond D b (cond H (cond L c b) x)) ≡ cond Q a b
literal_choice true D H L a b c x h = refl
literal_choice false true H L a b c x h = refl
literal_choice false false true true a b c x h = absurd cc
literal_choice false false true false a b c x h = refl
literal_choice false false false L a b c x h = absurd cc

term_choice : {A : Type 0} (Q D H L : Bool) (a b c x : A) → ((Q || D) || (H && not L)) ≡ false → H ≡ true → cond Q a (cond D b (cond H (cond L c b) x)) ≡ c
term_choice true D H L a b c x h k = absurd cc
term_choice false true H L a b c x h k = absurd cc
term_choice false false true true a b c x h k = refl
term_choice false false true false a b c x h k = absurd cc
term_choice false false false L a b c x h k = absurd cc

other_choice : {A : Type 0} (Q D H L : Bool) (a b c x : A) → ((Q || D) || (H && not L)) ≡ false → H ≡ false → cond Q a (cond D b (cond H (cond L c b) x)) ≡ x
other_choice true D H L a b c x h k = absurd cc
other_choice false true H L a b c x h k = absurd cc
other_choice false false true L a b c x h k = absurd cc
other_choice false false false L a b c x h k = refl

pub inline_literal : (s : Text) → begins_literal s ≡ true → string_or_number_at s ≡ whole.inline s
unfolding g.inline_at
inline_literal s h =
    sym (whole-inline s ∙ literal_choice (begins_with w.quote s) (w.begins w.is_digit s) (begins_with w.hyphen s) (w.begins w.is_letter (drop 1 s)) _ _ _ _ h)

pub inline_term : (s : Text) → begins_literal s ≡ false → begins_with w.hyphen s ≡ true → g.term_at whole (drop 1 s) ≡ whole.inline s
unfolding g.inline_at
inline_term s h k =
    sym (whole-inline s ∙ term_choice (begins_with w.quote s) (w.begins w.is_digit s) (begins_with w.hyphen s) (w.begins w.is_letter (drop 1 s)) _ _ _ _ h k)

inline_other : (s : Text) → begins_literal s ≡ false → begins_with w.hyphen s ≡ false → whole.inline s ≡
    cond (begins_with w.dollar s) (mapped t.variable_reference (g.identifier_at (drop 1 s)))
    (cond (w.begins w.is_letter s) (g.named_at whole s) (cond (begins_with w.open_brace s) (mapped t.nested (g.placeable_at whole s)) (refuse r.expected_inline_expression s)))
unfolding g.inline_at
inline_other s h k =
    whole-inline s ∙ other_choice (begins_with w.quote s) (w.begins w.is_digit s) (begins_with w.hyphen s) (w.begins w.is_letter (drop 1 s)) _ _ _ _ h k

pub inline_variable : (s : Text) → begins_literal s ≡ false → begins_with w.hyphen s ≡ false → begins_with w.dollar s ≡ true → mapped t.variable_reference (g.identifier_at (drop 1 s)) ≡ whole.inline s
inline_variable s h k d = sym (inline_other s h k ∙ rw d refl)

pub inline_named : (s : Text) → begins_literal s ≡ false → begins_with w.hyphen s ≡ false → begins_with w.dollar s ≡ false → w.begins w.is_letter s ≡ true → g.named_at whole s ≡ whole.inline s
inline_named s h k d l = sym (inline_other s h k ∙ rw (d, l) refl)

pub inline_nested : (s : Text) → begins_literal s ≡ false → begins_with w.hyphen s ≡ false → begins_with w.dollar s ≡ false → w.begins w.is_letter s ≡ false → begins_with w.open_brace s ≡ true → mapped t.nested (placeable_by s) ≡ whole.inline s
inline_nested s h k d l b = sym (inline_other s h k ∙ rw (d, l, b) (ap (mapped t.nested) (placeable_is s)))

pub inline_none : (s : Text) → begins_literal s ≡ false → begins_with w.hyphen s ≡ false → begins_with w.dollar s ≡ false → w.begins w.is_letter s ≡ false → begins_with w.open_brace s ≡ false → whole.inline s ≡ refuse r.expected_inline_expression s
inline_none s h k d l b = inline_other s h k ∙ rw (d, l, b) refl

took_by : (x : Reading t.Inline) (s rest : Text) (e : t.Inline) → Took x s → x ≡ got e rest → length rest < length s
took_by x s rest e h k = let q : Took (got e rest) s = subst (λ (y : Reading t.Inline). Took y s) k h in q

pub inline_shorter : (s rest : Text) (e : t.Inline) → whole.inline s ≡ got e rest → length rest < length s
unfolding whole
inline_shorter s rest e h = took_by _ s rest e (inline-took (g.readers (length s)) s (readers-fair (length s))) h

-- one argument
pub argument_fails : (names : List Text) (s : Text) (e : Fault) (rest : Text) → Fails e rest (whole.inline s) → Fails e rest (argument_by names s)
unfolding argument_by
argument_fails names s e rest h = fails_bind e rest (whole.inline s) _ h

not_named : (names : List Text) (e : t.Inline) (o : Option Text) (s : Text) → begins_with w.colon s ≡ false → named_or_positional_by names e o s ≡ positional_by names e s
not_named names e None s h = refl
not_named names e (Some name) s h = rw h refl

read_inline : (names : List Text) (s rest : Text) (e : t.Inline) → whole.inline s ≡ got e rest → argument_by names s ≡ named_or_positional_by names e (g.name_of_argument e) rest
unfolding argument_by
read_inline names s rest e h = ap (λ (x : Reading t.Inline). x >>= (λ e. named_or_positional_by names e.0 (g.name_of_argument e.0) e.1)) h

pub argument_not_named : (names : List Text) (s rest : Text) (e : t.Inline) → whole.inline s ≡ got e rest → begins_with w.colon rest ≡ false → positional_by names e rest ≡ argument_by names s
argument_not_named names s rest e h k = sym (read_inline names s rest e h ∙ not_named names e (g.name_of_argument e) rest k)

pub argument_unnamed : (names : List Text) (s rest : Text) (e : t.Inline) → whole.inline s ≡ got e rest → g.name_of_argument e ≡ None → positional_by names e rest ≡ argument_by names s
argument_unnamed names s rest e h k = sym (read_inline names s rest e h ∙ ap (λ o. named_or_positional_by names e o rest) k)

pub argument_named : (names : List Text) (s rest : Text) (e : t.Inline) (name : Text) → whole.inline s ≡ got e rest → e ≡ t.message_reference name None → begins_with w.colon rest ≡ true →
    mapped (λ v. named (record { name = name; value = v })) (argument_value_at names name rest) ≡ argument_by names s
argument_named names s rest e name h k c =
    sym (read_inline names s rest (t.message_reference name None) (h ∙ ap (λ z. got z rest) k) ∙ rw c refl)

-- after named arguments
pub no_names : {X : Type 0} (view : X → Named) (others : List X) → length others ≡ 0 → names_of (map view others) ≡ []
no_names view [] h = refl
no_names view (x ∷ xs) h = absurd (omega (arith, h))

pub positional_none : (names : List Text) (e : t.Inline) (s : Text) → names ≡ [] → positional_by names e s ≡ got (positional e) s
positional_none names e s h = rw h refl

positional_some : (names : List Text) (e : t.Inline) (s : Text) → 0 < length names → positional_by names e s ≡ refuse r.positional_argument_follows_named s
positional_some [] e s h = absurd (omega arith)
positional_some (name ∷ names) e s h = refl

names_positive : {X : Type 0} (view : X → Named) (others : List X) → 0 < length others → 0 < length (names_of (map view others))
names_positive view others h =
    let name : Named → Text = λ n. n.name in
    let a : length (names_of (map view others)) ≡ length (map name (map view others)) = length-reverse (map name (map view others)) in
    let b : length (map name (map view others)) ≡ length (map view others) = length-map (map view others) name in
    let c : length (map view others) ≡ length others = length-map others view in
    omega arith

pub positional_refused : {X : Type 0} (view : X → Named) (others : List X) (e : t.Inline) (s : Text) → 0 < length others → positional_by (names_of (map view others)) e s ≡ refuse r.positional_argument_follows_named s
positional_refused view others e s h =
    positional_some (names_of (map view others)) e s (names_positive view others h)

-- the arguments of a call
behind_no_arguments : (a : t.Arguments) → arguments_behind [] [] a ≡ a
behind_no_arguments (t.arguments ps ns) = refl

mapped_id : {A : Type 0} (f : A → A) (x : Reading A) → ((a : A) → f a ≡ a) → mapped f x ≡ x
mapped_id f (got a rest) h = ap (λ z. got z rest) (h a)
mapped_id f (refused fault) h = refl

mapped_mapped : {A B C : Type 0} (k : B → C) (j : A → B) (h : A → C) (x : Reading A) → ((a : A) → k (j a) ≡ h a) → mapped k (mapped j x) ≡ mapped h x
mapped_mapped k j h (got a rest) e = ap (λ z. got z rest) (e a)
mapped_mapped k j h (refused fault) e = refl

pub arguments_start : {X Y : Type 0} (f : X → t.Inline) (k : Y → Named) (ps : List X) (ns : List Y) (rest u : Text) → ps ≡ [] → ns ≡ [] → rest ≡ u →
    mapped (arguments_behind (map f ps) (map k ns)) (whole.arguments (names_of (map k ns)) rest) ≡ whole.arguments [] u
arguments_start f k ps ns rest u p n e = rw (p, n, e) (mapped_id (arguments_behind [] []) (whole.arguments [] u) behind_no_arguments)

pub arguments_empty : (names : List Text) (s : Text) → length s ≡ 0 → whole.arguments names s ≡ refuse (r.expected_token w.close_paren) s
unfolding g.arguments_at
arguments_empty names [] h = whole-arguments names []
arguments_empty names (c ∷ cs) h = absurd (omega (arith, h))

pub arguments_more : (names : List Text) (s : Text) → (length s == 0) ≡ false → begins_with w.close_paren s ≡ false →
    whole.arguments names s ≡ (argument_by names s >>= (λ a. mapped (with_argument a.0) (whole.arguments (names_with a.0 names) (skip_separator a.1))))
unfolding g.arguments_at
arguments_more names s h k = whole-arguments names s ∙ rw (h, k) (argument_first names s)

pub arguments_closed : (names : List Text) (s : Text) → begins_with w.close_paren s ≡ true → whole.arguments names s ≡ got (t.arguments t.no_inlines t.no_nameds) (drop 1 s)
unfolding g.arguments_at
arguments_closed names [] h = absurd cc
arguments_closed names (c ∷ cs) h = whole-arguments names (c ∷ cs) ∙ rw (test_ne (length (c ∷ cs)) 0 (λ e. absurd (omega (arith, e))), h) refl

pub arguments_fail : (ps : List t.Inline) (ns : List Named) (s u : Text) (e : Fault) (rest : Text) → mapped (arguments_behind ps ns) (whole.arguments (names_of ns) s) ≡ whole.arguments [] u →
    Fails e rest (whole.arguments (names_of ns) s) → Fails e rest (whole.arguments [] u)
arguments_fail ps ns s u e rest h f = fails_same e rest _ _ h (fails_mapped e rest (arguments_behind ps ns) (whole.arguments (names_of ns) s) f)

pub argument_fail : (names : List Text) (s : Text) (e : Fault) (rest : Text) → (length s == 0) ≡ false → begins_with w.close_paren s ≡ false → Fails e rest (argument_by names s) → Fails e rest (whole.arguments names s)
argument_fail names s e rest h k f = fails_same e rest _ _ (sym (arguments_more names s h k)) (fails_bind e rest (argument_by names s) _ f)

pub names_more : (ns : List Named) (n : Named) → names_of (ns ++ n ∷ []) ≡ n.name ∷ names_of ns
names_more ns n = ap reverse (map-append (λ n. n.name) ns (n ∷ [])) ∙ reverse-append (map (λ n. n.name) ns) (n.name ∷ [])

read_argument : (ns : List Named) (s rest : Text) (a : Argument) → (length s == 0) ≡ false → begins_with w.close_paren s ≡ false → argument_by (names_of ns) s ≡ got a rest →
    whole.arguments (names_of ns) s ≡ mapped (with_argument a) (whole.arguments (names_with a (names_of ns)) (skip_separator rest))
read_argument ns s rest a h k e =
    arguments_more (names_of ns) s h k ∙ ap (λ (x : Reading Argument). x >>= (λ a. mapped (with_argument a.0) (whole.arguments (names_with a.0 (names_of ns)) (skip_separator a.1)))) e

pub positional_read : (ps : List t.Inline) (ns : List Named) (s u rest behind : Text) (x : t.Inline) → mapped (arguments_behind ps ns) (whole.arguments (names_of ns) s) ≡ whole.arguments [] u →
    (length s == 0) ≡ false → begins_with w.close_paren s ≡ false → argument_by (names_of ns) s ≡ got (positional x) rest → behind ≡ skip_separator rest →
    mapped (arguments_behind (ps ++ x ∷ []) ns) (whole.arguments (names_of ns) behind) ≡ whole.arguments [] u
positional_read ps ns s u rest behind x same h k e b =
    rw b (sym (mapped_mapped (arguments_behind ps ns) (with_argument (positional x)) (arguments_behind (ps ++ x ∷ []) ns) (whole.arguments (names_of ns) (skip_separator rest)) (positional_more ps ns x)))
    ∙ ap (mapped (arguments_behind ps ns)) (sym (read_argument ns s rest (positional x) h k e)) ∙ same

pub named_read : (ps : List t.Inline) (ns : List Named) (s u rest behind : Text) (x : Named) → mapped (arguments_behind ps ns) (whole.arguments (names_of ns) s) ≡ whole.arguments [] u →
    (length s == 0) ≡ false → begins_with w.close_paren s ≡ false → argument_by (names_of ns) s ≡ got (named x) rest → behind ≡ skip_separator rest →
    mapped (arguments_behind ps (ns ++ x ∷ [])) (whole.arguments (names_of (ns ++ x ∷ [])) behind) ≡ whole.arguments [] u
named_read ps ns s u rest behind x same h k e b =
    rw (b, names_more ns x) (sym (mapped_mapped (arguments_behind ps ns) (with_argument (named x)) (arguments_behind ps (ns ++ x ∷ [])) (whole.arguments (x.name ∷ names_of ns) (skip_separator rest)) (named_more ps ns x)))
    ∙ ap (mapped (arguments_behind ps ns)) (sym (read_argument ns s rest (named x) h k e)) ∙ same

inlines_all : (ps : List t.Inline) → inlines_behind ps t.no_inlines ≡ inlines_of ps
inlines_all [] = refl
inlines_all (p ∷ ps) = ap (t.positional p) (inlines_all ps)

nameds_all : (ns : List Named) → nameds_behind ns t.no_nameds ≡ nameds_of ns
nameds_all [] = refl
nameds_all (n ∷ ns) = ap (t.named n.name n.value) (nameds_all ns)

pub arguments_end : (ps : List t.Inline) (ns : List Named) (s u rest : Text) → mapped (arguments_behind ps ns) (whole.arguments (names_of ns) s) ≡ whole.arguments [] u → begins_with w.close_paren s ≡ true → rest ≡ drop 1 s →
    whole.arguments [] u ≡ got (t.arguments (inlines_of ps) (nameds_of ns)) rest
arguments_end ps ns s u rest same h e =
    sym same ∙ ap (mapped (arguments_behind ps ns)) (arguments_closed (names_of ns) s h)
    ∙ ap (λ z. got (t.arguments z (nameds_behind ns t.no_nameds)) (drop 1 s)) (inlines_all ps) ∙ ap (λ z. got (t.arguments (inlines_of ps) z) (drop 1 s)) (nameds_all ns)
    ∙ ap (got (t.arguments (inlines_of ps) (nameds_of ns))) (sym e)

-- variants
marked_once : (b : Bool) (s u : Text) → cond b (g.variant_or_end_at whole true true u) (g.variant_or_end_at whole false false s)
    ≡ (cond b (got true u) (got false s) >>= (λ d. g.variant_or_end_at whole d.0 (false || d.0) d.1))
marked_once true s u = refl
marked_once false s u = refl

marked_twice : (b : Bool) (s u : Text) → cond b (refuse r.multiple_default_variants u) (g.variant_or_end_at whole false true s)
    ≡ (cond b (refuse r.multiple_default_variants u) (got false s) >>= (λ d. g.variant_or_end_at whole d.0 (true || d.0) d.1))
marked_twice true s u = refl
marked_twice false s u = refl

pub variants_is : (marked : Bool) (s : Text) → whole.variants marked s ≡ (default_mark_at marked s >>= (λ d. g.variant_or_end_at whole d.0 (marked || d.0) d.1))
unfolding g.variants_at
variants_is true s = whole-variants true s ∙ marked_twice (begins_with w.asterisk s) _ _
variants_is false s = whole-variants false s ∙ marked_once (begins_with w.asterisk s) _ _

pub variant_here : (d m : Bool) (s : Text) → begins_with w.open_bracket s ≡ true → g.variant_or_end_at whole d m s ≡ g.variant_at whole d m s
unfolding g.variant_or_end_at
variant_here d m s h = rw h refl

pub variants_over : (d : Bool) (s : Text) → begins_with w.open_bracket s ≡ false → g.variant_or_end_at whole d true s ≡ got t.no_variants s
unfolding g.variant_or_end_at
variants_over d s h = rw h refl

pub default_missing : (d : Bool) (s : Text) → begins_with w.open_bracket s ≡ false → g.variant_or_end_at whole d false s ≡ refuse r.missing_default_variant s
unfolding g.variant_or_end_at
default_missing d s h = rw h refl

pub marked_read : (marked d : Bool) (s rest : Text) → default_mark_at marked s ≡ got d rest → whole.variants marked s ≡ g.variant_or_end_at whole d (marked || d) rest
marked_read marked d s rest h = variants_is marked s ∙ ap (λ (x : Reading Bool). x >>= (λ d. g.variant_or_end_at whole d.0 (marked || d.0) d.1)) h

pub mark_fails : (marked : Bool) (s : Text) (e : Fault) (rest : Text) → Fails e rest (default_mark_at marked s) → Fails e rest (whole.variants marked s)
mark_fails marked s e rest f = fails_same e rest _ _ (sym (variants_is marked s)) (fails_bind e rest (default_mark_at marked s) _ f)

pub variants_fail : (vs : List Variant) (marked : Bool) (s u : Text) (e : Fault) (rest : Text) → mapped (variants_behind vs) (whole.variants marked s) ≡ whole.variants false u →
    Fails e rest (whole.variants marked s) → Fails e rest (whole.variants false u)
variants_fail vs marked s u e rest h f = fails_same e rest _ _ h (fails_mapped e rest (variants_behind vs) (whole.variants marked s) f)

pub variant_fails : (marked d : Bool) (s rest : Text) (e : Fault) (behind : Text) → default_mark_at marked s ≡ got d rest → begins_with w.open_bracket rest ≡ true → Fails e behind (variant_by d rest) → Fails e behind (whole.variants marked s)
variant_fails marked d s rest e behind h b f =
    fails_same e behind _ _ (sym (marked_read marked d s rest h ∙ variant_here d (marked || d) rest b ∙ variant_is d (marked || d) rest)) (fails_bind e behind (variant_by d rest) _ f)

pub variants_read : (vs : List Variant) (marked d : Bool) (s u rest behind after : Text) (v : Variant) → mapped (variants_behind vs) (whole.variants marked s) ≡ whole.variants false u →
    default_mark_at marked s ≡ got d rest → begins_with w.open_bracket rest ≡ true → variant_by d rest ≡ got v behind → after ≡ skip_blank behind →
    mapped (variants_behind (vs ++ v ∷ [])) (whole.variants (marked || d) after) ≡ whole.variants false u
variants_read vs marked d s u rest behind after v same h b e a =
    rw a (sym (variant_read vs d (marked || d) rest behind v e))
    ∙ ap (mapped (variants_behind vs)) (sym (marked_read marked d s rest h ∙ variant_here d (marked || d) rest b)) ∙ same

variants_all : (vs : List Variant) → variants_behind vs t.no_variants ≡ variants_of vs
variants_all [] = refl
variants_all (v ∷ vs) = ap (t.variant v.key v.value v.default) (variants_all vs)

pub variants_end : (vs : List Variant) (marked d : Bool) (s u rest : Text) → mapped (variants_behind vs) (whole.variants marked s) ≡ whole.variants false u → default_mark_at marked s ≡ got d rest →
    begins_with w.open_bracket rest ≡ false → (marked || d) ≡ true → whole.variants false u ≡ got (variants_of vs) rest
variants_end vs marked d s u rest same h b m =
    sym same ∙ ap (mapped (variants_behind vs)) (marked_read marked d s rest h ∙ ap (λ z. g.variant_or_end_at whole d z rest) m ∙ variants_over d rest b)
    ∙ ap (λ z. got z rest) (variants_all vs)

pub variants_refused : (marked d : Bool) (s rest : Text) → default_mark_at marked s ≡ got d rest → begins_with w.open_bracket rest ≡ false → (marked || d) ≡ false → whole.variants marked s ≡ refuse r.missing_default_variant rest
variants_refused marked d s rest h b m = marked_read marked d s rest h ∙ ap (λ z. g.variant_or_end_at whole d z rest) m ∙ default_missing d rest b

pub variants_start : {X : Type 0} (f : X → Variant) (vs : List X) (u : Text) → vs ≡ [] → mapped (variants_behind (map f vs)) (whole.variants false u) ≡ whole.variants false u
variants_start f vs u h = rw h (mapped_id (variants_behind []) (whole.variants false u) (λ a. refl))

-- patterns
pub pattern_is_behind : (s u : Text) → u ≡ skip_spaces s → pattern_behind u ≡ pattern_by s
unfolding g.pattern_at pattern_behind
pattern_is_behind s u h = rw h refl

pub pieces_start : {X : Type 0} (f : X → Piece) (ps : List X) (line : Bool) (s rest : Text) (o : Option Text) → ps ≡ [] → (line, rest) ≡ first_place s o →
    mapped (λ more. map f ps ++ more) (pieces_by line rest) ≡ g.first_pieces_at whole s o
pieces_start f ps line s rest o h e =
    rw h (mapped_id (λ more. [] ++ more) (pieces_by line rest) (λ a. refl))
    ∙ ap (λ (p : Bool × Text). pieces_by p.0 p.1) e ∙ sym (first_is s o)

pub pattern_fails : (s u : Text) (line : Bool) (ps : List Piece) (e : Fault) (rest : Text) →
    mapped (λ more. ps ++ more) (pieces_by line s) ≡ g.first_pieces_at whole u (after_line_end u) → Fails e rest (piece_by line s) → Fails e rest (pattern_behind u)
unfolding pattern_behind
pattern_fails s u line ps e rest same f =
    let a = fails_same e rest _ _ (sym (pieces_is line s)) (fails_bind e rest (piece_by line s) _ f) in
    let b = fails_same e rest _ _ same (fails_mapped e rest (λ more. ps ++ more) (pieces_by line s) a) in
    fails_mapped e rest value_of _ (fails_mapped e rest elements_of (g.first_pieces_at whole u (after_line_end u)) b)

read_piece : (line : Bool) (s rest : Text) (p : Option (Piece × Bool)) → piece_by line s ≡ got p rest → pieces_by line s ≡ pieces_after p rest
read_piece line s rest p h = pieces_is line s ∙ ap (λ (x : Reading (Option (Piece × Bool))). x >>= (λ p. pieces_after p.0 p.1)) h

pub piece_read : (ps : List Piece) (line next : Bool) (s rest : Text) (p : Piece) (whole_is : Reading (List Piece)) → mapped (λ more. ps ++ more) (pieces_by line s) ≡ whole_is → piece_by line s ≡ got (Some (p, next)) rest →
    mapped (λ more. (ps ++ p ∷ []) ++ more) (pieces_by next rest) ≡ whole_is
piece_read ps line next s rest p whole_is same h =
    sym (mapped_mapped (λ more. ps ++ more) (λ more. p ∷ more) (λ more. (ps ++ p ∷ []) ++ more) (pieces_by next rest) (λ more. sym (append_assoc ps (p ∷ []) more)))
    ∙ ap (mapped (λ more. ps ++ more)) (sym (read_piece line s rest (Some (p, next)) h)) ∙ same

pub pattern_end : (s u rest : Text) (line : Bool) (ps : List Piece) → mapped (λ more. ps ++ more) (pieces_by line s) ≡ g.first_pieces_at whole u (after_line_end u) →
    piece_by line s ≡ got None rest → pattern_behind u ≡ got (value_of (elements_of ps)) rest
unfolding pattern_behind
pattern_end s u rest line ps same h =
    ap (λ x. mapped value_of (mapped elements_of x)) (sym same ∙ ap (mapped (λ more. ps ++ more)) (read_piece line s rest None h))
    ∙ ap (λ z. got (value_of (elements_of z)) rest) (append-nil ps)

-- references with arguments
pub term_read : (s a b u rest id : Text) (attr : Option Text) (args : t.Arguments) → g.identifier_at s ≡ got id a → g.accessor_at a ≡ got attr b → u ≡ skip_blank b → begins_with w.open_paren u ≡ true →
    whole.arguments [] (skip_blank (drop 1 u)) ≡ got args rest → g.term_at whole s ≡ got (t.term_reference id attr (t.with_arguments args)) rest
unfolding g.term_at g.term_arguments_at
term_read s a b u rest id attr args i j e p h =
    ap (λ (x : Reading Text). x >>= (λ id. g.accessor_at id.1 >>= (λ attr. g.term_arguments_at whole id.0 attr.0 (skip_blank attr.1)))) i
    ∙ ap (λ (x : Reading (Option Text)). x >>= (λ attr. g.term_arguments_at whole id attr.0 (skip_blank attr.1))) j
    ∙ ap (g.term_arguments_at whole id attr) (sym e) ∙ rw p (ap (mapped (λ args. t.term_reference id attr (t.with_arguments args))) h)

pub function_read : (s a u rest id : Text) (args : t.Arguments) → g.identifier_at s ≡ got id a → u ≡ skip_blank a → begins_with w.open_paren u ≡ true →
    whole.arguments [] (skip_blank (drop 1 u)) ≡ got args rest → list_all w.is_callee_byte id ≡ true → g.named_at whole s ≡ got (t.function_reference id args) rest
unfolding g.named_at g.called_at g.function_of
function_read s a u rest id args i e p h k =
    ap (λ (x : Reading Text). x >>= (λ id. g.called_at whole id.0 (skip_blank id.1))) i
    ∙ ap (g.called_at whole id) (sym e) ∙ rw p (ap (λ (x : Reading t.Arguments). x >>= (λ args. g.function_of whole id args.0 args.1)) h ∙ rw k refl)

-- what is got of one more read
pub pushed : {X Y : Type 0} (f : X → Y) (xs ys : List X) (x : X) → ys ≡ xs ++ x ∷ [] → map f ys ≡ map f xs ++ f x ∷ []
pushed f xs ys x e = ap (map f) e ∙ map-append f xs (x ∷ [])

pub arguments_same : (ps qs : List t.Inline) (ns ms : List Named) (s : Text) (x : Reading t.Arguments) → qs ≡ ps → ms ≡ ns → mapped (arguments_behind ps ns) (whole.arguments (names_of ns) s) ≡ x → mapped (arguments_behind qs ms) (whole.arguments (names_of ms) s) ≡ x
arguments_same ps qs ns ms s x e f h = rw (e, f) h

pub variants_same : (vs us : List Variant) (m : Bool) (s : Text) (x : Reading t.Variants) → us ≡ vs → mapped (variants_behind vs) (whole.variants m s) ≡ x → mapped (variants_behind us) (whole.variants m s) ≡ x
variants_same vs us m s x e h = rw e h

pub pieces_same : (ps qs : List Piece) (b : Bool) (s : Text) (x : Reading (List Piece)) → qs ≡ ps → mapped (λ more. ps ++ more) (pieces_by b s) ≡ x → mapped (λ more. qs ++ more) (pieces_by b s) ≡ x
pieces_same ps qs b s x e h = rw e h

pub on_ok_always : {A B P : Type 0} (r : Result A B) → P → OnOk r P
on_ok_always (Ok x) p = p
on_ok_always (Err x) p = tt
