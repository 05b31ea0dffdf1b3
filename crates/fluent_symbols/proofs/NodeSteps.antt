-- The nodes in the parts of a pattern, added one after another, and what follows each part.
use Rattle.std.proofs.Common.{◌≡◌, ◌∙◌, ℕ, ◌+◌, ◌<◌, Bool, true, false, List, [], ◌∷◌, ◌++◌, length, get_or, drop, map, Option, Some, None, option_map, Result, IfOk, OnOk, refl, sym, ap, append-nil, append_assoc}
use Rattle.std.specs.Prelude.{is_some}
use Rattle.std.proofs.lemmas.List.{at_drop_more}
use Rattle.std.proofs.lemmas.Result.{IfOk-equal, IfOk-weaker}
use Rattle.fluent_grammar.specs.Words.{Text, skip_blank, skip_separator}
use Rattle.fluent_grammar.specs.Lines.{ends_line}
use Rattle.fluent_grammar.specs.Tree as t
use Rattle.fluent_grammar.specs.Tree.{Elements, Expression, Variants, VariantKey, Inline, Inlines, Nameds, Arguments, MaybeArguments}
use denote.Ref.{Bor}
use Rattle.fluent_ast.specs.Borrowed.{named_of, positional_of}
use Rattle.fluent_ast.specs.declared.InlineExpression.{InlineExpression}
use Rattle.fluent_ast.specs.declared.NamedArgument.{NamedArgument}
use Rattle.lint_findings.specs.FlawWords.{key_text}
use Rattle.lint_nodes.specs.Rests.{after_texts, first_placeable, within, after_sign, after_attribute, first_variant, key_of_variant, value_of_variant, value_of_argument, placeable_rest, expression_rest, variants_rest, inline_rest, arguments_rest, inlines_rest, nameds_rest, elements_rest, pattern_rest}
use Rattle.fluent_symbols.specs.Node.{Kind, Node, leaf, named, line_end, pattern_start, begins_line, text_start, text_end}
use Rattle.fluent_symbols.specs.Node as kind
use Rattle.fluent_symbols.specs.PatternNodes.{elements_end, pattern_end, message_end, call_rest, call_end, inline_end, variant_kind, key_node, attribute_named, in_elements, in_expression, in_variants, in_inline, in_call, in_arguments, in_inlines, in_nameds, in_placeable, in_pattern}
use Rattle.fluent_symbols.specs.declared.pattern_nodes.Ended.{Ended}

-- some, and then others
pub then_added : {N : Type 0} (old first then : List N) {mid new : List N} → mid ≡ old ++ first → new ≡ mid ++ then → new ≡ old ++ (first ++ then)
then_added old first then one two = two ∙ ap (λ l. l ++ then) one ∙ append_assoc old first then

-- the rest of a list from an item on, seen through a view
pub seen_from : {A B : Type 0} (view : A → B) (xs : List A) (i : ℕ) (item : A) {seen : B} → i < length xs → item ≡ get_or xs i item → view item ≡ seen → map view (drop i xs) ≡ seen ∷ map view (drop (i + 1) xs)
seen_from view xs i item inside is sees =
    at_drop_more (map view) xs i item inside ∙ ap (λ y. view y ∷ map view (drop (i + 1) xs)) (sym is) ∙ ap (λ y. y ∷ map view (drop (i + 1) xs)) sees

-- after the last part
pub last_added : {X T N : Type 0} (rest : X → T) (nodes : X → List N) (left none : X) {whole : T} (found : List N) {all : List N} →
    left ≡ none → nodes none ≡ [] → rest left ≡ whole → found ++ nodes left ≡ all → (rest none ≡ whole) × (found ≡ all)
last_added rest nodes left none found is nothing rests more =
    (sym (ap rest is) ∙ rests, sym (append-nil found) ∙ ap (λ l. found ++ l) (sym nothing ∙ sym (ap nodes is)) ∙ more)

-- ---- expressions

pub placeable_added : (e : Expression) (s at inside rest : Text) (f0 f1 : List Node) →
    at ≡ within s → inside ≡ expression_rest e at → rest ≡ after_sign inside → f1 ≡ f0 ++ in_expression e at →
    (rest ≡ placeable_rest e s) × (f1 ++ leaf kind.placeable s rest ≡ f0 ++ in_placeable e s)
placeable_added e s at inside rest f0 f1 begun inner ended one =
    let over : rest ≡ placeable_rest e s = ended ∙ ap after_sign (inner ∙ ap (expression_rest e) begun) in
    let first : f1 ≡ f0 ++ in_expression e (within s) = one ∙ ap (λ a. f0 ++ in_expression e a) begun in
    (over, then_added f0 (in_expression e (within s)) (leaf kind.placeable s (placeable_rest e s)) first (ap (λ r. f1 ++ leaf kind.placeable s r) over))

pub inline_added : (e : Expression) (i : Inline) (s rest : Text) (f0 f1 : List Node) →
    e ≡ t.inline i → rest ≡ inline_rest i s → f1 ≡ f0 ++ in_inline i s →
    (rest ≡ expression_rest e s) × (f1 ≡ f0 ++ in_expression e s)
inline_added e i s rest f0 f1 is ended one =
    (ended ∙ ap (λ x. expression_rest x s) (sym is), one ∙ ap (λ x. f0 ++ in_expression x s) (sym is))

pub select_added : (e : Expression) (i : Inline) (vs : Variants) (s selected at rest : Text) (f0 f1 f2 : List Node) →
    e ≡ t.select i vs → selected ≡ inline_rest i s → at ≡ first_variant selected → rest ≡ variants_rest vs at →
    f1 ≡ f0 ++ in_inline i s → f2 ≡ f1 ++ in_variants vs at →
    (rest ≡ expression_rest e s) × (f2 ++ leaf kind.select s rest ≡ f0 ++ in_expression e s)
select_added e i vs s selected at rest f0 f1 f2 is select begun ended one two =
    let first : at ≡ first_variant (inline_rest i s) = begun ∙ ap first_variant select in
    let over : rest ≡ expression_rest (t.select i vs) s = ended ∙ ap (variants_rest vs) first in
    let inside = in_variants vs (first_variant (inline_rest i s)) in
    let itself = leaf kind.select s (expression_rest (t.select i vs) s) in
    let all : f2 ++ leaf kind.select s rest ≡ f0 ++ in_expression (t.select i vs) s =
    then_added f0 (in_inline i s) (inside ++ itself) one
    (then_added f1 inside itself (two ∙ ap (λ a. f1 ++ in_variants vs a) first) (ap (λ r. f2 ++ leaf kind.select s r) over)) in
    (over ∙ ap (λ x. expression_rest x s) (sym is), all ∙ ap (λ x. f0 ++ in_expression x s) (sym is))

-- one more variant
pub variant_kept : (k : VariantKey) (es : Elements) (d : Bool) (left vs : Variants) (s key after value end rest next whole : Text) (of : Kind) (f0 f1 f2 f3 all : List Node) →
    left ≡ t.variant k es d vs → key ≡ key_of_variant s → after ≡ drop (length (key_text k)) key → value ≡ after_sign after →
    rest ≡ pattern_rest es value → end ≡ pattern_end es value → of ≡ variant_kind d → next ≡ skip_blank rest →
    f1 ≡ f0 ++ key_node k key → f2 ≡ f1 ++ in_pattern es value → f3 ≡ f2 ++ leaf of s end →
    variants_rest left s ≡ whole → f0 ++ in_variants left s ≡ all →
    (variants_rest vs next ≡ whole) × (f3 ++ in_variants vs next ≡ all)
variant_kept k es d left vs s key after value end rest next whole of f0 f1 f2 f3 all is begun keyed valued ended pattern is_default follows one two three rests nodes =
    let v = value_of_variant k s in
    let at : value ≡ v = valued ∙ ap after_sign (keyed ∙ ap (drop (length (key_text k))) begun) in
    let over : end ≡ pattern_end es v = pattern ∙ ap (pattern_end es) at in
    let n = skip_blank (pattern_rest es v) in
    let to : next ≡ n = follows ∙ ap skip_blank (ended ∙ ap (pattern_rest es) at) in
    let inside = in_elements (begins_line v) es (pattern_start v) (first_placeable v) in
    let around = leaf kind.pattern (pattern_start v) (pattern_end es v) in
    let itself = leaf (variant_kind d) s (pattern_end es v) in
    let first : f1 ≡ f0 ++ key_node k (key_of_variant s) = one ∙ ap (λ a. f0 ++ key_node k a) begun in
    let second : f2 ≡ f1 ++ (inside ++ around) = two ∙ ap (λ a. f1 ++ in_pattern es a) at in
    let third : f3 ≡ f2 ++ itself = three ∙ ap (λ r. f2 ++ leaf of s r) over ∙ ap (λ o. f2 ++ leaf o s (pattern_end es v)) is_default in
    let joined : f3 ++ in_variants vs n ≡ f0 ++ (key_node k (key_of_variant s) ++ ((inside ++ around) ++ (itself ++ in_variants vs n))) =
    then_added f0 (key_node k (key_of_variant s)) ((inside ++ around) ++ (itself ++ in_variants vs n)) first
    (then_added f1 (inside ++ around) (itself ++ in_variants vs n) second (then_added f2 itself (in_variants vs n) third refl)) in (
      ap (variants_rest vs) to ∙ sym (ap (λ l. variants_rest l s) is) ∙ rests,
      ap (λ a. f3 ++ in_variants vs a) to ∙ joined ∙ ap (λ l. f0 ++ (key_node k (key_of_variant s) ++ l)) (append_assoc inside around (itself ++ in_variants vs n))
          ∙ sym (ap (λ l. f0 ++ in_variants l s) is) ∙ nodes,
    )

-- ---- patterns

-- one more text
pub text_kept : (at_line begins : Bool) (x : Text) (left es : Elements) (s from to next later whole end : Text) (f0 f1 all : List Node) →
    left ≡ t.text x es → from ≡ text_start at_line x s → to ≡ drop (length x) from → begins ≡ ends_line x → later ≡ next → f1 ≡ f0 ++ leaf kind.text_element from to →
    elements_rest left next ≡ whole → elements_end at_line left s next ≡ end → f0 ++ in_elements at_line left s next ≡ all →
    (elements_rest es later ≡ whole) × (elements_end begins es to later ≡ end) × (f1 ++ in_elements begins es to later ≡ all)
text_kept at_line begins x left es s from to next later whole end f0 f1 all is begun ended line same one rests ends nodes =
    let over : to ≡ text_end at_line x s = ended ∙ ap (drop (length x)) begun in
    let itself = leaf kind.text_element (text_start at_line x s) (text_end at_line x s) in
    let first : f1 ≡ f0 ++ itself = one ∙ ap (λ a. f0 ++ leaf kind.text_element a to) begun ∙ ap (λ a. f0 ++ leaf kind.text_element (text_start at_line x s) a) over in
    let others = in_elements (ends_line x) es (text_end at_line x s) next in
    let joined : f1 ++ others ≡ f0 ++ (itself ++ others) = then_added f0 itself others first refl in (
      ap (elements_rest es) same ∙ sym (ap (λ l. elements_rest l next) is) ∙ rests,
      ap (λ b. elements_end b es to later) line ∙ ap (λ n. elements_end (ends_line x) es to n) same ∙ ap (λ a. elements_end (ends_line x) es a next) over ∙ sym (ap (λ l. elements_end at_line l s next) is) ∙ ends,
      ap (λ b. f1 ++ in_elements b es to later) line ∙ ap (λ n. f1 ++ in_elements (ends_line x) es to n) same ∙ ap (λ a. f1 ++ in_elements (ends_line x) es a next) over ∙ joined
          ∙ sym (ap (λ l. f0 ++ in_elements at_line l s next) is) ∙ nodes,
    )

-- one more placeable
pub placeable_kept : (at_line begins : Bool) (e : Expression) (left es : Elements) (s at to next whole end : Text) (f0 f1 all : List Node) →
    left ≡ t.placeable e es → to ≡ placeable_rest e at → next ≡ after_texts to → begins ≡ false → f1 ≡ f0 ++ in_placeable e at →
    elements_rest left at ≡ whole → elements_end at_line left s at ≡ end → f0 ++ in_elements at_line left s at ≡ all →
    (elements_rest es next ≡ whole) × (elements_end begins es to next ≡ end) × (f1 ++ in_elements begins es to next ≡ all)
placeable_kept at_line begins e left es s at to next whole end f0 f1 all is ended follows line one rests ends nodes =
    let p = placeable_rest e at in
    let n : next ≡ after_texts p = follows ∙ ap after_texts ended in
    let others = in_elements false es p (after_texts p) in
    let joined : f1 ++ others ≡ f0 ++ (in_placeable e at ++ others) = then_added f0 (in_placeable e at) others one refl in (
      ap (elements_rest es) n ∙ sym (ap (λ l. elements_rest l at) is) ∙ rests,
      ap (λ b. elements_end b es to next) line ∙ ap (λ a. elements_end false es a next) ended ∙ ap (elements_end false es p) n ∙ sym (ap (λ l. elements_end at_line l s at) is) ∙ ends,
      ap (λ b. f1 ++ in_elements b es to next) line ∙ ap (λ a. f1 ++ in_elements false es a next) ended ∙ ap (λ a. f1 ++ in_elements false es p a) n ∙ joined
          ∙ ap (λ l. f0 ++ l) (append_assoc (in_expression e (within at)) (leaf kind.placeable at p) others)
          ∙ sym (ap (λ l. f0 ++ in_elements at_line l s at) is) ∙ nodes,
    )

-- a pattern, after the last of its elements
pub pattern_added : (whole es left : Elements) (begins at_line : Bool) (s start first at next end : Text) (f0 f1 : List Node) →
    whole ≡ es → left ≡ t.no_elements → start ≡ pattern_start s → begins ≡ begins_line s → first ≡ first_placeable s → end ≡ line_end at →
    elements_rest left next ≡ elements_rest es first → elements_end at_line left at next ≡ elements_end begins es start first →
    f1 ++ in_elements at_line left at next ≡ f0 ++ in_elements begins es start first →
    (next ≡ pattern_rest whole s) × (end ≡ pattern_end whole s) × (f1 ++ leaf kind.pattern start end ≡ f0 ++ in_pattern whole s)
pattern_added whole es left begins at_line s start first at next end f0 f1 same is is_start is_line is_first ended rests ends nodes =
    let b = begins_line s in
    let p = pattern_start s in
    let f = first_placeable s in
    let last : at ≡ elements_end b es p f =
    sym (ap (λ l. elements_end at_line l at next) is) ∙ ends
    ∙ ap (λ x. elements_end x es start first) is_line ∙ ap (λ x. elements_end b es x first) is_start ∙ ap (elements_end b es p) is_first in
    let over : end ≡ pattern_end es s = ended ∙ ap line_end last in
    let inside : f1 ≡ f0 ++ in_elements b es p f =
    sym (append-nil f1) ∙ sym (ap (λ l. f1 ++ in_elements at_line l at next) is) ∙ nodes
    ∙ ap (λ x. f0 ++ in_elements x es start first) is_line ∙ ap (λ x. f0 ++ in_elements b es x first) is_start ∙ ap (λ x. f0 ++ in_elements b es p x) is_first in
    let itself : f1 ++ leaf kind.pattern start end ≡ f1 ++ leaf kind.pattern p (pattern_end es s) =
    ap (λ x. f1 ++ leaf kind.pattern x end) is_start ∙ ap (λ x. f1 ++ leaf kind.pattern p x) over in (
      sym (ap (λ l. elements_rest l next) is) ∙ rests ∙ ap (elements_rest es) is_first ∙ ap (λ x. pattern_rest x s) (sym same),
      over ∙ ap (λ x. pattern_end x s) (sym same),
      then_added f0 (in_elements b es p f) (leaf kind.pattern p (pattern_end es s)) inside itself ∙ ap (λ x. f0 ++ in_pattern x s) (sym same),
    )

-- ---- arguments

-- arguments as code has them, by lists that are the same
pub same_arguments : {a : Arguments} {ps qs : List (InlineExpression (Bor Text))} {ns ms : List (NamedArgument (Bor Text))} → a ≡ t.arguments (positional_of ps) (named_of ns) → qs ≡ ps → ms ≡ ns → a ≡ t.arguments (positional_of qs) (named_of ms)
same_arguments {qs = qs} {ns = ns} is positional named_same =
    is ∙ ap (λ l. t.arguments (positional_of l) (named_of ns)) (sym positional) ∙ ap (λ l. t.arguments (positional_of qs) (named_of l)) (sym named_same)

pub arguments_added : (a : Arguments) (ps : Inlines) (ns : Nameds) (s at after end rest : Text) (f0 f1 f2 : List Node) →
    a ≡ t.arguments ps ns → at ≡ within s → after ≡ inlines_rest ps at → end ≡ nameds_rest ns after → rest ≡ drop 1 end →
    f1 ≡ f0 ++ in_inlines ps at → f2 ≡ f1 ++ in_nameds ns after →
    (rest ≡ arguments_rest a (within s)) × (f2 ++ leaf kind.call_arguments s rest ≡ f0 ++ in_arguments a s)
arguments_added a ps ns s at after end rest f0 f1 f2 is begun mid ended over one two =
    let m : after ≡ inlines_rest ps (within s) = mid ∙ ap (inlines_rest ps) begun in
    let r : rest ≡ arguments_rest (t.arguments ps ns) (within s) = over ∙ ap (drop 1) (ended ∙ ap (nameds_rest ns) m) in
    let inside = in_nameds ns (inlines_rest ps (within s)) in
    let itself = leaf kind.call_arguments s (arguments_rest (t.arguments ps ns) (within s)) in
    let all : f2 ++ leaf kind.call_arguments s rest ≡ f0 ++ in_arguments (t.arguments ps ns) s =
    then_added f0 (in_inlines ps (within s)) (inside ++ itself) (one ∙ ap (λ x. f0 ++ in_inlines ps x) begun)
    (then_added f1 inside itself (two ∙ ap (λ x. f1 ++ in_nameds ns x) m) (ap (λ x. f2 ++ leaf kind.call_arguments s x) r)) in
    (r ∙ ap (λ x. arguments_rest x (within s)) (sym is), all ∙ ap (λ x. f0 ++ in_arguments x s) (sym is))

-- one more argument without a name
pub positional_kept : (e : Inline) (left es : Inlines) (s rest next whole : Text) (f0 f1 all : List Node) →
    left ≡ t.positional e es → rest ≡ inline_rest e s → next ≡ skip_separator rest → f1 ≡ f0 ++ in_inline e s →
    inlines_rest left s ≡ whole → f0 ++ in_inlines left s ≡ all →
    (inlines_rest es next ≡ whole) × (f1 ++ in_inlines es next ≡ all)
positional_kept e left es s rest next whole f0 f1 all is ended follows one rests nodes =
    let n = skip_separator (inline_rest e s) in
    let to : next ≡ n = follows ∙ ap skip_separator ended in (
      ap (inlines_rest es) to ∙ sym (ap (λ l. inlines_rest l s) is) ∙ rests,
      ap (λ a. f1 ++ in_inlines es a) to ∙ then_added f0 (in_inline e s) (in_inlines es n) one refl ∙ sym (ap (λ l. f0 ++ in_inlines l s) is) ∙ nodes,
    )

-- one more argument with a name
pub named_kept : (name : Text) (e : Inline) (left ns : Nameds) (s value rest end next whole : Text) (f0 f1 f2 f3 all : List Node) →
    left ≡ t.named name e ns → value ≡ value_of_argument name s → rest ≡ inline_rest e value → end ≡ inline_end e value → next ≡ skip_separator rest →
    f1 ≡ f0 ++ named name s → f2 ≡ f1 ++ in_inline e value → f3 ≡ f2 ++ leaf kind.named_argument s end →
    nameds_rest left s ≡ whole → f0 ++ in_nameds left s ≡ all →
    (nameds_rest ns next ≡ whole) × (f3 ++ in_nameds ns next ≡ all)
named_kept name e left ns s value rest end next whole f0 f1 f2 f3 all is at ended over follows one two three rests nodes =
    let v = value_of_argument name s in
    let n = skip_separator (inline_rest e v) in
    let to : next ≡ n = follows ∙ ap skip_separator (ended ∙ ap (inline_rest e) at) in
    let itself = leaf kind.named_argument s (inline_end e v) in
    let second : f2 ≡ f1 ++ in_inline e v = two ∙ ap (λ x. f1 ++ in_inline e x) at in
    let third : f3 ≡ f2 ++ itself = three ∙ ap (λ x. f2 ++ leaf kind.named_argument s x) (over ∙ ap (inline_end e) at) in
    let joined : f3 ++ in_nameds ns n ≡ f0 ++ (named name s ++ (in_inline e v ++ (itself ++ in_nameds ns n))) =
    then_added f0 (named name s) (in_inline e v ++ (itself ++ in_nameds ns n)) one
    (then_added f1 (in_inline e v) (itself ++ in_nameds ns n) second (then_added f2 itself (in_nameds ns n) third refl)) in (
      ap (nameds_rest ns) to ∙ sym (ap (λ l. nameds_rest l s) is) ∙ rests,
      ap (λ a. f3 ++ in_nameds ns a) to ∙ joined ∙ sym (ap (λ l. f0 ++ in_nameds l s) is) ∙ nodes,
    )

-- ---- inline expressions

pub string_added : (e : Inline) (x s at after rest : Text) (found : List Node) →
    e ≡ t.string_literal x → at ≡ drop 1 s → after ≡ drop (length x) at → rest ≡ drop 1 after →
    (rest ≡ inline_rest e s) × (rest ≡ inline_end e s) × (found ++ leaf kind.string_literal s rest ≡ found ++ in_inline e s)
string_added e x s at after rest found is begun inside over =
    let to : rest ≡ inline_rest (t.string_literal x) s = over ∙ ap (drop 1) (inside ∙ ap (drop (length x)) begun) in (
      to ∙ ap (λ y. inline_rest y s) (sym is),
      to ∙ ap (λ y. inline_end y s) (sym is),
      ap (λ r. found ++ leaf kind.string_literal s r) to ∙ ap (λ y. found ++ in_inline y s) (sym is),
    )

pub number_added : (e : Inline) (x s rest : Text) (found : List Node) →
    e ≡ t.number_literal x → rest ≡ drop (length x) s →
    (rest ≡ inline_rest e s) × (rest ≡ inline_end e s) × (found ++ leaf kind.number_literal s rest ≡ found ++ in_inline e s)
number_added e x s rest found is over =
    (over ∙ ap (λ y. inline_rest y s) (sym is), over ∙ ap (λ y. inline_end y s) (sym is), ap (λ r. found ++ leaf kind.number_literal s r) over ∙ ap (λ y. found ++ in_inline y s) (sym is))

pub variable_added : (id s at rest : Text) (f0 f1 : List Node) →
    at ≡ drop 1 s → rest ≡ drop (length id) at → f1 ≡ f0 ++ named id at →
    (rest ≡ inline_rest (t.variable_reference id) s) × (f1 ++ leaf kind.variable_reference s rest ≡ f0 ++ in_inline (t.variable_reference id) s)
variable_added id s at rest f0 f1 begun over one =
    let to : rest ≡ inline_rest (t.variable_reference id) s = over ∙ ap (drop (length id)) begun in
    (to, then_added f0 (named id (drop 1 s)) (leaf kind.variable_reference s (inline_rest (t.variable_reference id) s)) (one ∙ ap (λ x. f0 ++ named id x) begun) (ap (λ r. f1 ++ leaf kind.variable_reference s r) to))

pub function_added : (id : Text) (a : Arguments) (s after at : Text) (f0 f1 f2 : List Node) →
    after ≡ drop (length id) s → at ≡ skip_blank after → f1 ≡ f0 ++ named id s → f2 ≡ f1 ++ in_arguments a at → {rest end : Text} → rest ≡ arguments_rest a (within at) → end ≡ arguments_rest a (within at) →
    (rest ≡ inline_rest (t.function_reference id a) s) × (end ≡ inline_end (t.function_reference id a) s) × (f2 ++ leaf kind.function_reference s end ≡ f0 ++ in_inline (t.function_reference id a) s)
function_added id a s after at f0 f1 f2 named_to begun one two over ended =
    let i = t.function_reference id a in
    let to : at ≡ skip_blank (drop (length id) s) = begun ∙ ap skip_blank named_to in
    let inside = in_arguments a (skip_blank (drop (length id) s)) in
    let same : arguments_rest a (within at) ≡ inline_rest i s = ap (λ x. arguments_rest a (within x)) to in (
      over ∙ same,
      ended ∙ same,
      then_added f0 (named id s) (inside ++ leaf kind.function_reference s (inline_end i s)) one
          (then_added f1 inside (leaf kind.function_reference s (inline_end i s)) (two ∙ ap (λ x. f1 ++ in_arguments a x) to) (ap (λ x. f2 ++ leaf kind.function_reference s x) (ended ∙ same))),
    )

-- the end of a message with an attribute, and of one without
pub with_attribute : {A : Type 0} (view : A → Text) (a : Option A) (s at rest end : Text) → is_some a ≡ true → at ≡ skip_blank s → rest ≡ after_attribute (option_map view a) at → end ≡ rest → end ≡ message_end (option_map view a) s
with_attribute view None s at rest end some begun is same = absurd cc
with_attribute view (Some x) s at rest end some begun is same = same ∙ is ∙ ap (after_attribute (Some (view x))) begun

pub without_attribute : {A : Type 0} (view : A → Text) (a : Option A) (s end : Text) → is_some a ≡ false → end ≡ s → end ≡ message_end (option_map view a) s
without_attribute view None s end none same = same
without_attribute view (Some x) s end none same = absurd cc

pub message_added : (id : Text) (a : Option Text) (s after at rest end : Text) (f0 f1 f2 : List Node) →
    after ≡ drop (length id) s → at ≡ skip_blank after → rest ≡ after_attribute a at → end ≡ message_end a after → f1 ≡ f0 ++ named id s → f2 ≡ f1 ++ attribute_named a at →
    (rest ≡ inline_rest (t.message_reference id a) s) × (end ≡ inline_end (t.message_reference id a) s) × (f2 ++ leaf kind.message_reference s end ≡ f0 ++ in_inline (t.message_reference id a) s)
message_added id a s after at rest end f0 f1 f2 named_to begun over ended one two =
    let i = t.message_reference id a in
    let to : at ≡ skip_blank (drop (length id) s) = begun ∙ ap skip_blank named_to in
    let last : end ≡ inline_end i s = ended ∙ ap (message_end a) named_to in
    let inside = attribute_named a (skip_blank (drop (length id) s)) in
    let itself = leaf kind.message_reference s (inline_end i s) in (
      over ∙ ap (after_attribute a) to,
      last,
      then_added f0 (named id s) (inside ++ itself) one (then_added f1 inside itself (two ∙ ap (λ x. f1 ++ attribute_named a x) to) (ap (λ x. f2 ++ leaf kind.message_reference s x) last)),
    )

pub term_added : (id : Text) (a : Option Text) (c : MaybeArguments) (s at after to : Text) (f0 f1 f2 f3 : List Node) →
    at ≡ drop 1 s → after ≡ drop (length id) at → to ≡ after_attribute a after → f1 ≡ f0 ++ named id at → f2 ≡ f1 ++ attribute_named a after → f3 ≡ f2 ++ in_call c to → {rest end : Text} → rest ≡ call_rest c to → end ≡ call_end c to →
    (rest ≡ inline_rest (t.term_reference id a c) s) × (end ≡ inline_end (t.term_reference id a c) s) × (f3 ++ leaf kind.term_reference s end ≡ f0 ++ in_inline (t.term_reference id a c) s)
term_added id a c s at after to f0 f1 f2 f3 begun named_to reached one two three {end = end} over ended =
    let i = t.term_reference id a c in
    let n = drop (length id) (drop 1 s) in
    let name : after ≡ n = named_to ∙ ap (drop (length id)) begun in
    let attribute : to ≡ after_attribute a n = reached ∙ ap (after_attribute a) name in
    let last : end ≡ inline_end i s = ended ∙ ap (call_end c) attribute in
    let call = in_call c (after_attribute a n) in
    let itself = leaf kind.term_reference s (inline_end i s) in (
      over ∙ ap (call_rest c) attribute,
      last,
      then_added f0 (named id (drop 1 s)) (attribute_named a n ++ (call ++ itself)) (one ∙ ap (λ x. f0 ++ named id x) begun)
          (then_added f1 (attribute_named a n) (call ++ itself) (two ∙ ap (λ x. f1 ++ attribute_named a x) name)
          (then_added f2 call itself (three ∙ ap (λ x. f2 ++ in_call c x) attribute) (ap (λ x. f3 ++ leaf kind.term_reference s x) last))),
    )

-- ---- calls of terms

pub call_added : (c : MaybeArguments) (a : Arguments) (s at : Text) (found : List Node) → c ≡ t.with_arguments a → at ≡ skip_blank s →
    (arguments_rest a (within at) ≡ call_rest c s) × (arguments_rest a (within at) ≡ call_end c s) × (found ++ in_arguments a at ≡ found ++ in_call c s)
call_added c a s at found is begun =
    let to : arguments_rest a (within at) ≡ arguments_rest a (within (skip_blank s)) = ap (λ x. arguments_rest a (within x)) begun in
    (to ∙ ap (λ x. call_rest x s) (sym is), to ∙ ap (λ x. call_end x s) (sym is), ap (λ x. found ++ in_arguments a x) begun ∙ ap (λ x. found ++ in_call x s) (sym is))

pub no_call_added : (c : MaybeArguments) (s rest : Text) (found : List Node) →
    c ≡ t.no_arguments → rest ≡ skip_blank s → (rest ≡ call_rest c s) × (s ≡ call_end c s) × (found ≡ found ++ in_call c s)
no_call_added c s rest found is over =
    (over ∙ ap (λ x. call_rest x s) (sym is), ap (λ x. call_end x s) (sym is), sym (append-nil found) ∙ ap (λ x. found ++ in_call x s) (sym is))

-- ---- what a call returns, if it succeeds

pub ended_alike : {E : Type 0} (r : Result Ended E) (new : List Node) {rest to end last : Text} {one other : List Node} → rest ≡ to → end ≡ last → one ≡ other →
    IfOk r (λ x. x.rest.now ≡ rest) → IfOk r (λ x. x.end.now ≡ end) → OnOk r (new ≡ one) →
    IfOk r (λ x. x.rest.now ≡ to) × IfOk r (λ x. x.end.now ≡ last) × OnOk r (new ≡ other)
ended_alike r new {rest = rest} {to = to} {end = end} {last = last} {one = one} {other = other} over ended same rests ends nodes = (
  IfOk-weaker r (λ x. x.rest.now ≡ rest) (λ x. x.rest.now ≡ to) (λ x p. p ∙ over) rests,
  IfOk-weaker r (λ x. x.end.now ≡ end) (λ x. x.end.now ≡ last) (λ x p. p ∙ ended) ends,
  IfOk-equal r new one other nodes same,
)

pub rest_alike : {E : Type 0} (r : Result (Bor Text) E) (new : List Node) {rest to : Text} {one other : List Node} → rest ≡ to → one ≡ other →
    IfOk r (λ x. x.now ≡ rest) → OnOk r (new ≡ one) → IfOk r (λ x. x.now ≡ to) × OnOk r (new ≡ other)
rest_alike r new {rest = rest} {to = to} {one = one} {other = other} over same rests nodes =
    (IfOk-weaker r (λ x. x.now ≡ rest) (λ x. x.now ≡ to) (λ x p. p ∙ over) rests, IfOk-equal r new one other nodes same)

-- an inline expression, for what is seen as it
pub as_inline : (e i : Inline) (s : Text) (found : List Node) → e ≡ i → (inline_rest i s ≡ inline_rest e s) × (inline_end i s ≡ inline_end e s) × (found ++ in_inline i s ≡ found ++ in_inline e s)
as_inline e i s found is =
    (ap (λ x. inline_rest x s) (sym is), ap (λ x. inline_end x s) (sym is), ap (λ x. found ++ in_inline x s) (sym is))
