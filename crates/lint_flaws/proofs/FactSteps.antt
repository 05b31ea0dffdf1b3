-- The variants of a select and the named arguments of a term, one after the other.
use Rattle.std.proofs.Common.{◌≡◌, ◌∙◌, ℕ, ◌+◌, ◌<◌, Bool, List, ◌++◌, length, map, drop, get_or, refl, sym, ap, append_assoc, add-one, drop-cons}
use Rattle.std.proofs.lemmas.List.{map-append}
use Rattle.fluent_ast.specs.View.{Named, nameds_of, Variant, variants_of}
use Rattle.fluent_grammar.specs.Tree.{Inline, VariantKey}
use Rattle.fluent_grammar.specs.Words.{Text}
use Rattle.fluent_number.specs.declared.plural.PluralRuleType.{PluralRuleType}
use Rattle.fluent_plurals.specs.declared.plurals.LanguagePlurals.{LanguagePlurals}
use Rattle.lint_findings.specs.View.{remark_view}
use Rattle.lint_findings.specs.declared.remark.Remark.{Remark}
use Rattle.lint_findings.specs.Facts.{Fact, fact_remark, argument_facts, named_facts, key_facts, variants_facts, other_facts, others_facts}
use Rattle.lint_findings.specs.Nodes.{Node}

-- those of the first are added, and then those of the rest
first_added : (here rest all : List Fact) (old new : List Remark) → all ≡ here ++ rest → map remark_view new ≡ map remark_view old ++ map fact_remark here →
    map remark_view new ++ map fact_remark rest ≡ map remark_view old ++ map fact_remark all
first_added here rest all old new first added =
    ap (λ z. z ++ map fact_remark rest) added ∙ append_assoc (map remark_view old) (map fact_remark here) (map fact_remark rest)
    ∙ ap (λ z. map remark_view old ++ z) (sym (ap (map fact_remark) first ∙ map-append fact_remark here rest))

-- what is said of the next argument is added
pub one_argument : {X : Type 0} (id : Text) (nodes : List Node) (view : X → Named) (xs : List X) (i : ℕ) (default x : X) (name : Text) (value : Inline) (old new : List Remark)
    → i < length xs → x ≡ get_or xs i default → view x ≡ record { name = name; value = value }
    → map remark_view new ≡ map remark_view old ++ map fact_remark (argument_facts id nodes name value)
    → map remark_view new ++ map fact_remark (named_facts id nodes (nameds_of (map view (drop (i + 1) xs))))
    ≡ map remark_view old ++ map fact_remark (named_facts id nodes (nameds_of (map view (drop i xs))))
one_argument id nodes view xs i default x name value old new inside is viewed added =
    let rest = named_facts id nodes (nameds_of (map view (drop (i + 1) xs))) in
    let found = λ (n : Named). argument_facts id nodes n.name n.value ++ rest in
    let front : named_facts id nodes (nameds_of (map view (drop i xs))) ≡ found (view x) =
    ap (λ ys. named_facts id nodes (nameds_of (map view ys))) (drop-cons xs i default inside) ∙ rw (← is, add-one) refl in
    first_added (argument_facts id nodes name value) rest _ old new (front ∙ ap found viewed) added

-- what is said of the key of the next variant is added
pub one_variant : {X : Type 0} (plurals : LanguagePlurals) (rule : PluralRuleType) (view : X → Variant) (xs : List X) (i : ℕ) (default x : X) (key : VariantKey) (old new : List Remark)
    → i < length xs → x ≡ get_or xs i default → (view x).key ≡ key
    → map remark_view new ≡ map remark_view old ++ map fact_remark (key_facts plurals rule key)
    → map remark_view new ++ map fact_remark (variants_facts plurals rule (variants_of (map view (drop (i + 1) xs))))
    ≡ map remark_view old ++ map fact_remark (variants_facts plurals rule (variants_of (map view (drop i xs))))
one_variant plurals rule view xs i default x key old new inside is viewed added =
    let rest = variants_facts plurals rule (variants_of (map view (drop (i + 1) xs))) in
    let found = λ (k : VariantKey). key_facts plurals rule k ++ rest in
    let front : variants_facts plurals rule (variants_of (map view (drop i xs))) ≡ found ((view x).key) =
    ap (λ ys. variants_facts plurals rule (variants_of (map view ys))) (drop-cons xs i default inside) ∙ rw (← is, add-one) refl in
    first_added (key_facts plurals rule key) rest _ old new (front ∙ ap found viewed) added

-- what is said of the key of the next variant of a select on an attribute is added
pub one_key : {X : Type 0} (id name : Text) (keys : List VariantKey) (s : Text) (view : X → Variant) (xs : List X) (i : ℕ) (default x : X) (key : VariantKey) (d : Bool) (old new : List Remark)
    → i < length xs → x ≡ get_or xs i default → (view x).key ≡ key → (view x).default ≡ d
    → map remark_view new ≡ map remark_view old ++ map fact_remark (other_facts id name keys s key d)
    → map remark_view new ++ map fact_remark (others_facts id name keys s (variants_of (map view (drop (i + 1) xs))))
    ≡ map remark_view old ++ map fact_remark (others_facts id name keys s (variants_of (map view (drop i xs))))
one_key id name keys s view xs i default x key d old new inside is keyed marked added =
    let rest = others_facts id name keys s (variants_of (map view (drop (i + 1) xs))) in
    let found = λ (v : Variant). other_facts id name keys s v.key v.default ++ rest in
    let front : others_facts id name keys s (variants_of (map view (drop i xs))) ≡ found (view x) =
    ap (λ ys. others_facts id name keys s (variants_of (map view ys))) (drop-cons xs i default inside) ∙ rw (← is, add-one) refl in
    let viewed : found (view x) ≡ other_facts id name keys s key d ++ rest =
    ap (λ (k : VariantKey). other_facts id name keys s k (view x).default ++ rest) keyed ∙ ap (λ (b : Bool). other_facts id name keys s key b ++ rest) marked in
    first_added (other_facts id name keys s key d) rest _ old new (front ∙ viewed) added

-- what is said of a select by two rules is added, one after the other
pub both_added : (here rest : List Fact) (old mid new : List Remark) → map remark_view mid ≡ map remark_view old ++ map fact_remark here → map remark_view new ≡ map remark_view mid ++ map fact_remark rest →
    map remark_view new ≡ map remark_view old ++ map fact_remark (here ++ rest)
both_added here rest old mid new first second = second ∙ first_added here rest (here ++ rest) old mid refl first
