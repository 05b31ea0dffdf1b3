-- What a fact of a node says is so.
use Rattle.std.proofs.Common.{◌≡◌, ◌∙◌, ℕ, zero, suc, ◌+◌, ◌<◌, ◌≤◌, Bool, true, false, not, ◌&&◌, ◌||◌, if◌then◌else◌, List, [], ◌∷◌, ◌++◌, Option, Some, None, refl, sym, ap, subst, arith, All, Contains}
use Rattle.std.specs.Cmp.Lexicographic.{nat_list_eq_equiv, same_text}
use Rattle.std.specs.List.{list_any, range_with_len}
use Rattle.std.specs.Option.{option_to_list}
use Rattle.std.specs.Prelude.{◌==◌, is_some, map}
use Rattle.std.specs.Str.{bytes_eq}
use Rattle.std.proofs.lemmas.Bool.{false≢true, eqb-true, eqb-false}
use Rattle.std.proofs.lemmas.List.Elements.{All-nil, All-cons, All-append, Contains-append_left, Contains-append_right, Contains-push}
use Rattle.std.proofs.lemmas.List.Folds.{list_any_at}
use Rattle.fluent_grammar.proofs.Cases.{cases, and-left, and-right, or-left, or-right}
use Rattle.fluent_grammar.specs.Escapes.{unescaped}
use Rattle.fluent_grammar.specs.Words.{Text}
use Rattle.fluent_grammar.specs.Tree as t
use Rattle.fluent_grammar.specs.Tree.{Elements, Inline, Inlines, Nameds, Variants, VariantKey, MaybeArguments}
use Rattle.fluent_meaning.specs.Ids.{Ids, Meaning, number_function, function, message, term, find}
use Rattle.fluent_number.specs.declared.plural.PluralCategory.{PluralCategory}
use Rattle.fluent_number.specs.declared.plural.PluralCategory.TheVariants.{ZERO, ONE, TWO, FEW, MANY, OTHER}
use Rattle.fluent_number.specs.declared.plural.PluralRuleType.{PluralRuleType}
use Rattle.fluent_plurals.specs.declared.plurals.LanguagePlurals.{LanguagePlurals}
use Rattle.fluent_value.specs.Matching.{category_text}
use Rattle.lint_findings.specs.Facts.{Fact, quoted_placeable, unused_argument, unknown_value, lacking_category, nearly_category, literal_facts, value_facts, literal_value_facts, argument_facts, named_facts, call_facts, counts, are_plural, categories_of, category_facts, near_facts, is_near_category, word_facts, key_facts, variants_facts, select_facts, plural_facts, expression_facts, node_facts, other_text, only_text, attribute_text, term_attribute_text, is_other_text, other_facts, others_facts, text_facts, attribute_facts}
use Rattle.lint_findings.specs.FactLaws.{HasVariable, HasVariant, RefersToOneWithout, IsCategory, IsNeverTaken, IsTrueOf, FactsAreTrue}
use Rattle.lint_findings.specs.FlawWords.{key_text}
use Rattle.lint_findings.specs.MissingCategories.{category_named, is_category_name, is_common, is_taken, same_category, selector_rule, variant_keys, whole_category}
use Rattle.lint_findings.specs.NearLaws.{IsSlip}
use Rattle.lint_findings.specs.NearNames.{nearest}
use Rattle.lint_findings.specs.Nodes.{Node, expression, select, repeated_key}
use Rattle.lint_findings.specs.Quoted.{Quoted, quoted}
use Rattle.lint_findings.specs.TermUses.{term_nodes, is_variable, has_variable, is_key, node_has_key, has_key, chooses_by_words}
use Rattle.lint_findings.proofs.NearNamesAreThere.{nearest_is_there}
use Rattle.lint_findings.proofs.QuotedAreSpelled.{quoted_are_spelled}

pub same_bytes : (s : Text) → bytes_eq s s ≡ true
same_bytes s = nat_list_eq_equiv.refl s

-- what is among elements that fail a test fails it
pub fails : {X : Type 0} (p : X → Bool) (xs : List X) (x : X) → list_any p xs ≡ false → Contains xs x → p x ≡ true → ⊥
fails p xs x none at h = false≢true (sym none ∙ list_any_at p xs at.0 x at.1 (ap p at.2 ∙ h))

-- ---- terms

no_variable : (m : t.Term) (x : Text) → has_variable (term_nodes m) x ≡ false → HasVariable m x → ⊥
no_variable m x none at = fails (is_variable x) (term_nodes m) (expression (t.variable_reference x)) none at (same_bytes x)

no_variant : (m : t.Term) (x s : Text) → has_key (term_nodes m) x s ≡ false → HasVariant m x s → ⊥
no_variant m x s none has =
    let vs = has.0 in
    let k = has.1 in
    let keyed : list_any (is_key s) (variant_keys vs) ≡ true =
    list_any_at (is_key s) (variant_keys vs) has.3.0 k has.3.1 (ap (is_key s) has.3.2 ∙ ap (λ z. bytes_eq z s) has.4 ∙ same_bytes s) in
    fails (node_has_key x s) (term_nodes m) (select (t.variable_reference x) vs) none has.2 (ap (λ b. b && list_any (is_key s) (variant_keys vs)) (same_bytes x) ∙ keyed)

-- the facts of arguments of a term that a node refers to
module _ {F : Type 0} (ids : Ids F) (plurals : Option LanguagePlurals) (id : Text) (a : Option Text) (args : MaybeArguments) (m : t.Term) (found : find ids id ≡ Some (term m)) where
  abbrev node : Node
  node = expression (t.term_reference id a args)

  abbrev So : Fact → Type 0
  So = IsTrueOf ids plurals node

  of_value : (x raw s : Text) → All So (value_facts id (term_nodes m) x raw s)
  of_value x raw s = cases (not (chooses_by_words (term_nodes m) x) || has_key (term_nodes m) x s)
      (λ h. rw h (All-nil So))
      (λ h.
      let none = or-right (not (chooses_by_words (term_nodes m) x)) (has_key (term_nodes m) x s) h in
      rw h (All-cons So (unknown_value id (term_nodes m) x raw s) [] ((a, args, refl), m, found, refl, no_variant m x s none) (All-nil So)))

  of_literal : (x : Text) (e : Inline) → All So (literal_value_facts id (term_nodes m) x e)
  of_literal x (t.string_literal raw) = of_value x raw (unescaped raw)
  of_literal x (t.number_literal s) = All-nil So
  of_literal x (t.function_reference f c) = All-nil So
  of_literal x (t.message_reference f c) = All-nil So
  of_literal x (t.term_reference f b c) = All-nil So
  of_literal x (t.variable_reference y) = All-nil So
  of_literal x (t.nested e) = All-nil So

  of_argument : (x : Text) (e : Inline) → All So (argument_facts id (term_nodes m) x e)
  of_argument x e = cases (has_variable (term_nodes m) x)
      (λ h. rw h (of_literal x e))
      (λ h. rw h (All-cons So (unused_argument id (term_nodes m) x) [] ((a, args, refl), m, found, refl, no_variable m x h) (All-nil So)))

  of_named : (ns : Nameds) → All So (named_facts id (term_nodes m) ns)
  of_named t.no_nameds = All-nil So
  of_named (t.named x e ns) = All-append So (argument_facts id (term_nodes m) x e) (named_facts id (term_nodes m) ns) (of_argument x e) (of_named ns)

of_call : {F : Type 0} (ids : Ids F) (plurals : Option LanguagePlurals) (id : Text) (a : Option Text) (args : MaybeArguments) (ns : Nameds) (o : Option (Meaning F)) → find ids id ≡ o →
    All (IsTrueOf ids plurals (expression (t.term_reference id a args))) (call_facts id o ns)
of_call ids plurals id a args ns None e = All-nil (IsTrueOf ids plurals (expression (t.term_reference id a args)))
of_call ids plurals id a args ns (Some number_function) e = All-nil (IsTrueOf ids plurals (expression (t.term_reference id a args)))
of_call ids plurals id a args ns (Some (function f)) e = All-nil (IsTrueOf ids plurals (expression (t.term_reference id a args)))
of_call ids plurals id a args ns (Some (message m)) e = All-nil (IsTrueOf ids plurals (expression (t.term_reference id a args)))
of_call ids plurals id a args ns (Some (term m)) e = of_named ids plurals id a args m e ns

-- ---- literals

of_quoted : {F : Type 0} (ids : Ids F) (plurals : Option LanguagePlurals) (raw : Text) (o : Option Quoted) → quoted raw ≡ o →
    All (IsTrueOf ids plurals (expression (t.string_literal raw))) (map quoted_placeable (option_to_list o))
of_quoted ids plurals raw None e = All-nil (IsTrueOf ids plurals (expression (t.string_literal raw)))
of_quoted ids plurals raw (Some q) e =
    let So = IsTrueOf ids plurals (expression (t.string_literal raw)) in
    All-cons So (quoted_placeable q) [] (raw, refl, quoted_are_spelled raw q e) (All-nil So)

-- ---- categories

-- what fails for a range fails for each number of it
in_range : (p : ℕ → Bool) (a k n : ℕ) → a ≤ n → n < a + k → list_any p (range_with_len a k) ≡ false → p n ≡ false
in_range p a zero n low high none = absurd (omega (arith, low, high))
in_range p a (suc k) n low high none = cases (a == n)
    (λ e. ap p (sym (eqb-true a n e)) ∙ or-left (p a) (list_any p (range_with_len (a + 1) k)) none)
    (λ e. in_range p (a + 1) k n (omega (arith, low, eqb-false a n e)) (omega (arith, high)) (or-right (p a) (list_any p (range_with_len (a + 1) k)) none))

same_names : (c : PluralCategory) → same_category c c ≡ true
same_names c = same_bytes (category_text c)

not_common : (plurals : LanguagePlurals) (rule : PluralRuleType) (c : PluralCategory) → is_common plurals rule c ≡ false → IsNeverTaken plurals rule c
unfolding is_common
not_common plurals rule c none n lt is =
    let no : same_category (whole_category plurals rule n) c ≡ false = in_range (λ k. same_category (whole_category plurals rule k) c) 0 1000 n (omega arith) lt none in
    false≢true (sym no ∙ ap (λ d. same_category d c) is ∙ same_names c)

never_taken : (plurals : LanguagePlurals) (rule : PluralRuleType) (c : PluralCategory) → is_taken plurals rule c ≡ false → IsNeverTaken plurals rule c
never_taken plurals rule c h = not_common plurals rule c (or-left (is_common plurals rule c) _ h)

named : (o : Option PluralCategory) → is_some o ≡ true → (c : PluralCategory) × (o ≡ Some c)
named None h = absurd (false≢true h)
named (Some c) h = (c, refl)

pub is_a_category : (s : Text) → is_category_name s ≡ true → IsCategory s
is_a_category s h = named (category_named s) h

-- the category that is a slip away
near_category : (s : Text) (o : Option Text) → nearest is_category_name s ≡ o → is_some o ≡ true → (near : Text) × IsSlip s near × IsCategory near
near_category s None is h = absurd (false≢true h)
near_category s (Some near) is h =
    let known = nearest_is_there is_category_name s near is in
    (near, known.0, is_a_category near known.1)

module _ {F : Type 0} (ids : Ids F) (node : Node) (plurals : LanguagePlurals) (rule : PluralRuleType) where
  abbrev OfPlural : Fact → Type 0
  OfPlural = IsTrueOf ids (Some plurals) node

  of_lacking : (c : PluralCategory) → All OfPlural (if is_taken plurals rule c then [] else lacking_category (categories_of plurals rule) c ∷ [])
  of_lacking c = cases (is_taken plurals rule c)
      (λ h. rw h (All-nil OfPlural))
      (λ h. rw h (All-cons OfPlural (lacking_category (categories_of plurals rule) c) [] (plurals, rule, refl, never_taken plurals rule c h, refl) (All-nil OfPlural)))

  of_category : (c : PluralCategory) → All OfPlural (category_facts plurals rule c)
  of_category ZERO = of_lacking ZERO
  of_category ONE = of_lacking ONE
  of_category TWO = of_lacking TWO
  of_category FEW = of_lacking FEW
  of_category MANY = of_lacking MANY
  of_category OTHER = All-nil OfPlural

  of_near : (s : Text) → category_named s ≡ None → All OfPlural (near_facts s)
  of_near s e = cases (is_near_category s)
      (λ h. let near = near_category s (nearest is_category_name s) refl h in
      rw h (All-cons OfPlural (nearly_category s) [] (e, near.0, near.1, near.2) (All-nil OfPlural)))
      (λ h. rw h (All-nil OfPlural))

  of_word : (s : Text) (o : Option PluralCategory) → category_named s ≡ o → All OfPlural (word_facts plurals rule s o)
  of_word s (Some c) e = of_category c
  of_word s None e = of_near s e

  of_key : (k : VariantKey) → All OfPlural (key_facts plurals rule k)
  of_key (t.identifier_key s) = of_word s (category_named s) refl
  of_key (t.number_key x) = All-nil OfPlural

  of_variants : (vs : Variants) → All OfPlural (variants_facts plurals rule vs)
  of_variants t.no_variants = All-nil OfPlural
  of_variants (t.variant k es d vs) = All-append OfPlural (key_facts plurals rule k) (variants_facts plurals rule vs) (of_key k) (of_variants vs)

of_plural : {F : Type 0} (ids : Ids F) (plurals : Option LanguagePlurals) (i : Inline) (vs : Variants) → All (IsTrueOf ids plurals (select i vs)) (plural_facts plurals i vs)
of_plural ids None i vs = All-nil (IsTrueOf ids None (select i vs))
of_plural ids (Some plurals) i vs = cases (counts i && are_plural (variant_keys vs))
    (λ h. rw h (of_variants ids (select i vs) plurals (selector_rule i) vs))
    (λ h. rw h (All-nil (IsTrueOf ids (Some plurals) (select i vs))))

-- ---- attributes of terms

only_there : (es : Elements) (s : Text) → only_text es ≡ Some s → es ≡ t.text s t.no_elements
only_there t.no_elements s e = absurd cc
only_there (t.text x t.no_elements) s e = let is : x ≡ s = cc in ap (λ z. t.text z t.no_elements) is
only_there (t.text x (t.text y es)) s e = absurd cc
only_there (t.text x (t.placeable y es)) s e = absurd cc
only_there (t.placeable x es) s e = absurd cc

-- an attribute of this name is this text
abbrev IsThere : List t.Attribute → Text → Text → Type 0
IsThere as' name s = (a : t.Attribute) × Contains as' a × (a.id ≡ name) × (a.value ≡ t.text s t.no_elements)

attribute_there : (name s : Text) (as' : List t.Attribute) → attribute_text name as' ≡ Some s → IsThere as' name s
attribute_there name s [] e = absurd cc
attribute_there name s (a ∷ as') e = cases (bytes_eq name a.id)
    (λ h. (a, Contains-append_left (a ∷ []) as' a (Contains-push [] a), sym (same_text name a.id (sym h)), only_there a.value s (ap (λ b. if b then only_text a.value else attribute_text name as') (sym h) ∙ e)))
    (λ h.
    let rest = attribute_there name s as' (ap (λ b. if b then only_text a.value else attribute_text name as') (sym h) ∙ e) in
    (rest.0, Contains-append_right (a ∷ []) as' rest.0 rest.1, rest.2, rest.3))

-- the facts of the keys of a select on an attribute of a term, which is this text
module _ {F : Type 0} (ids : Ids F) (plurals : Option LanguagePlurals) (id name s : Text) (c : MaybeArguments) (all : Variants) (m : t.Term)
    (found : find ids id ≡ Some (term m)) (text : IsThere m.attributes name s) where
  abbrev OfText : Fact → Type 0
  OfText = IsTrueOf ids plurals (select (t.term_reference id (Some name) c) all)

  of_other : (k : VariantKey) (d : Bool) → All OfText (other_facts id name (variant_keys all) s k d)
  of_other (t.number_key x) d = All-nil OfText
  of_other (t.identifier_key key) d = cases (not d && is_other_text (variant_keys all) s key)
      (λ h.
      let differs = and-left (not (bytes_eq s key)) _ (and-right (not d) (is_other_text (variant_keys all) s key) h) in
      rw h (All-cons OfText (other_text id name s key) [] ((c, all, refl), (m, found, text.0, text.1, text.2, text.3), (λ is. false≢true (sym (ap not (ap (bytes_eq s) is ∙ same_bytes s)) ∙ differs))) (All-nil OfText)))
      (λ h. rw h (All-nil OfText))

  of_others : (vs : Variants) → All OfText (others_facts id name (variant_keys all) s vs)
  of_others t.no_variants = All-nil OfText
  of_others (t.variant k es d vs) = All-append OfText (other_facts id name (variant_keys all) s k d) (others_facts id name (variant_keys all) s vs) (of_other k d) (of_others vs)

module _ {F : Type 0} (ids : Ids F) (plurals : Option LanguagePlurals) (id name : Text) (c : MaybeArguments) (vs : Variants) where
  of_text : (m : t.Term) → find ids id ≡ Some (term m) → (o : Option Text) → attribute_text name m.attributes ≡ o → All (IsTrueOf ids plurals (select (t.term_reference id (Some name) c) vs)) (text_facts id name vs o)
  of_text m found None e = All-nil (IsTrueOf ids plurals (select (t.term_reference id (Some name) c) vs))
  of_text m found (Some s) e = of_others ids plurals id name s c vs m found (attribute_there name s m.attributes e) vs

  of_attribute : (o : Option (Meaning F)) → find ids id ≡ o → All (IsTrueOf ids plurals (select (t.term_reference id (Some name) c) vs)) (text_facts id name vs (term_attribute_text name o))
  of_attribute None e = All-nil (IsTrueOf ids plurals (select (t.term_reference id (Some name) c) vs))
  of_attribute (Some number_function) e = All-nil (IsTrueOf ids plurals (select (t.term_reference id (Some name) c) vs))
  of_attribute (Some (function f)) e = All-nil (IsTrueOf ids plurals (select (t.term_reference id (Some name) c) vs))
  of_attribute (Some (message m)) e = All-nil (IsTrueOf ids plurals (select (t.term_reference id (Some name) c) vs))
  of_attribute (Some (term m)) e = of_text m e (attribute_text name m.attributes) refl

of_selector : {F : Type 0} (ids : Ids F) (plurals : Option LanguagePlurals) (i : Inline) (vs : Variants) → All (IsTrueOf ids plurals (select i vs)) (attribute_facts ids i vs)
of_selector ids plurals (t.term_reference id (Some name) c) vs = of_attribute ids plurals id name c vs (find ids id) refl
of_selector ids plurals (t.term_reference id None c) vs = All-nil (IsTrueOf ids plurals (select (t.term_reference id None c) vs))
of_selector ids plurals (t.string_literal s) vs = All-nil (IsTrueOf ids plurals (select (t.string_literal s) vs))
of_selector ids plurals (t.number_literal s) vs = All-nil (IsTrueOf ids plurals (select (t.number_literal s) vs))
of_selector ids plurals (t.function_reference id a) vs = All-nil (IsTrueOf ids plurals (select (t.function_reference id a) vs))
of_selector ids plurals (t.message_reference id a) vs = All-nil (IsTrueOf ids plurals (select (t.message_reference id a) vs))
of_selector ids plurals (t.variable_reference x) vs = All-nil (IsTrueOf ids plurals (select (t.variable_reference x) vs))
of_selector ids plurals (t.nested e) vs = All-nil (IsTrueOf ids plurals (select (t.nested e) vs))

of_select : {F : Type 0} (ids : Ids F) (plurals : Option LanguagePlurals) (i : Inline) (vs : Variants) → All (IsTrueOf ids plurals (select i vs)) (plural_facts plurals i vs ++ attribute_facts ids i vs)
of_select ids plurals i vs = All-append (IsTrueOf ids plurals (select i vs)) (plural_facts plurals i vs) (attribute_facts ids i vs) (of_plural ids plurals i vs) (of_selector ids plurals i vs)

-- ---- nodes

module _ {F : Type 0} (ids : Ids F) (plurals : Option LanguagePlurals) where
  of_term : (id : Text) (a : Option Text) (args : MaybeArguments) → All (IsTrueOf ids plurals (expression (t.term_reference id a args))) (expression_facts ids (t.term_reference id a args))
  of_term id a t.no_arguments = All-nil (IsTrueOf ids plurals (expression (t.term_reference id a t.no_arguments)))
  of_term id a (t.with_arguments (t.arguments ps ns)) = of_call ids plurals id a (t.with_arguments (t.arguments ps ns)) ns (find ids id) refl

  of_expression : (i : Inline) → All (IsTrueOf ids plurals (expression i)) (expression_facts ids i)
  of_expression (t.string_literal raw) = of_quoted ids plurals raw (quoted raw) refl
  of_expression (t.number_literal s) = All-nil (IsTrueOf ids plurals (expression (t.number_literal s)))
  of_expression (t.function_reference id c) = All-nil (IsTrueOf ids plurals (expression (t.function_reference id c)))
  of_expression (t.message_reference id a) = All-nil (IsTrueOf ids plurals (expression (t.message_reference id a)))
  of_expression (t.term_reference id a args) = of_term id a args
  of_expression (t.variable_reference x) = All-nil (IsTrueOf ids plurals (expression (t.variable_reference x)))
  of_expression (t.nested e) = All-nil (IsTrueOf ids plurals (expression (t.nested e)))

  of_node : (node : Node) → All (IsTrueOf ids plurals node) (node_facts ids plurals node)
  of_node (expression i) = of_expression i
  of_node (select i vs) = of_select ids plurals i vs
  of_node (repeated_key k) = All-nil (IsTrueOf ids plurals (repeated_key k))

pub facts_are_true : {F : Type 0} → FactsAreTrue F
facts_are_true ids plurals node = of_node ids plurals node
