-- What is true of a node, whatever the request, although no answer has an error: a placeable that isn't filled in, an
-- argument that a term doesn't use, a value that it has no variant for, a key that its attribute never is, and keys of
-- plural categories that are none.
use Rattle.std.specs.Prelude.{Bool, true, false, not, ◌&&◌, ◌||◌, if◌then◌else◌, List, [], ◌∷◌, ◌++◌, map, filter, Option, Some, None, is_some, unwrap_or, codes}
use Rattle.std.specs.Option.{option_to_list}
use Rattle.std.specs.List.{list_all, list_any}
use Rattle.std.specs.Str.{bytes_eq}
use Rattle.fluent_grammar.specs.Escapes.{unescaped}
use Rattle.fluent_grammar.specs.Words.{Text}
use Rattle.fluent_grammar.specs.Tree as t
use Rattle.fluent_grammar.specs.Tree.{Elements, Inline, Inlines, Nameds, Variants, VariantKey}
use Rattle.fluent_number.specs.declared.plural.PluralCategory.{PluralCategory}
use Rattle.fluent_number.specs.declared.plural.PluralCategory.TheVariants.{ONE, OTHER}
use Rattle.fluent_number.specs.declared.plural.PluralRuleType.{PluralRuleType}
use Rattle.fluent_value.specs.Matching.{category_text}
use Rattle.fluent_meaning.specs.Ids.{Ids, Meaning, number_function, function, message, term, find}
use Rattle.fluent_plurals.specs.declared.plurals.LanguagePlurals.{LanguagePlurals}
use Rattle.lint_findings.specs.SyntaxErrors.{in_backticks}
use Rattle.lint_findings.specs.Builtins.{returns_number}
use Rattle.lint_findings.specs.Finding.{Remark, remark, warning, note}
use Rattle.lint_findings.specs.MissingCategories.{categories, category_named, is_category_name, is_taken, has_category, selector_rule, variant_keys}
use Rattle.lint_findings.specs.NearNames.{nearest, nearest_hint}
use Rattle.lint_findings.specs.Nodes.{Node, expression, select, repeated_key}
use Rattle.lint_findings.specs.Quoted.{Quoted, quoted}
use Rattle.lint_findings.specs.TermUses.{term_nodes, has_variable, has_key, chooses_by_words, is_key}

pub data Fact : Type 0 where
  -- a string literal has this placeable
  quoted_placeable : Quoted → Fact
  -- the term with this id, which has these nodes, has no variable of this name
  unused_argument : Text → List Node → Text → Fact
  -- its selects on the variable of this name have no variant for the value that is written so and read so
  unknown_value : Text → List Node → Text → Text → Text → Fact
  -- a language which has these categories, and `other`, doesn't have this one
  lacking_category : List PluralCategory → PluralCategory → Fact
  -- a key is nearly a category
  nearly_category : Text → Fact
  -- the attribute of this name of the term with this id is this text, and not that of a key
  other_text : Text → Text → Text → Text → Fact

-- ---- string literals

abbrev pub literal_facts : Text → List Fact
literal_facts raw = map quoted_placeable (option_to_list (quoted raw))

-- ---- arguments of terms

-- of the value of an argument that a term with these nodes has a variable for, as it is written and read
abbrev pub value_facts : Text → List Node → Text → Text → Text → List Fact
value_facts id nodes x raw s =
    if not (chooses_by_words nodes x) || has_key nodes x s then [] else unknown_value id nodes x raw s ∷ []

abbrev pub literal_value_facts : Text → List Node → Text → Inline → List Fact
literal_value_facts id nodes x (t.string_literal raw) = value_facts id nodes x raw (unescaped raw)
literal_value_facts id nodes x _ = []

-- of an argument of a term with these nodes
abbrev pub argument_facts : Text → List Node → Text → Inline → List Fact
argument_facts id nodes x e =
    if has_variable nodes x then literal_value_facts id nodes x e else unused_argument id nodes x ∷ []

abbrev pub named_facts : Text → List Node → Nameds → List Fact
named_facts id nodes t.no_nameds = []
named_facts id nodes (t.named x e ns) = argument_facts id nodes x e ++ named_facts id nodes ns

-- of the arguments of what an id stands for, if it is a term
abbrev pub call_facts : {F : Type 0} → Text → Option (Meaning F) → Nameds → List Fact
call_facts id None ns = []
call_facts id (Some number_function) ns = []
call_facts id (Some (function f)) ns = []
call_facts id (Some (message m)) ns = []
call_facts id (Some (term m)) ns = named_facts id (term_nodes m) ns

-- ---- plural categories

-- a selector whose plural category counts: a variable, or one that a function makes a number of
abbrev pub is_first_variable : Inlines → Bool
is_first_variable (t.positional (t.variable_reference x) ps) = true
is_first_variable _ = false

abbrev pub counts : Inline → Bool
counts (t.variable_reference x) = true
counts (t.function_reference id (t.arguments ps ns)) = returns_number id && is_first_variable ps
counts _ = false

abbrev pub is_near_category : Text → Bool
is_near_category s = is_some (nearest is_category_name s)

-- a key that is nearly a category, or is `other`
abbrev pub may_be_category : VariantKey → Bool
may_be_category (t.identifier_key s) = bytes_eq s (codes "other") || is_near_category s
may_be_category (t.number_key x) = false

abbrev pub is_slip : VariantKey → Bool
is_slip (t.identifier_key s) = is_near_category s
is_slip (t.number_key x) = false

-- Some key is a category other than `other`, or each key is nearly one.
abbrev pub are_plural : List VariantKey → Bool
are_plural keys = list_any (has_category keys) categories || (list_all may_be_category keys && list_any is_slip keys)

-- the categories of a language, but `other`
abbrev pub categories_of : LanguagePlurals → PluralRuleType → List PluralCategory
categories_of plurals rule = filter (is_taken plurals rule) categories

-- of a category that a key names
abbrev pub category_facts : LanguagePlurals → PluralRuleType → PluralCategory → List Fact
category_facts plurals rule OTHER = []
category_facts plurals rule c =
    if is_taken plurals rule c then [] else lacking_category (categories_of plurals rule) c ∷ []

-- of a key that names no category
abbrev pub near_facts : Text → List Fact
near_facts s = if is_near_category s then nearly_category s ∷ [] else []

-- of a key that names a category, or none
abbrev pub word_facts : LanguagePlurals → PluralRuleType → Text → Option PluralCategory → List Fact
word_facts plurals rule s (Some c) = category_facts plurals rule c
word_facts plurals rule s None = near_facts s

abbrev pub key_facts : LanguagePlurals → PluralRuleType → VariantKey → List Fact
key_facts plurals rule (t.identifier_key s) = word_facts plurals rule s (category_named s)
key_facts plurals rule (t.number_key x) = []

abbrev pub variants_facts : LanguagePlurals → PluralRuleType → Variants → List Fact
variants_facts plurals rule t.no_variants = []
variants_facts plurals rule (t.variant k es d vs) = key_facts plurals rule k ++ variants_facts plurals rule vs

abbrev pub select_facts : LanguagePlurals → Inline → Variants → List Fact
select_facts plurals selector vs =
    if counts selector && are_plural (variant_keys vs) then variants_facts plurals (selector_rule selector) vs else []

abbrev pub plural_facts : Option LanguagePlurals → Inline → Variants → List Fact
plural_facts None selector vs = []
plural_facts (Some plurals) selector vs = select_facts plurals selector vs

-- ---- attributes of terms

-- the text that a pattern is, if it is nothing else
abbrev pub only_text : Elements → Option Text
only_text (t.text s t.no_elements) = Some s
only_text _ = None

-- that of the first attribute of this name
abbrev pub attribute_text : Text → List t.Attribute → Option Text
attribute_text name [] = None
attribute_text name (a ∷ as') = if bytes_eq name a.id then only_text a.value else attribute_text name as'

-- that of the attribute of what an id stands for, if it is a term
abbrev pub term_attribute_text : {F : Type 0} → Text → Option (Meaning F) → Option Text
term_attribute_text name None = None
term_attribute_text name (Some number_function) = None
term_attribute_text name (Some (function f)) = None
term_attribute_text name (Some (message m)) = None
term_attribute_text name (Some (term m)) = attribute_text name m.attributes

abbrev pub is_near_text : Text → Text → Bool
is_near_text s key = is_some (nearest (bytes_eq s) key)

-- A key isn't this text, and nearly is, or no key of its select is.
abbrev pub is_other_text : List VariantKey → Text → Text → Bool
is_other_text keys s key =
    not (bytes_eq s key) && (not (is_category_name key) && (not (list_any (is_key s) keys) || is_near_text s key))

abbrev pub other_facts : Text → Text → List VariantKey → Text → VariantKey → Bool → List Fact
other_facts id name keys s (t.identifier_key key) d =
    if not d && is_other_text keys s key then other_text id name s key ∷ [] else []
other_facts id name keys s (t.number_key x) d = []

-- of variants of a select with these keys on an attribute that is this text
abbrev pub others_facts : Text → Text → List VariantKey → Text → Variants → List Fact
others_facts id name keys s t.no_variants = []
others_facts id name keys s (t.variant k es d vs) = other_facts id name keys s k d ++ others_facts id name keys s vs

abbrev pub text_facts : Text → Text → Variants → Option Text → List Fact
text_facts id name vs None = []
text_facts id name vs (Some s) = others_facts id name (variant_keys vs) s vs

abbrev pub attribute_facts : {F : Type 0} → Ids F → Inline → Variants → List Fact
attribute_facts ids (t.term_reference id (Some name) c) vs = text_facts id name vs (term_attribute_text name (find ids id))
attribute_facts ids _ vs = []

-- ---- of a node

abbrev pub expression_facts : {F : Type 0} → Ids F → Inline → List Fact
expression_facts ids (t.string_literal raw) = literal_facts raw
expression_facts ids (t.term_reference id a (t.with_arguments (t.arguments ps ns))) = call_facts id (find ids id) ns
expression_facts ids _ = []

abbrev pub node_facts : {F : Type 0} → Ids F → Option LanguagePlurals → Node → List Fact
node_facts ids plurals (expression i) = expression_facts ids i
node_facts ids plurals (select i vs) = plural_facts plurals i vs ++ attribute_facts ids i vs
node_facts ids plurals (repeated_key k) = []

-- ---- what is said

-- `one`, `few`, .. and at last `other`
abbrev pub category_list : List PluralCategory → Text
category_list [] = codes "`other`"
category_list (c ∷ cs) = codes "`" ++ (category_text c ++ (codes "`, " ++ category_list cs))

abbrev pub category_hint : List PluralCategory → Text
category_hint cs = codes "it has " ++ category_list cs

abbrev pub no_category_text : PluralCategory → Text
no_category_text c = codes "the language has no category " ++ in_backticks (category_text c)

-- Nobody misses `other` by a variant for `one` that is never chosen.
abbrev pub lacking_remark : List PluralCategory → PluralCategory → Remark
lacking_remark [] ONE = remark note (codes "unused-category") (no_category_text ONE)
lacking_remark cs c =
    record (remark warning (codes "unknown-category") (no_category_text c)) { hint = Some (category_hint cs) }

-- what is meant, if a key is nearly it, and otherwise what the attribute is
abbrev pub text_hint : Text → Text → Text
text_hint s key = unwrap_or (nearest_hint [] (bytes_eq s) key) (codes "it is " ++ in_backticks s)

abbrev pub fact_remark : Fact → Remark
fact_remark (quoted_placeable q) =
    record (remark warning (codes "placeable-in-literal") (codes "`{ " ++ (q.reference ++ codes " }` is shown as it is")))
    { hint = Some (codes "inside of quotes nothing is filled in"); inside = q.inside }
fact_remark (unused_argument id nodes x) =
    record (remark warning (codes "unknown-term-argument") (codes "no variant of `-" ++ (id ++ (codes "` is chosen by " ++ in_backticks x))))
    { hint = nearest_hint [] (has_variable nodes) x }
fact_remark (unknown_value id nodes x raw s) =
    record (remark warning (codes "unknown-term-variant") (codes "`-" ++ (id ++ (codes "` has no variant " ++ in_backticks raw))))
    { hint = nearest_hint [] (has_key nodes x) s }
fact_remark (lacking_category cs c) = lacking_remark cs c
fact_remark (nearly_category s) =
    record (remark warning (codes "unknown-category") (in_backticks s ++ codes " is no plural category"))
    { hint = nearest_hint [] is_category_name s }
fact_remark (other_text id name s key) =
    record (remark warning (codes "unknown-term-variant")
    (codes "`-" ++ (id ++ (codes "." ++ (name ++ (codes "` is never " ++ in_backticks key))))))
    { hint = Some (text_hint s key) }
