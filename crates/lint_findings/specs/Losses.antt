-- What a message loses of that of the reference, although it has its variables: a variable that one variant lacks, the
-- variants for plural categories, and a term that is written out.
use Rattle.std.specs.Prelude.{ℕ, nat_lt, Bool, true, false, not, ◌&&◌, ◌||◌, if◌then◌else◌, List, [], ◌∷◌, ◌++◌, length, map, Option, Some, None, is_some, option_map, codes}
use Rattle.std.specs.List.{flat_map, list_all, list_any, range_with_len}
use Rattle.std.specs.Option.{option_map_or, option_or, option_to_list}
use Rattle.std.specs.Str.{bytes_eq}
use Rattle.fluent_grammar.specs.Words.{Text, dollar}
use Rattle.fluent_grammar.specs.Tree as t
use Rattle.fluent_grammar.specs.Tree.{Elements, Inline, Inlines, Variants, VariantKey}
use Rattle.fluent_meaning.specs.Choice.{first_default}
use Rattle.fluent_meaning.specs.Ids.{Ids, Meaning, number_function, function, message, term, find}
use Rattle.fluent_meaning.specs.Same.{same_elements, same_key}
use Rattle.fluent_number.specs.declared.plural.PluralRuleType.{PluralRuleType}
use Rattle.fluent_number.specs.declared.plural.PluralRuleType.TheVariants.{CARDINAL, ORDINAL}
use Rattle.fluent_plurals.specs.declared.plurals.LanguagePlurals.{LanguagePlurals}
use Rattle.lint_findings.specs.Builtins.{returns_number}
use Rattle.lint_findings.specs.Comparison.{as_message, message_patterns, message_shows, union}
use Rattle.lint_findings.specs.Finding.{Remark, remark, warning, note}
use Rattle.lint_findings.specs.FlawWords.{key_text}
use Rattle.lint_findings.specs.MissingCategories.{is_category_name, same_category, selector_rule, variant_keys, whole_category}
use Rattle.lint_findings.specs.Nodes.{Node, expression, select, elements_nodes}
use Rattle.lint_findings.specs.Quoted.{quoted}
use Rattle.lint_findings.specs.Shown.{elements_show, elements_always_show}
use Rattle.lint_findings.specs.SyntaxErrors.{in_backticks}
use Rattle.lint_findings.specs.WrittenTexts.{elements_have, plain_texts}

pub data Loss : Type 0 where
  -- the variant with this key doesn't show this variable, and the default one does
  lacking_variant : Text → Text → Loss
  -- the variants by this variable
  dropped_plural : Text → Loss
  -- the term of this id, which is written out as this text
  written_term : Text → Text → Loss

abbrev pub message_nodes : t.Message → List Node
message_nodes m = flat_map elements_nodes (message_patterns m)

-- ---- selects by numbers

abbrev pub first_variable : Inlines → Option Text
first_variable (t.positional (t.variable_reference x) ps) = Some x
first_variable _ = None

-- the variable whose plural category a selector has
abbrev pub counted : Inline → Option Text
counted (t.variable_reference x) = Some x
counted (t.function_reference id (t.arguments ps ns)) = if returns_number id then first_variable ps else None
counted _ = None

-- a plural category
abbrev pub is_category_key : VariantKey → Bool
is_category_key (t.identifier_key s) = is_category_name s
is_category_key (t.number_key s) = false

-- a plural category or a number
abbrev pub is_plural_key : VariantKey → Bool
is_plural_key (t.identifier_key s) = is_category_name s
is_plural_key (t.number_key s) = true

-- a plural category but `other`, or a number
abbrev pub is_counting_key : VariantKey → Bool
is_counting_key (t.identifier_key s) = is_category_name s && not (bytes_eq s (codes "other"))
is_counting_key (t.number_key s) = true

-- These variants are chosen by a number.
abbrev pub are_counting : List VariantKey → Bool
are_counting keys = list_all is_plural_key keys && list_any is_counting_key keys

-- the same by plural categories alone
abbrev pub are_categories : List VariantKey → Bool
are_categories keys = list_all is_category_key keys && list_any is_counting_key keys

-- ---- variables that one variant lacks

-- A variant with a number as its key, or for `zero`, needs no variable. One for `one` or `two` may say the number v in
-- words, and has to show other variables only if it shows that one.
abbrev pub must_show : Text → Text → VariantKey → Elements → Bool
must_show v x (t.number_key s) es = false
must_show v x (t.identifier_key s) es =
    if bytes_eq s (codes "zero") then false
    else if bytes_eq s (codes "one") || bytes_eq s (codes "two") then not (bytes_eq x v) && elements_show v es
    else true

-- a string literal with a placeable
abbrev pub is_quoting : Node → Bool
is_quoting (expression (t.string_literal raw)) = is_some (quoted raw)
is_quoting _ = false

abbrev pub message_quotes : t.Message → Bool
message_quotes m = list_any is_quoting (message_nodes m)

-- a variant with this key doesn't show this variable
abbrev pub variants_lack : VariantKey → Text → Variants → Bool
variants_lack k x t.no_variants = false
variants_lack k x (t.variant l es d vs) = (same_key k l && not (elements_show x es)) || variants_lack k x vs

-- a select on the variable v has a variant with this key that doesn't show x
abbrev pub node_lacks : Text → VariantKey → Text → Node → Bool
node_lacks v k x (select i vs) = option_map_or (bytes_eq v) (counted i) false && variants_lack k x vs
node_lacks v k x _ = false

-- A variant of a select on v lacks x, and none with this key does among these nodes, which are those of the reference.
abbrev pub is_lacking : List Node → Text → Text → VariantKey → Elements → Bool
is_lacking others v x k es =
    (must_show v x k es && not (elements_show x es))
    && (not (list_any is_quoting (elements_nodes es)) && not (list_any (node_lacks v k x) others))

abbrev pub variant_losses : List Node → Text → Text → VariantKey → Elements → Bool → List Loss
variant_losses others v x k es d =
    if not d && is_lacking others v x k es then lacking_variant (key_text k) x ∷ [] else []

abbrev pub variants_losses : List Node → Text → Text → Variants → List Loss
variants_losses others v x t.no_variants = []
variants_losses others v x (t.variant k es d vs) = variant_losses others v x k es d ++ variants_losses others v x vs

abbrev pub variable_of : Node → List Text
variable_of (expression (t.variable_reference x)) = x ∷ []
variable_of _ = []

-- of a variable, if the default variant always shows it
abbrev pub variable_losses : List Node → Text → Variants → Elements → Text → List Loss
variable_losses others v vs es x = if elements_always_show x es then variants_losses others v x vs else []

-- of the variables of the default variant, each once
abbrev pub default_losses : List Node → Text → Variants → Option Elements → List Loss
default_losses others v vs None = []
default_losses others v vs (Some es) =
    flat_map (variable_losses others v vs es) (union [] (flat_map variable_of (elements_nodes es)))

-- of a select on this variable, if there is one
abbrev pub select_losses : List Node → Variants → Option Text → List Loss
select_losses others vs None = []
select_losses others vs (Some v) =
    if are_counting (variant_keys vs) then default_losses others v vs (first_default vs) else []

abbrev pub node_losses : List Node → Node → List Loss
node_losses others (select i vs) = select_losses others vs (counted i)
node_losses others _ = []

-- of the selects of a message with these nodes, whose reference has those
abbrev pub lacking_variants : List Node → List Node → List Loss
lacking_variants nodes others = flat_map (node_losses others) nodes

-- ---- plural variants that are dropped

abbrev pub is_cardinal : PluralRuleType → Bool
is_cardinal CARDINAL = true
is_cardinal ORDINAL = false

-- one of these variants has another pattern
abbrev pub differ_from : Elements → Variants → Bool
differ_from es t.no_variants = false
differ_from es (t.variant k fs d vs) = not (same_elements fs es) || differ_from es vs

abbrev pub variants_differ : Variants → Bool
variants_differ t.no_variants = false
variants_differ (t.variant k es d vs) = differ_from es vs

-- a select with variants for plural categories alone, not of ordinals, which differ
abbrev pub chooses_plural : Inline → Variants → Bool
chooses_plural i vs =
    is_cardinal (selector_rule i)
    && (are_categories (variant_keys vs) && variants_differ vs)

abbrev pub if_shown : t.Message → Option Text → Option Text
if_shown m None = None
if_shown m (Some v) = if message_shows m v then Some v else None

-- the variable by which a node of the reference chooses, if it does so by plural categories, and m shows it
abbrev pub plural_of : t.Message → Node → Option Text
plural_of m (select i vs) = if chooses_plural i vs then if_shown m (counted i) else None
plural_of m _ = None

abbrev pub first_plural : t.Message → List Node → Option Text
first_plural m [] = None
first_plural m (node ∷ nodes) = option_or (plural_of m node) (first_plural m nodes)

-- a select that has a choice
abbrev pub is_choice : Node → Bool
is_choice (select i (t.variant k es d (t.variant l fs e vs))) = true
is_choice _ = false

-- Some whole number below 10 has another category than 1.
unfoldable pub has_forms : LanguagePlurals → Bool
has_forms plurals =
    list_any (λ n. not (same_category (whole_category plurals CARDINAL n) (whole_category plurals CARDINAL 1))) (range_with_len 0 10)

-- the variable by which the reference chooses, if m with these nodes has no choice, and the language has forms
abbrev pub dropped_variable : LanguagePlurals → t.Message → List Node → List Node → Option Text
dropped_variable plurals m nodes others =
    if list_any is_choice nodes || not (has_forms plurals) then None else first_plural m others

abbrev pub dropped_plurals : Option LanguagePlurals → t.Message → List Node → List Node → List Loss
dropped_plurals None m nodes others = []
dropped_plurals (Some plurals) m nodes others =
    map dropped_plural (option_to_list (dropped_variable plurals m nodes others))

-- ---- terms that are written out

abbrev pub is_term : Text → Node → Bool
is_term id (expression (t.term_reference x a c)) = bytes_eq id x
is_term id _ = false

abbrev pub message_has : t.Message → Text → Bool
message_has m s = list_any (elements_have s) (message_patterns m)

-- a text of three bytes or more that m has, and o hasn't
abbrev pub is_written : t.Message → t.Message → Text → Bool
is_written m o s = nat_lt 2 (length s) && (message_has m s && not (message_has o s))

abbrev pub first_written : t.Message → t.Message → List Text → Option Text
first_written m o [] = None
first_written m o (s ∷ texts) = if is_written m o s then Some s else first_written m o texts

-- the texts that the value of a term may be
abbrev pub term_texts : {F : Type 0} → Option (Meaning F) → List Text
term_texts None = []
term_texts (Some number_function) = []
term_texts (Some (function f)) = []
term_texts (Some (message m)) = []
term_texts (Some (term m)) = plain_texts m.value

-- of the term of this id, to which o refers, if m with these nodes doesn't
abbrev pub term_loss : {F : Type 0} → Ids F → t.Message → t.Message → List Node → Text → Option Loss
term_loss reference m o nodes id =
    if list_any (is_term id) nodes then None
    else option_map (written_term id) (first_written m o (term_texts (find reference id)))

-- of a node of o
abbrev pub written_by : {F : Type 0} → Ids F → t.Message → t.Message → List Node → Node → Option Loss
written_by reference m o nodes (expression (t.term_reference id a c)) = term_loss reference m o nodes id
written_by reference m o nodes _ = None

-- of the first of these nodes of o that has one
abbrev pub first_term : {F : Type 0} → Ids F → t.Message → t.Message → List Node → List Node → Option Loss
first_term reference m o nodes [] = None
first_term reference m o nodes (other ∷ others) =
    option_or (written_by reference m o nodes other) (first_term reference m o nodes others)

-- ---- of a message

-- of a message m with these nodes, compared with o with those
abbrev pub losses_by : {F : Type 0} → Ids F → Option LanguagePlurals → t.Message → t.Message → List Node → List Node → List Loss
losses_by reference plurals m o nodes others =
    lacking_variants nodes others
    ++ (dropped_plurals plurals m nodes others ++ option_to_list (first_term reference m o nodes others))

-- if there is a message in the reference
abbrev pub losses_beside : {F : Type 0} → Ids F → Option LanguagePlurals → t.Message → Option t.Message → List Loss
losses_beside reference plurals m None = []
losses_beside reference plurals m (Some o) = losses_by reference plurals m o (message_nodes m) (message_nodes o)

-- what a message of the catalog loses of that of the reference with its id
abbrev pub losses : {F : Type 0} → Ids F → Option LanguagePlurals → t.Message → List Loss
losses reference plurals m = losses_beside reference plurals m (as_message (find reference m.id))

-- ---- what is said

abbrev pub loss_remark : Loss → Remark
loss_remark (lacking_variant k x) =
    remark note (codes "variant-lacks-variable")
    (codes "the default variant shows `$" ++ (x ++ (codes "`, and `[" ++ (k ++ codes "]` doesn't"))))
loss_remark (dropped_plural v) =
    remark note (codes "plural-dropped") (codes "the reference has variants by " ++ in_backticks (dollar ∷ v))
loss_remark (written_term id s) =
    record (remark warning (codes "term-as-text") (in_backticks s ++ codes " is written out"))
    { hint = Some (codes "the reference has `{ -" ++ (id ++ codes " }`")) }
