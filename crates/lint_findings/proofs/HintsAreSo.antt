-- What a hint names is there, and a near name is a slip away from what it is in the place of.
use Rattle.std.proofs.Common.{◌≡◌, Bool, true, false, if◌then◌else◌, List, [], ◌∷◌, ◌++◌, Option, Some, None, refl, sym, ap, subst, arith, Contains}
use Rattle.std.specs.Prelude.{is_some, codes}
use Rattle.std.specs.Option.{option_or}
use Rattle.std.specs.Str.{bytes_eq}
use Rattle.std.proofs.lemmas.Bool.{false≢true}
use Rattle.std.proofs.lemmas.List.Elements.{All-weaker}
use Rattle.std.proofs.lemmas.List.Folds.{Any-from_list_any}
use Rattle.fluent_grammar.proofs.Cases.{and-left, and-right}
use Rattle.fluent_grammar.specs.Words.{Text, dollar, hyphen, is_among}
use Rattle.fluent_grammar.specs.Tree as t
use Rattle.fluent_grammar.specs.Tree.{Variants, VariantKey}
use Rattle.fluent_errors.specs.Errors.{unknown, no_value, missing_default, cyclic, too_many_placeables, to_function, to_message, to_term, to_variable}
use Rattle.fluent_meaning.specs.Ids.{Ids, Meaning, number_function, function, message, term, find}
use Rattle.fluent_number.specs.declared.plural.PluralCategory.{PluralCategory}
use Rattle.fluent_number.specs.declared.plural.PluralCategory.TheVariants.{ZERO, ONE, TWO, FEW, MANY, OTHER}
use Rattle.fluent_plurals.specs.declared.plurals.LanguagePlurals.{LanguagePlurals}
use Rattle.lint_findings.specs.Comparison.{as_message, missing_message, obsolete_message, missing_value, obsolete_value, missing_attribute, obsolete_attribute, unknown_variable, missing_variable, unused_variable, untranslated}
use Rattle.lint_findings.specs.FactLaws.{HasVariable, HasVariant, IsCategory, IsTrueOf}
use Rattle.lint_findings.specs.Facts.{Fact, quoted_placeable, unused_argument, unknown_value, lacking_category, nearly_category, other_text, category_hint, fact_remark, lacking_remark, node_facts}
use Rattle.lint_findings.specs.FlawHints.{first_attribute_hint, is_message, is_term, means_term, message_hint, term_hint, untranslated_text, value_hint}
use Rattle.lint_findings.specs.FlawWords.{key_text}
use Rattle.lint_findings.specs.Flaws.{unresolved, duplicate_key}
use Rattle.lint_findings.specs.HintLaws.{HasMessage, HasTerm, SaysOfMessage, not_translated, near_message, a_variable, a_term, SaysOfTerm, near_term, a_message, SaysOfValue, an_attribute, FlawHintsAreSo, ListsCategories, SaysOfFact, FactHintsAreSo, DifferenceHintsAreSo}
use Rattle.lint_findings.specs.MissingCategories.{is_category_name, variant_keys}
use Rattle.lint_findings.specs.NearNames.{nearest_hint}
use Rattle.lint_findings.specs.Nodes.{Node, expression, select, repeated_key}
use Rattle.lint_findings.specs.SyntaxErrors.{in_backticks}
use Rattle.lint_findings.specs.TermUses.{term_nodes, is_variable, has_variable, is_key, node_has_key, has_key}
use Rattle.lint_findings.proofs.FactsAreTrue.{facts_are_true, is_a_category}
use Rattle.lint_findings.proofs.NearNamesAreThere.{asks_for, is_one_of, is_same, none_is_some, some_is}

-- ---- hints of flaws

module _ {F : Type 0} (ids : Ids F) where
  as_one : (o : Option (Meaning F)) → is_some (as_message o) ≡ true → (m : t.Message) × (o ≡ Some (message m))
  as_one None e = absurd (false≢true e)
  as_one (Some number_function) e = absurd (false≢true e)
  as_one (Some (function f)) e = absurd (false≢true e)
  as_one (Some (term m)) e = absurd (false≢true e)
  as_one (Some (message m)) e = (m, refl)

  is_a_message : (id : Text) → is_message ids id ≡ true → HasMessage ids id
  is_a_message id e = as_one (find ids id) e

  as_term : (o : Option (Meaning F)) → means_term o ≡ true → (m : t.Term) × (o ≡ Some (term m))
  as_term None e = absurd (false≢true e)
  as_term (Some number_function) e = absurd (false≢true e)
  as_term (Some (function f)) e = absurd (false≢true e)
  as_term (Some (term m)) e = (m, refl)
  as_term (Some (message m)) e = absurd (false≢true e)

  is_a_term : (id : Text) → is_term ids id ≡ true → HasTerm ids id
  is_a_term id e = as_term (find ids id) e

  -- of a term
  of_term : (id : Text) (o : Option (Meaning F)) → find ids id ≡ o → (hint : Text) → term_hint ids id o ≡ Some hint → SaysOfTerm ids id hint
  of_term id None is hint e = near_term (asks_for (HasTerm ids) (hyphen ∷ []) (is_term ids) id is_a_term hint e)
  of_term id (Some number_function) is hint e = none_is_some e
  of_term id (Some (function f)) is hint e = none_is_some e
  of_term id (Some (term m)) is hint e = none_is_some e
  of_term id (Some (message m)) is hint e = subst (SaysOfTerm ids id) (some_is e) (a_message (m, is))

  -- of a message without a value
  of_attributes : (id : Text) (m : t.Message) → find ids id ≡ Some (message m) → (more : List t.Attribute) → m.attributes ≡ more → (hint : Text) →
      first_attribute_hint more ≡ Some hint → SaysOfValue ids id hint
  of_attributes id m is [] all hint e = none_is_some e
  of_attributes id m is (a ∷ more) all hint e =
      subst (SaysOfValue ids id) (some_is e) (an_attribute (m, is, subst (λ l. Contains l a) (sym all) (0, omega arith, refl)))

  of_value : (id : Text) (o : Option (Meaning F)) → find ids id ≡ o → (hint : Text) → value_hint (as_message o) ≡ Some hint → SaysOfValue ids id hint
  of_value id None is hint e = none_is_some e
  of_value id (Some number_function) is hint e = none_is_some e
  of_value id (Some (function f)) is hint e = none_is_some e
  of_value id (Some (term m)) is hint e = none_is_some e
  of_value id (Some (message m)) is hint e = of_attributes id m is m.attributes refl hint e

module _ {F : Type 0} (ids reference : Ids F) where
  abbrev Says : Text → Text → Type 0
  Says id hint = SaysOfMessage ids reference id hint

  -- where no message is meant that the reference has
  or_variable : (id : Text) (o : Option Text) → nearest_hint [] (is_message ids) id ≡ o → (hint : Text) →
      option_or o (Some (codes "a variable is written " ++ in_backticks (dollar ∷ id))) ≡ Some hint → Says id hint
  or_variable id None is hint e = subst (Says id) (some_is e) a_variable
  or_variable id (Some near) is hint e = subst (Says id) (some_is e) (near_message (asks_for (HasMessage ids) [] (is_message ids) id (is_a_message ids) near is))

  of_none : (id : Text) (b : Bool) → is_message reference id ≡ b → (hint : Text) →
      (if b then Some (untranslated_text id) else option_or (nearest_hint [] (is_message ids) id) (Some (codes "a variable is written " ++ in_backticks (dollar ∷ id)))) ≡ Some hint → Says id hint
  of_none id true is hint e = subst (Says id) (some_is e) (not_translated (is_a_message reference id is))
  of_none id false is hint e = or_variable id (nearest_hint [] (is_message ids) id) refl hint e

  of_message : (id : Text) (o : Option (Meaning F)) → find ids id ≡ o → (hint : Text) → message_hint ids reference id o ≡ Some hint → Says id hint
  of_message id None is hint e = of_none id (is_message reference id) refl hint e
  of_message id (Some number_function) is hint e = none_is_some e
  of_message id (Some (function f)) is hint e = none_is_some e
  of_message id (Some (message m)) is hint e = none_is_some e
  of_message id (Some (term m)) is hint e = subst (Says id) (some_is e) (a_term (m, is))

pub flaw_hints_are_so : {F : Type 0} → FlawHintsAreSo F
flaw_hints_are_so ids reference (unresolved (unknown (to_message id a))) hint e = of_message ids reference id (find ids id) refl hint e
flaw_hints_are_so ids reference (unresolved (unknown (to_term id a))) hint e = of_term ids id (find ids id) refl hint e
flaw_hints_are_so ids reference (unresolved (unknown (to_function id))) hint e = none_is_some e
flaw_hints_are_so ids reference (unresolved (unknown (to_variable id))) hint e = none_is_some e
flaw_hints_are_so ids reference (unresolved (no_value id)) hint e = of_value ids id (find ids id) refl hint e
flaw_hints_are_so ids reference (unresolved missing_default) hint e = sym (some_is e)
flaw_hints_are_so ids reference (unresolved cyclic) hint e = none_is_some e
flaw_hints_are_so ids reference (unresolved too_many_placeables) hint e = none_is_some e
flaw_hints_are_so ids reference (duplicate_key k) hint e = none_is_some e

-- ---- hints of facts

is_this_variable : (name : Text) (node : Node) → is_variable name node ≡ true → node ≡ expression (t.variable_reference name)
is_this_variable name (expression (t.variable_reference y)) e = ap (λ x. expression (t.variable_reference x)) (sym (is_same name y e))
is_this_variable name (expression (t.string_literal s)) e = absurd (false≢true e)
is_this_variable name (expression (t.number_literal s)) e = absurd (false≢true e)
is_this_variable name (expression (t.function_reference f c)) e = absurd (false≢true e)
is_this_variable name (expression (t.message_reference f c)) e = absurd (false≢true e)
is_this_variable name (expression (t.term_reference f b c)) e = absurd (false≢true e)
is_this_variable name (expression (t.nested i)) e = absurd (false≢true e)
is_this_variable name (select i vs) e = absurd (false≢true e)
is_this_variable name (repeated_key k) e = absurd (false≢true e)

has_the_variable : (m : t.Term) (nodes : List Node) → nodes ≡ term_nodes m → (name : Text) → has_variable nodes name ≡ true → HasVariable m name
has_the_variable m nodes same name e =
    let any = Any-from_list_any (is_variable name) nodes e in
    subst (λ ns. Contains ns (expression (t.variable_reference name))) same
    (subst (Contains nodes) (is_this_variable name any.1 any.4) (any.0, any.2, any.3))

-- the select on a variable that has a variant with this key
abbrev IsSelectWith : Text → Text → Node → Type 0
IsSelectWith x s node = (vs : Variants) × (node ≡ select (t.variable_reference x) vs) × (k : VariantKey) × Contains (variant_keys vs) k × (key_text k ≡ s)

selects_by_key : (x s : Text) (node : Node) → node_has_key x s node ≡ true → IsSelectWith x s node
selects_by_key x s (select (t.variable_reference y) vs) e =
    let same = is_same x y (and-left (bytes_eq x y) _ e) in
    let any = Any-from_list_any (is_key s) (variant_keys vs) (and-right (bytes_eq x y) _ e) in
    (vs, ap (λ z. select (t.variable_reference z) vs) (sym same), any.1, (any.0, any.2, any.3), is_same (key_text any.1) s any.4)
selects_by_key x s (select (t.string_literal r) vs) e = absurd (false≢true e)
selects_by_key x s (select (t.number_literal r) vs) e = absurd (false≢true e)
selects_by_key x s (select (t.function_reference f c) vs) e = absurd (false≢true e)
selects_by_key x s (select (t.message_reference f c) vs) e = absurd (false≢true e)
selects_by_key x s (select (t.term_reference f b c) vs) e = absurd (false≢true e)
selects_by_key x s (select (t.nested i) vs) e = absurd (false≢true e)
selects_by_key x s (expression i) e = absurd (false≢true e)
selects_by_key x s (repeated_key k) e = absurd (false≢true e)

has_the_variant : (m : t.Term) (nodes : List Node) → nodes ≡ term_nodes m → (x name : Text) → has_key nodes x name ≡ true → HasVariant m x name
has_the_variant m nodes same x name e =
    let any = Any-from_list_any (node_has_key x name) nodes e in
    let by = selects_by_key x name any.1 any.4 in
    (by.0, by.2, subst (λ ns. Contains ns (select (t.variable_reference x) by.0)) same (subst (Contains nodes) by.1 (any.0, any.2, any.3)), by.3, by.4)

lacking_says : (plurals : Option LanguagePlurals) (cs : List PluralCategory) (c : PluralCategory) → ListsCategories plurals cs → (hint : Text) →
    (lacking_remark cs c).hint ≡ Some hint → (hint ≡ category_hint cs) × ListsCategories plurals cs
lacking_says plurals [] ONE are hint e = none_is_some e
lacking_says plurals [] ZERO are hint e = (sym (some_is e), are)
lacking_says plurals [] TWO are hint e = (sym (some_is e), are)
lacking_says plurals [] FEW are hint e = (sym (some_is e), are)
lacking_says plurals [] MANY are hint e = (sym (some_is e), are)
lacking_says plurals [] OTHER are hint e = (sym (some_is e), are)
lacking_says plurals (d ∷ ds) c are hint e = (sym (some_is e), are)

fact_says : {F : Type 0} (ids : Ids F) (plurals : Option LanguagePlurals) (node : Node) (fact : Fact) → IsTrueOf ids plurals node fact → (hint : Text) →
    (fact_remark fact).hint ≡ Some hint → SaysOfFact ids plurals fact hint
fact_says ids plurals node (quoted_placeable q) so hint e = sym (some_is e)
fact_says ids plurals node (unused_argument id nodes x) so hint e =
    (so.1, so.2, asks_for (HasVariable so.1) [] (has_variable nodes) x (has_the_variable so.1 nodes so.3) hint e)
fact_says ids plurals node (unknown_value id nodes x raw s) so hint e =
    (so.1, so.2, asks_for (HasVariant so.1 x) [] (has_key nodes x) s (has_the_variant so.1 nodes so.3 x) hint e)
fact_says ids plurals node (lacking_category cs c) so hint e = lacking_says plurals cs c (so.0, so.1, so.2, so.4) hint e
fact_says ids plurals node (nearly_category s) so hint e = asks_for IsCategory [] is_category_name s is_a_category hint e
fact_says ids plurals node (other_text id name s key) so hint e = (sym (some_is e), so.1)

pub fact_hints_are_so : {F : Type 0} → FactHintsAreSo F
fact_hints_are_so ids plurals node =
    All-weaker (IsTrueOf ids plurals node) (λ fact. (hint : Text) → (fact_remark fact).hint ≡ Some hint → SaysOfFact ids plurals fact hint) (fact_says ids plurals node)
    (node_facts ids plurals node) (facts_are_true ids plurals node)

-- ---- hints of differences

pub difference_hints_are_so : DifferenceHintsAreSo
difference_hints_are_so known (unknown_variable x) hint e = asks_for (Contains known) (dollar ∷ []) (λ name. is_among name known) x (is_one_of known) hint e
difference_hints_are_so known missing_message hint e = none_is_some e
difference_hints_are_so known obsolete_message hint e = none_is_some e
difference_hints_are_so known missing_value hint e = none_is_some e
difference_hints_are_so known obsolete_value hint e = none_is_some e
difference_hints_are_so known (missing_attribute a) hint e = none_is_some e
difference_hints_are_so known (obsolete_attribute a) hint e = none_is_some e
difference_hints_are_so known (missing_variable x) hint e = none_is_some e
difference_hints_are_so known (unused_variable x) hint e = none_is_some e
difference_hints_are_so known untranslated hint e = none_is_some e
