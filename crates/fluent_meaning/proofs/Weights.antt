-- What is entered or opened weighs less than what it stands in.
use Rattle.std.proofs.Common.{◌≡◌, ℕ, suc, ◌≤◌, ◌<◌, Bool, true, false, cond, List, [], ◌∷◌, Option, Some, None, refl, ap, sym, arith}
use Rattle.std.proofs.Math.Nat.{le_refl, le_trans, le_of_eq}
use Rattle.std.specs.BTreeMap.{is_at}
use Rattle.std.specs.Str.{bytes_eq}
use Rattle.fluent_value.specs.Args.{order}
use Rattle.fluent_grammar.specs.Words.{Text}
use Rattle.fluent_grammar.specs.Tree as t
use Rattle.fluent_grammar.specs.Tree.{Elements}
use Rattle.fluent_errors.specs.Errors.{Unresolved, no_value, unknown, to_message, to_term}
use Rattle.fluent_value.specs.Value.{Value}
use Rattle.fluent_meaning.specs.Choice.{chosen, first_match, first_default, key_value, is_choice, or_else}
use Rattle.fluent_value.specs.Matching.{Plurals, matches}
use Rattle.fluent_meaning.specs.Ids.{Ids, Meaning, number_function, function, message, term, find, attribute_named}
use Rattle.fluent_meaning.specs.Substitution.{Target, there, missing, there_or, message_target, term_target}
use Rattle.fluent_meaning.specs.WeightLaws.{MessagesWeigh, TermsWeigh, VariantsWeigh}
use Rattle.fluent_meaning.specs.Weight.{elements_weight, expression_weight, variants_weight, inline_weight, value_weight, attributes_weight, meaning_weight, ids_weight}

abbrev pub target_weight : Target → ℕ
target_weight (there es) = elements_weight es
target_weight (missing e) = 0

there_or-weight : (e : Unresolved) (o : Option Elements) → target_weight (there_or e o) ≤ value_weight o
there_or-weight e None = le_refl 0
there_or-weight e (Some es) = le_refl (elements_weight es)

attribute-by : (b : Bool) (a : t.Attribute) (as' : List t.Attribute) (name : Text) → value_weight (attribute_named name as') ≤ attributes_weight as' → value_weight (cond b (Some a.value) (attribute_named name as')) ≤ attributes_weight (a ∷ as')
attribute-by true a as' name h = omega arith
attribute-by false a as' name h = omega (arith, h)

attribute-weight : (name : Text) (as' : List t.Attribute) → value_weight (attribute_named name as') ≤ attributes_weight as'
attribute-weight name [] = le_refl 0
attribute-weight name (a ∷ as') = attribute-by (bytes_eq a.id name) a as' name (attribute-weight name as')

abbrev found_weight : {F : Type 0} → Option (Meaning F) → ℕ
found_weight None = 0
found_weight (Some m) = meaning_weight m

target-found : {F : Type 0} (id : Text) (attr : Option Text) (o : Option (Meaning F)) → target_weight (message_target id attr o) ≤ found_weight o
target-found id attr None = le_refl 0
target-found id attr (Some number_function) = le_refl 0
target-found id attr (Some (function f)) = le_refl 0
target-found id attr (Some (term m)) = omega arith
target-found id None (Some (message m)) = omega (arith, there_or-weight (no_value id) m.value)
target-found id (Some a) (Some (message m)) = omega (arith, there_or-weight (unknown (to_message id (Some a))) (attribute_named a m.attributes), attribute-weight a m.attributes)

found-by : {F : Type 0} (b : Bool) (pair : Text × Meaning F) (pairs : Ids F) (id : Text) → found_weight (find pairs id) ≤ ids_weight pairs → found_weight (cond b (Some pair.1) (find pairs id)) ≤ ids_weight (pair ∷ pairs)
found-by true pair pairs id h = omega arith
found-by false pair pairs id h = omega (arith, h)

found-weight : {F : Type 0} (ids : Ids F) (id : Text) → found_weight (find ids id) ≤ ids_weight ids
found-weight [] id = le_refl 0
found-weight (pair ∷ pairs) id = found-by (is_at (order id) pair.0) pair pairs id (found-weight pairs id)

-- what a message reference enters weighs no more than the bundle
pub message-weight : {F : Type 0} (ids : Ids F) (id : Text) (attr : Option Text) → target_weight (message_target id attr (find ids id)) ≤ ids_weight ids
message-weight ids id attr = le_trans (target-found id attr (find ids id)) (found-weight ids id)

term-found : {F : Type 0} (id : Text) (attr : Option Text) (o : Option (Meaning F)) → target_weight (term_target id attr o) ≤ found_weight o
term-found id attr None = le_refl 0
term-found id attr (Some number_function) = le_refl 0
term-found id attr (Some (function f)) = le_refl 0
term-found id attr (Some (message m)) = omega arith
term-found id None (Some (term m)) = omega arith
term-found id (Some a) (Some (term m)) = omega (arith, there_or-weight (unknown (to_term id (Some a))) (attribute_named a m.attributes), attribute-weight a m.attributes)

-- and so does what a term reference enters
pub term-weight : {F : Type 0} (ids : Ids F) (id : Text) (attr : Option Text) → target_weight (term_target id attr (find ids id)) ≤ ids_weight ids
term-weight ids id attr = le_trans (term-found id attr (find ids id)) (found-weight ids id)

pub messages-weigh : {F : Type 0} → MessagesWeigh F
messages-weigh ids id attr es h = le_trans (le_of_eq (ap target_weight (sym h))) (message-weight ids id attr)

pub terms-weigh : {F : Type 0} → TermsWeigh F
terms-weigh ids id attr es h = le_trans (le_of_eq (ap target_weight (sym h))) (term-weight ids id attr)

-- a variant's pattern weighs no more than the variants
none_weighs : (n : ℕ) → 0 ≤ n
none_weighs n = omega arith

match-by : (b : Bool) (k : t.VariantKey) (es : Elements) (d : Bool) (vs : t.Variants) (o : Option Elements) → value_weight o ≤ variants_weight vs → value_weight (cond b (Some es) o) ≤ variants_weight (t.variant k es d vs)
unfolding variants_weight
match-by true k es d vs o h = omega arith
match-by false k es d vs o h = omega (arith, h)

match-weight : {S : Type 0} (plurals : Plurals) (v : Value S) (vs : t.Variants) → value_weight (first_match plurals v vs) ≤ variants_weight vs
match-weight plurals v t.no_variants = none_weighs (variants_weight t.no_variants)
match-weight plurals v (t.variant k es d vs) = match-by (matches plurals (key_value k) v) k es d vs (first_match plurals v vs) (match-weight plurals v vs)

default-weight : (vs : t.Variants) → value_weight (first_default vs) ≤ variants_weight vs
default-weight t.no_variants = none_weighs (variants_weight t.no_variants)
default-weight (t.variant k es d vs) = match-by d k es d vs (first_default vs) (default-weight vs)

either-weight : (n : ℕ) (o p : Option Elements) → value_weight o ≤ n → value_weight p ≤ n → value_weight (or_else o p) ≤ n
either-weight n None p h k = k
either-weight n (Some es) p h k = h

choice-weight : {S : Type 0} (b : Bool) (plurals : Plurals) (v : Value S) (vs : t.Variants) → value_weight (cond b (first_match plurals v vs) None) ≤ variants_weight vs
choice-weight true plurals v vs = match-weight plurals v vs
choice-weight false plurals v vs = none_weighs (variants_weight vs)

pub chosen-weight : {S : Type 0} (plurals : Plurals) (v : Value S) (vs : t.Variants) → value_weight (chosen plurals v vs) ≤ variants_weight vs
chosen-weight plurals v vs = either-weight (variants_weight vs) (cond (is_choice v) (first_match plurals v vs) None) (first_default vs) (choice-weight (is_choice v) plurals v vs) (default-weight vs)

in_select : (i : t.Inline) (vs : t.Variants) (n : ℕ) → n ≤ variants_weight vs → n < expression_weight (t.select i vs)
unfolding expression_weight
in_select i vs n h = omega (arith, h)

pub variants-weigh : {S : Type 0} → VariantsWeigh S
variants-weigh plurals v i vs es h = in_select i vs (elements_weight es) (le_trans (le_of_eq (ap value_weight (sym h))) (chosen-weight plurals v vs))

-- an inline expression in an expression, and an expression in a nested placeable
pub weight-inline : (i : t.Inline) → expression_weight (t.inline i) ≡ suc (inline_weight i)
unfolding expression_weight
weight-inline i = refl

pub weight-nested : (e : t.Expression) → inline_weight (t.nested e) ≡ suc (expression_weight e)
unfolding expression_weight
weight-nested e = refl
