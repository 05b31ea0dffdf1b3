-- Each loss of a message is so.
use Rattle.std.proofs.Common.{◌≡◌, ◌∙◌, ℕ, zero, suc, ◌<◌, nat_lt, Bool, true, false, cond, not, ◌&&◌, ◌||◌, if◌then◌else◌, List, [], ◌∷◌, ◌++◌, length, map, Option, Some, None, option_map, option_to_list, refl, sym, ap, subst, All, Contains, arith}
use Rattle.std.specs.List.{flat_map, list_any}
use Rattle.std.specs.Option.{option_or}
use Rattle.std.specs.Str.{bytes_eq}
use Rattle.std.proofs.lemmas.Bool.{false≢true}
use Rattle.std.proofs.lemmas.List.Elements.{All-nil, All-cons, All-head, All-tail, All-append, All-weaker, All-contains, All-contains_itself, Contains-append_left, Contains-append_right, Contains-push}
use Rattle.fluent_grammar.proofs.Cases.{cases, and-left, and-right, or-left}
use Rattle.fluent_grammar.specs.Words.{Text}
use Rattle.fluent_grammar.specs.Tree as t
use Rattle.fluent_grammar.specs.Tree.{Elements, Inline, Variants, VariantKey, MaybeArguments}
use Rattle.fluent_meaning.specs.Choice.{first_default}
use Rattle.fluent_meaning.specs.Ids.{Ids, Meaning, number_function, function, message, term, find}
use Rattle.fluent_plurals.specs.declared.plurals.LanguagePlurals.{LanguagePlurals}
use Rattle.lint_findings.specs.Comparison.{as_message, message_shows, union}
use Rattle.lint_findings.specs.FactLaws.{MessageShows}
use Rattle.lint_findings.specs.FlawWords.{key_text}
use Rattle.lint_findings.specs.Losses.{Loss, lacking_variant, dropped_plural, written_term, message_nodes, counted, must_show, is_quoting, node_lacks, is_lacking, variant_losses, variants_losses, variable_of, variable_losses, default_losses, are_counting, select_losses, node_losses, lacking_variants, is_cardinal, differ_from, variants_differ, are_categories, chooses_plural, if_shown, plural_of, first_plural, is_choice, has_forms, dropped_variable, dropped_plurals, is_term, message_has, is_written, first_written, term_texts, term_loss, written_by, first_term, losses_by, losses_beside, losses}
use Rattle.lint_findings.specs.LossLaws.{IsVariantOf, this_one, later, DefaultShows, HasChoice, HasText, RefersToTerm, IsLossOf, LossesAreTrue}
use Rattle.lint_findings.specs.MissingCategories.{selector_rule, variant_keys}
use Rattle.lint_findings.specs.Nodes.{Node, expression, select, repeated_key, elements_nodes}
use Rattle.lint_findings.specs.Shown.{elements_show, elements_always_show}
use Rattle.lint_findings.proofs.FactsAreTrue.{fails, same_bytes}
use Rattle.lint_findings.proofs.MissingVariables.{meant, message_shown}
use Rattle.lint_findings.proofs.ShowingPatterns.{always_shown, never_shown}
use Rattle.lint_findings.proofs.WordsStand.{message_text, none_there, plain_there}

-- ---- lists

all_flat : {A B : Type 0} (P : B → Type 0) (f : A → List B) (xs : List A) → All (λ x. All P (f x)) xs → All P (flat_map f xs)
all_flat P f [] h = All-nil P
all_flat P f (x ∷ xs) h =
    All-append P (f x) (flat_map f xs) (All-head (λ y. All P (f y)) x xs h) (all_flat P f xs (All-tail (λ y. All P (f y)) x xs h))

each : {A : Type 0} (P : A → Type 0) → ((x : A) → P x) → (xs : List A) → All P xs
each P h [] = All-nil P
each P h (x ∷ xs) = All-cons P x xs (h x) (each P h xs)

-- what holds of each element of a list holds of what they have
all_of : {A B : Type 0} (P : B → Type 0) (f : A → List B) (xs : List A) → ((x : A) → Contains xs x → All P (f x)) → All P (flat_map f xs)
all_of P f xs h = all_flat P f xs (All-weaker (Contains xs) (λ x. All P (f x)) h xs (All-contains_itself xs))

head_there : {A : Type 0} (x : A) (xs : List A) → Contains (x ∷ xs) x
head_there x xs = Contains-append_left (x ∷ []) xs x (Contains-push [] x)

past : {A : Type 0} (x : A) (xs : List A) (y : A) → Contains xs y → Contains (x ∷ xs) y
past x xs y h = Contains-append_right (x ∷ []) xs y h

-- ---- what may be absent

none_some : {A P : Type 0} {v : A} → None ≡ Some v → P
none_some e = absurd cc

pub some_same : {A : Type 0} {w v : A} → Some w ≡ Some v → w ≡ v
some_same e = cc

if_some : {A : Type 0} (b : Bool) (w : Option A) (v : A) → (if b then w else None) ≡ Some v → (b ≡ true) × (w ≡ Some v)
if_some true w v e = (refl, e)
if_some false w v e = none_some e

unless_some : {A : Type 0} (b : Bool) (w : Option A) (v : A) → (if b then None else w) ≡ Some v → (b ≡ false) × (w ≡ Some v)
unless_some true w v e = none_some e
unless_some false w v e = (refl, e)

option_cases : {A P : Type 0} (w u : Option A) (v : A) → option_or w u ≡ Some v → (w ≡ Some v → P) → (u ≡ Some v → P) → P
option_cases None u v e p q = q e
option_cases (Some x) u v e p q = p e

mapped_some : {A B : Type 0} (f : A → B) (w : Option A) (y : B) → option_map f w ≡ Some y → (x : A) × (w ≡ Some x) × (f x ≡ y)
mapped_some f None y e = none_some e
mapped_some f (Some x) y e = (x, refl, some_same e)

-- ---- variables that a variant lacks

default_there : (vs : Variants) (es : Elements) → first_default vs ≡ Some es → (k : VariantKey) × IsVariantOf k es true vs
default_there t.no_variants es e = absurd cc
default_there (t.variant k fs true vs) es e = let is : fs ≡ es = cc in (k, subst (λ z. IsVariantOf k z true (t.variant k fs true vs)) is this_one)
default_there (t.variant k fs false vs) es e = let rest = default_there vs es e in (rest.0, later rest.1)

module _ {F : Type 0} (reference : Ids F) (m o : t.Message) where
  abbrev So : Loss → Type 0
  So = IsLossOf reference m o

  module _ (i : Inline) (vs : Variants) (there : Contains (message_nodes m) (select i vs)) (others : List Node) (v x : Text) (default : DefaultShows vs x) where
    of_variant : (k : VariantKey) (es : Elements) (d : Bool) → IsVariantOf k es d vs → All So (variant_losses others v x k es d)
    of_variant k es d this = cases (not d && is_lacking others v x k es)
        (λ h.
        let lacks = and-right (not d) (is_lacking others v x k es) h in
        let shown = and-left (must_show v x k es && not (elements_show x es)) (not (list_any is_quoting (elements_nodes es)) && not (list_any (node_lacks v k x) others)) lacks in
        let hidden = and-right (must_show v x k es) (not (elements_show x es)) shown in
        rw h (All-cons So (lacking_variant (key_text k) x) [] (i, vs, there, default, (k, es, d, this, refl, never_shown es x hidden)) (All-nil So)))
        (λ h. rw h (All-nil So))

    of_variants : (ws : Variants) → ((k : VariantKey) (es : Elements) (d : Bool) → IsVariantOf k es d ws → IsVariantOf k es d vs) → All So (variants_losses others v x ws)
    of_variants t.no_variants up = All-nil So
    of_variants (t.variant k es d ws) up =
        All-append So (variant_losses others v x k es d) (variants_losses others v x ws) (of_variant k es d (up k es d this_one)) (of_variants ws (λ l fs e h. up l fs e (later h)))

  module _ (i : Inline) (vs : Variants) (there : Contains (message_nodes m) (select i vs)) (others : List Node) (v : Text) where
    of_variable : (es : Elements) → first_default vs ≡ Some es → (x : Text) → All So (variable_losses others v vs es x)
    of_variable es e x = cases (elements_always_show x es)
        (λ h.
        let default = default_there vs es e in
        rw h (of_variants i vs there others v x (default.0, es, default.1, always_shown x es h) vs (λ k fs d this. this)))
        (λ h. rw h (All-nil So))

    of_default : (found : Option Elements) → first_default vs ≡ found → All So (default_losses others v vs found)
    of_default None e = All-nil So
    of_default (Some es) e =
        let names = union [] (flat_map variable_of (elements_nodes es)) in
        all_flat So (variable_losses others v vs es) names (each (λ x. All So (variable_losses others v vs es x)) (of_variable es e) names)

  of_select : (i : Inline) (vs : Variants) → Contains (message_nodes m) (select i vs) → (others : List Node) (v : Option Text) → All So (select_losses others vs v)
  of_select i vs there others None = All-nil So
  of_select i vs there others (Some v) = cases (are_counting (variant_keys vs))
      (λ h. rw h (of_default i vs there others v (first_default vs) refl))
      (λ h. rw h (All-nil So))

  of_node : (others : List Node) (node : Node) → Contains (message_nodes m) node → All So (node_losses others node)
  of_node others (expression i) there = All-nil So
  of_node others (select i vs) there = of_select i vs there others (counted i)
  of_node others (repeated_key k) there = All-nil So

  -- ---- plural variants that are dropped

  two_there : (vs : Variants) → variants_differ vs ≡ true → (i : Inline) → Contains (message_nodes o) (select i vs) → HasChoice o
  two_there t.no_variants h i there = absurd (false≢true h)
  two_there (t.variant k es d t.no_variants) h i there = absurd (false≢true h)
  two_there (t.variant k es d (t.variant l fs e vs)) h i there = (i, k, l, es, fs, d, e, vs, there)

  abbrev Chosen : Text → Type 0
  Chosen v = MessageShows m v × HasChoice o × Unit {0}

  shown_there : (w : Option Text) (v : Text) → if_shown m w ≡ Some v → MessageShows m v
  shown_there None v e = none_some e
  shown_there (Some w) v e =
      let is = if_some (message_shows m w) (Some w) v e in
      subst (MessageShows m) (some_same is.1) (message_shown m w is.0)

  chosen_there : (node : Node) → Contains (message_nodes o) node → (v : Text) → plural_of m node ≡ Some v → Chosen v
  chosen_there (expression i) there v e = none_some e
  chosen_there (repeated_key k) there v e = none_some e
  chosen_there (select i vs) there v e =
      let is = if_some (chooses_plural i vs) (if_shown m (counted i)) v e in
      let keyed = are_categories (variant_keys vs) in
      (shown_there (counted i) v is.1, two_there vs (and-right keyed (variants_differ vs) (and-right (is_cardinal (selector_rule i)) (keyed && variants_differ vs) is.0)) i there, tt)

  first_there : (others : List Node) → ((node : Node) → Contains others node → Contains (message_nodes o) node) → (v : Text) → first_plural m others ≡ Some v → Chosen v
  first_there [] up v e = none_some e
  first_there (node ∷ others) up v e =
      option_cases (plural_of m node) (first_plural m others) v e
      (λ k. chosen_there node (up node (head_there node others)) v k)
      (λ k. first_there others (λ other h. up other (past node others other h)) v k)

  no_choice : list_any is_choice (message_nodes m) ≡ false → HasChoice m → ⊥
  no_choice none (i, k, l, es, fs, d, e, vs, inside) = fails is_choice (message_nodes m) (select i (t.variant k es d (t.variant l fs e vs))) none inside refl

  dropped_there : (plurals : LanguagePlurals) (v : Text) → dropped_variable plurals m (message_nodes m) (message_nodes o) ≡ Some v → So (dropped_plural v)
  dropped_there plurals v e =
      let is = unless_some (list_any is_choice (message_nodes m) || not (has_forms plurals)) (first_plural m (message_nodes o)) v e in
      let chosen = first_there (message_nodes o) (λ node at. at) v is.1 in
      (chosen.0, chosen.1, no_choice (or-left (list_any is_choice (message_nodes m)) (not (has_forms plurals)) is.0))

  of_variable_found : (v : Option Text) → ((x : Text) → v ≡ Some x → So (dropped_plural x)) → All So (map dropped_plural (option_to_list v))
  of_variable_found None h = All-nil So
  of_variable_found (Some v) h = All-cons So (dropped_plural v) [] (h v refl) (All-nil So)

  of_dropped : (plurals : Option LanguagePlurals) → All So (dropped_plurals plurals m (message_nodes m) (message_nodes o))
  of_dropped None = All-nil So
  of_dropped (Some plurals) = of_variable_found (dropped_variable plurals m (message_nodes m) (message_nodes o)) (dropped_there plurals)

  -- ---- terms that are written out

  written_there : (texts : List Text) (s : Text) → first_written m o texts ≡ Some s → Contains texts s × (is_written m o s ≡ true)
  written_there [] s e = none_some e
  written_there (x ∷ texts) s e = cases (is_written m o x)
      (λ h.
      let is : x ≡ s = some_same (ap (λ b. if b then Some x else first_written m o texts) (sym h) ∙ e) in
      subst (λ z. Contains (x ∷ texts) z × (is_written m o z ≡ true)) is (head_there x texts, h))
      (λ h.
      let rest = written_there texts s (ap (λ b. if b then Some x else first_written m o texts) (sym h) ∙ e) in
      (past x texts s rest.0, rest.1))

  term_there : (id s : Text) (found : Option (Meaning F)) → find reference id ≡ found → Contains (term_texts found) s → (k : t.Term) × (find reference id ≡ Some (term k)) × HasText k.value s
  term_there id s None e h = none_there s h
  term_there id s (Some number_function) e h = none_there s h
  term_there id s (Some (function f)) e h = none_there s h
  term_there id s (Some (message k)) e h = none_there s h
  term_there id s (Some (term k)) e h = (k, e, plain_there k.value s h)

  of_reference : (id : Text) (a : Option Text) (c : MaybeArguments) → Contains (message_nodes o) (expression (t.term_reference id a c)) → (loss : Loss) → term_loss reference m o (message_nodes m) id ≡ Some loss → So loss
  of_reference id a c there loss e =
      let is = unless_some (list_any (is_term id) (message_nodes m)) (option_map (written_term id) (first_written m o (term_texts (find reference id)))) loss e in
      let written = mapped_some (written_term id) (first_written m o (term_texts (find reference id))) loss is.1 in
      let s = written.0 in
      let found = written_there (term_texts (find reference id)) s written.1 in
      let has : message_has m s ≡ true = and-left (message_has m s) (not (message_has o s)) (and-right (nat_lt 2 (length s)) (message_has m s && not (message_has o s)) found.1) in
      let value = term_there id s (find reference id) refl found.0 in
      let none : RefersToTerm m id → ⊥ = λ refers. fails (is_term id) (message_nodes m) (expression (t.term_reference id refers.0 refers.1)) is.0 refers.2 (same_bytes id) in
      subst So written.2 ((a, c, there), none, message_text m s has, value.0, value.1, value.2)

  of_other : (node : Node) → Contains (message_nodes o) node → (loss : Loss) → written_by reference m o (message_nodes m) node ≡ Some loss → So loss
  of_other (expression (t.term_reference id a c)) there loss e = of_reference id a c there loss e
  of_other (expression (t.string_literal s)) there loss e = none_some e
  of_other (expression (t.number_literal s)) there loss e = none_some e
  of_other (expression (t.function_reference id a)) there loss e = none_some e
  of_other (expression (t.message_reference id a)) there loss e = none_some e
  of_other (expression (t.variable_reference x)) there loss e = none_some e
  of_other (expression (t.nested x)) there loss e = none_some e
  of_other (select i vs) there loss e = none_some e
  of_other (repeated_key k) there loss e = none_some e

  of_others : (others : List Node) → ((node : Node) → Contains others node → Contains (message_nodes o) node) → (loss : Loss) → first_term reference m o (message_nodes m) others ≡ Some loss → So loss
  of_others [] up loss e = none_some e
  of_others (node ∷ others) up loss e =
      option_cases (written_by reference m o (message_nodes m) node) (first_term reference m o (message_nodes m) others) loss e
      (λ k. of_other node (up node (head_there node others)) loss k)
      (λ k. of_others others (λ other h. up other (past node others other h)) loss k)

  of_term : (found : Option Loss) → ((loss : Loss) → found ≡ Some loss → So loss) → All So (option_to_list found)
  of_term None h = All-nil So
  of_term (Some loss) h = All-cons So loss [] (h loss refl) (All-nil So)

  -- ---- of a message

  of_losses : (plurals : Option LanguagePlurals) → All So (losses_by reference plurals m o (message_nodes m) (message_nodes o))
  of_losses plurals =
      All-append So (lacking_variants (message_nodes m) (message_nodes o)) _ (all_of So (node_losses (message_nodes o)) (message_nodes m) (of_node (message_nodes o)))
      (All-append So (dropped_plurals plurals m (message_nodes m) (message_nodes o)) _ (of_dropped plurals)
      (of_term (first_term reference m o (message_nodes m) (message_nodes o)) (of_others (message_nodes o) (λ node at. at))))

module _ {F : Type 0} (reference : Ids F) (plurals : Option LanguagePlurals) (m : t.Message) where
  beside : (found : Option t.Message) → as_message (find reference m.id) ≡ found → (loss : Loss) → Contains (losses_beside reference plurals m found) loss →
      (o : t.Message) × (find reference m.id ≡ Some (message o)) × IsLossOf reference m o loss
  beside None e loss h = none_there loss h
  beside (Some o) e loss h =
      (o, meant reference reference m.id (find reference m.id) o e, All-contains (IsLossOf reference m o) (losses_by reference plurals m o (message_nodes m) (message_nodes o)) loss (of_losses reference m o plurals) h)

pub losses_are_true : {F : Type 0} → LossesAreTrue F
losses_are_true reference plurals m loss at = beside reference plurals m (as_message (find reference m.id)) refl loss at
