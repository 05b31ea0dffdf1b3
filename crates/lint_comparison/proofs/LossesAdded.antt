-- The nodes and the losses of a message, one part after the other.
use Rattle.std.proofs.Common.{◌≡◌, ◌∙◌, ℕ, ◌+◌, ◌<◌, nat_lt, List, [], ◌∷◌, ◌++◌, length, map, drop, get_or, Option, Some, option_to_list, refl, ap, sym, append_assoc, arith, Bor}
use Rattle.std.specs.List.{flat_map}
use Rattle.std.proofs.lemmas.Bool.{lt-ltb}
use Rattle.std.proofs.lemmas.List.Concat.{flat_map-append}
use Rattle.fluent_ast.specs.Borrowed.{elements_of, key_of, message_of, variants_of}
use Rattle.fluent_ast.specs.View as View
use Rattle.fluent_ast.specs.declared.Message.{Message}
use Rattle.fluent_ast.specs.declared.Variant.{Variant}
use Rattle.fluent_grammar.specs.Tree as t
use Rattle.fluent_grammar.specs.Tree.{Elements, Inline, Variants}
use Rattle.fluent_grammar.specs.Words.{Text}
use Rattle.fluent_ids.specs.IdsView.{ids_view}
use Rattle.fluent_ids.specs.declared.ids.FluentIds.{FluentIds}
use Rattle.fluent_meaning.specs.Choice.{first_default}
use Rattle.fluent_meaning.specs.Ids.{Ids}
use Rattle.fluent_plurals.specs.declared.plurals.LanguagePlurals.{LanguagePlurals}
use Rattle.lint_findings.specs.Comparison.{union}
use Rattle.lint_findings.specs.Losses.{Loss, default_losses, dropped_plurals, first_term, is_choice, lacking_variants, losses_by, message_nodes, variable_losses, variable_of, variant_losses, variants_losses}
use Rattle.lint_findings.specs.Nodes as n
use Rattle.lint_findings.specs.Nodes.{elements_nodes}
use Rattle.lint_findings.specs.TermUses.{attributes_nodes}
use Rattle.lint_nodes.specs.declared.nodes.Node.{Node}
use Rattle.lint_comparison.specs.LossView.{dropped_in, lacking_in, losses_beside, losses_between, nodes_of}
use Rattle.lint_comparison.specs.WrittenView.{terms_in}
use Rattle.lint_comparison.proofs.LackedNames.{both_added}
use Rattle.lint_comparison.proofs.Lists.{flat_map-map}
use Rattle.lint_comparison.proofs.VariantKeys.{variant_is}
use Rattle.lint_entries.proofs.Pushed.{next}

-- the nodes of the value, and then those of the attributes
pub nodes_of_message : (m : t.Message) → flat_map elements_nodes (option_to_list m.value) ++ attributes_nodes m.attributes ≡ message_nodes m
nodes_of_message m =
    ap (λ l. flat_map elements_nodes (option_to_list m.value) ++ l) (sym (flat_map-map (λ (a : t.Attribute). a.value) elements_nodes m.attributes))
    ∙ sym (flat_map-append elements_nodes (option_to_list m.value) (map (λ (a : t.Attribute). a.value) m.attributes))

module _ (reference : FluentIds (Unit {0})) (plurals : Option LanguagePlurals) (message other : Message (Bor Text)) where
  abbrev ids : Ids (Unit {0})
  ids = ids_view (Unit {0}) reference

  abbrev m : t.Message
  m = message_of message

  abbrev o : t.Message
  o = message_of other

  -- Those of the variants, then those that are dropped, then a term. The nodes of the reference are lent three times.
  pub beside_added : (ns os qs ss : List Node) → nodes_of os ≡ message_nodes o → nodes_of qs ≡ message_nodes o → nodes_of ss ≡ message_nodes o → (a : List Loss) {b c d : List Loss} → b ≡ a ++ lacking_in ns os →
      c ≡ b ++ dropped_in plurals message ns qs → d ≡ c ++ terms_in reference message other ns ss → d ≡ a ++ losses_beside reference plurals message ns other
  beside_added ns os qs ss o-is q-is s-is a {b} {c} {d} lacking dropped written =
      let mine = nodes_of ns in
      let theirs = message_nodes o in
      let of_variants = lacking_variants mine theirs in
      let of_plurals = dropped_plurals plurals m mine theirs in
      let of_terms = option_to_list (first_term ids m o mine theirs) in
      let first : b ≡ a ++ of_variants = lacking ∙ ap (λ l. a ++ l) (ap (lacking_variants mine) o-is) in
      let second : c ≡ b ++ of_plurals = dropped ∙ ap (λ l. b ++ l) (ap (dropped_plurals plurals m mine) q-is) in
      let third : d ≡ c ++ of_terms = written ∙ ap (λ l. c ++ option_to_list l) (ap (first_term ids m o mine) s-is) in
      both_added a of_variants (of_plurals ++ of_terms) first (both_added b of_plurals of_terms second third)

  -- the nodes of the message are lent once
  pub beside : (ns : List Node) → nodes_of ns ≡ message_nodes m → losses_beside reference plurals message ns other ≡ losses_between reference plurals message other
  beside ns n-is = ap (λ xs. losses_by ids plurals m o xs (message_nodes o)) n-is

-- ---- of a select

-- those of the variables of the default variant
pub default_found : (others : List n.Node) (v : Text) (vs : Variants) (es : Elements) (xs : List Text) → xs ≡ union [] (flat_map variable_of (elements_nodes es)) → Some es ≡ first_default vs →
    flat_map (variable_losses others v vs es) xs ≡ default_losses others v vs (first_default vs)
default_found others v vs es xs listed is = ap (flat_map (variable_losses others v vs es)) listed ∙ ap (default_losses others v vs) is

pub more_than_one : (i : Inline) (vs : List (Variant (Bor Text))) → nat_lt 1 (length vs) ≡ is_choice (n.select i (variants_of vs))
more_than_one i [] = refl
more_than_one i (v ∷ []) = refl
more_than_one i (v ∷ w ∷ vs) = lt-ltb 1 (length (v ∷ w ∷ vs)) (omega arith)

-- ---- of variants

module _ (others : List n.Node) (v x : Text) (vs : List (Variant (Bor Text))) where
  abbrev view : Variant (Bor Text) → View.Variant
  view = View.variant_view _ (λ s. s.now)

  abbrev of_list : List View.Variant → List Loss
  of_list us = variants_losses others v x (View.variants_of us)

  -- that of the next variant was added
  pub next_variant : (i : ℕ) (item : Variant (Bor Text)) → i < length vs → item ≡ get_or vs i item → (a all : List Loss) {b : List Loss} → a ++ of_list (map view (drop i vs)) ≡ all →
      b ≡ a ++ variant_losses others v x (key_of item.key) (elements_of item.value) item.default → b ++ of_list (map view (drop (i + 1) vs)) ≡ all
  next_variant i item inside is a all before added =
      let rest = map view (drop (i + 1) vs) in
      let one = variant_losses others v x (key_of item.key) (elements_of item.value) item.default in
      let step : of_list (map view (drop i vs)) ≡ one ++ of_list rest = ap of_list (next view vs i item inside is) ∙ ap (λ (u : View.Variant). of_list (u ∷ rest)) (variant_is item) in
      ap (λ l. l ++ of_list rest) added ∙ append_assoc a one (of_list rest) ∙ ap (λ l. a ++ l) (sym step) ∙ before
