-- The ids that references of sources name.
use Rattle.std.proofs.Common.{◌≡◌, ◌∙◌, List, [], ◌∷◌, ◌++◌, map, Option, Some, None, option_to_list, refl, ap, sym, append_assoc}
use Rattle.std.specs.List.{flat_map}
use Rattle.std.proofs.lemmas.List.Concat.{flat_map-append}
use Rattle.lint_nodes.proofs.NodeReferences.{by_references, of_elements}
use Rattle.lint_nodes.specs.HasReached.{node_references}
use Rattle.lint_entries.specs.AttributePlaces.{uncommented}
use Rattle.lint_findings.specs.Flaws.{Owner, attribute_patterns, entry_patterns}
use Rattle.lint_findings.specs.Nodes.{Node, elements_nodes}
use Rattle.fluent_grammar.specs.Tiling.{list, listed, tree}
use Rattle.fluent_grammar.specs.Tree as t
use Rattle.fluent_grammar.specs.Tree.{Elements, Inline}
use Rattle.fluent_grammar.specs.Words.{Text, hyphen}
use Rattle.fluent_tidy_laws.specs.Joined.{lists}
use Rattle.lint_comparison.specs.Referred as r
use Rattle.lint_comparison.specs.Referred.{named_by, sources_ids}
use Rattle.lint_comparison.specs.declared.referred.Referred.{Referred}
use Rattle.lint_comparison.specs.declared.referred.Referred.TheVariants.{Functions, Terms}
use Rattle.lint_comparison.proofs.Lists.{flat_map-map}

-- literals name nothing
no_string : (what : Referred) (x : Text) → named_by what (t.string_literal x) ≡ []
no_string Functions x = refl
no_string Terms x = refl

no_number : (what : Referred) (x : Text) → named_by what (t.number_literal x) ≡ []
no_number Functions x = refl
no_number Terms x = refl

module _ (what : Referred) where
  abbrev named : Inline → List Text
  named = named_by what

  abbrev node_ids : Node → List Text
  node_ids = r.node_ids named

  abbrev pattern_ids : Elements → List Text
  pattern_ids = r.pattern_ids named

  abbrev value_ids : Option Elements → List Text
  value_ids = r.value_ids named

  abbrev attribute_ids : List t.Attribute → List Text
  attribute_ids = r.attribute_ids named

  abbrev entry_ids : t.Entry → List Text
  entry_ids = r.entry_ids named

  abbrev entries_ids : List t.Entry → List Text
  entries_ids = r.entries_ids named

  -- ---- a pattern

  in_nodes : (nodes : List Node) → flat_map node_ids nodes ≡ flat_map named (flat_map node_references nodes)
  in_nodes [] = refl
  in_nodes (n ∷ nodes) =
      ap (λ l. node_ids n ++ l) (in_nodes nodes) ∙ sym (flat_map-append named (node_references n) (flat_map node_references nodes))

  -- the nodes of a pattern name what the pattern names
  pub nodes_ids : (es : Elements) → flat_map node_ids (elements_nodes es) ≡ pattern_ids es
  nodes_ids es = in_nodes (elements_nodes es) ∙ by_references named (no_string what) (no_number what) (elements_nodes es) ∙ of_elements named (no_string what) (no_number what) es

  -- ---- an entry

  abbrev owned_ids : Owner × Elements → List Text
  owned_ids p = pattern_ids p.1

  in_attributes : (label : Text) (as' : List t.Attribute) → flat_map owned_ids (attribute_patterns label as') ≡ attribute_ids as'
  in_attributes label as' = flat_map-map (λ (a : t.Attribute). (record { label = label; attribute = Some a.id }, a.value)) owned_ids as'

  message_ids : (m : t.Message) → entry_ids (t.message m) ≡ value_ids m.value ++ attribute_ids m.attributes
  message_ids m =
      let owned : Elements → Owner × Elements = λ es. (record { label = m.id; attribute = None }, es) in
      flat_map-append owned_ids (map owned (option_to_list m.value)) (attribute_patterns m.id m.attributes)
      ∙ ap (λ l. l ++ flat_map owned_ids (attribute_patterns m.id m.attributes)) (flat_map-map owned owned_ids (option_to_list m.value))
      ∙ ap (λ l. value_ids m.value ++ l) (in_attributes m.id m.attributes)

  -- those of a message are added: of its value, and then of its attributes
  pub message_added : (e : t.Entry) (m : t.Message) (as' : List t.Attribute) → e ≡ t.message m → as' ≡ m.attributes → (x y z : List Text) → y ≡ x ++ value_ids m.value → z ≡ y ++ attribute_ids as' →
      z ≡ x ++ entry_ids e
  message_added e m as' is same x y z p q =
      q ∙ ap (λ l. l ++ attribute_ids as') p ∙ append_assoc x (value_ids m.value) (attribute_ids as')
      ∙ ap (λ l. x ++ (value_ids m.value ++ attribute_ids l)) same
      ∙ ap (λ l. x ++ l) (sym (ap entry_ids is ∙ message_ids m))

  pub term_added : (e : t.Entry) (m : t.Term) (as' : List t.Attribute) → e ≡ t.term m → as' ≡ m.attributes → (x y z : List Text) → y ≡ x ++ pattern_ids m.value → z ≡ y ++ attribute_ids as' →
      z ≡ x ++ entry_ids e
  term_added e m as' is same x y z p q =
      q ∙ ap (λ l. l ++ attribute_ids as') p ∙ append_assoc x (pattern_ids m.value) (attribute_ids as')
      ∙ ap (λ l. x ++ (pattern_ids m.value ++ attribute_ids l)) same
      ∙ ap (λ l. x ++ (pattern_ids m.value ++ l)) (sym (in_attributes (hyphen ∷ m.id) m.attributes))
      ∙ ap (λ l. x ++ l) (sym (ap entry_ids is))

  -- ---- sources

  in_list : (es : List t.Entry) → entries_ids (map uncommented es) ≡ entries_ids (listed es)
  in_list [] = refl
  in_list (t.message m ∷ es) = ap (λ l. entry_ids (t.message m) ++ l) (in_list es)
  in_list (t.term m ∷ es) = ap (λ l. entry_ids (t.term m) ++ l) (in_list es)
  in_list (t.comment c ∷ es) = in_list es
  in_list (t.group_comment c ∷ es) = in_list es
  in_list (t.resource_comment c ∷ es) = in_list es
  in_list (t.junk s ∷ es) = in_list es

  by_entries : (es : List t.Entry) → flat_map owned_ids (flat_map entry_patterns es) ≡ entries_ids es
  by_entries [] = refl
  by_entries (e ∷ es) = flat_map-append owned_ids (entry_patterns e) (flat_map entry_patterns es) ∙ ap (λ l. entry_ids e ++ l) (by_entries es)

  in_lists : (sources : List Text) → flat_map entries_ids (map (λ source. map uncommented (tree source)) sources) ≡ entries_ids (lists sources)
  in_lists [] = refl
  in_lists (source ∷ sources) =
      ap (λ l. l ++ flat_map entries_ids (map (λ s. map uncommented (tree s)) sources)) (in_list (tree source))
      ∙ ap (λ l. entries_ids (list source) ++ l) (in_lists sources)
      ∙ sym (flat_map-append entry_ids (list source) (lists sources))

  -- Trees without comments name what their sources name.
  pub sources_named : (sources : List Text) → flat_map entries_ids (map (λ source. map uncommented (tree source)) sources) ≡ sources_ids named sources
  sources_named sources = in_lists sources ∙ sym (by_entries (lists sources))
