-- The findings of a pattern are those of its references and those of its occurrences.
use Rattle.std.proofs.Common.{◌≡◌, ◌∙◌, Bool, if◌then◌else◌, List, [], ◌∷◌, ◌++◌, Option, Some, None, option_map, refl, sym, ap, append_assoc}
use Rattle.std.specs.Prelude.{is_some}
use Rattle.std.specs.List.{flat_map}
use Rattle.fluent_grammar.specs.Words.{Text}
use Rattle.fluent_grammar.specs.Refusal.{got}
use Rattle.fluent_grammar.specs.Tree.{Elements}
use Rattle.fluent_meaning.specs.Ids.{Ids}
use Rattle.fluent_plurals.specs.declared.plurals.LanguagePlurals.{LanguagePlurals}
use Rattle.fluent_errors.specs.Errors.{cyclic}
use Rattle.lint_findings.specs.Flaws.{unresolved}
use Rattle.lint_findings.specs.FlawWords.{flaw_words}
use Rattle.lint_findings.specs.EntryFindings.{finding_in, node_findings, nodes_findings, letters_findings, pattern_findings}
use Rattle.lint_findings.specs.Finding.{Finding}
use Rattle.lint_findings.specs.FlawHints.{never_ends, endless_hint}
use Rattle.lint_findings.specs.Nodes.{Node, elements_nodes}
use Rattle.lint_findings.specs.Occurrences.{Occurrence, occurrences, pattern_read}
use Rattle.lint_findings.specs.PlaceLaws.{nodes}
use Rattle.lint_findings.specs.References.{elements_references}
use Rattle.lint_findings.proofs.OccurrencesAreTheNodes.{occurrences_are_the_nodes}
use Rattle.lint_entries.specs.FirstEndless.{first_entered, endless_at}
use Rattle.lint_entries.proofs.FirstIsHint.{goes, never_ends_by, hint_by}

module _ (ids reference : Ids (Unit {0})) (plurals : Option LanguagePlurals) (source owner name : Text) where
  abbrev with_hint : Option Text → Finding
  with_hint hint = finding_in source owner name (record (flaw_words (unresolved cyclic)) { hint = hint })

  ends_part : (b : Bool) (hint first : Option Text) → b ≡ is_some first → hint ≡ option_map (goes ids) first → (if b then with_hint hint ∷ [] else []) ≡ endless_at source owner name first
  ends_part b hint None e h = ap (λ x. if x then with_hint hint ∷ [] else []) e
  ends_part b hint (Some r) e h = ap (λ x. if x then with_hint hint ∷ [] else []) e ∙ ap (λ x. with_hint x ∷ []) h

  abbrev of_occurrence : Occurrence → List Finding
  of_occurrence o = node_findings ids reference plurals source owner o.at o.node

  nodes_part : (at : Text) (os : List Occurrence) → nodes_findings ids reference plurals source owner at (nodes os) os ≡ flat_map of_occurrence os
  nodes_part at [] = refl
  nodes_part at (o ∷ os) = ap (λ xs. of_occurrence o ++ xs) (nodes_part at os)

  module _ (es : Elements) where
    references_and_nodes : Text → List Finding
    references_and_nodes s =
        (if never_ends ids es then with_hint (endless_hint ids (elements_references es)) ∷ [] else []) ++ nodes_findings ids reference plurals source owner s (elements_nodes es) (occurrences s)

    -- of lists to which first the finding of the references, and then those of the occurrences are added
    nodes_added : (s rest : Text) → pattern_read s ≡ got es rest → (other : Ids (Unit {0})) → other ≡ ids → (os : List Occurrence) → os ≡ occurrences s → (ns : List Node) → ns ≡ nodes os → (x y z : List Finding) →
        y ≡ x ++ endless_at source owner name (first_entered other ns) → z ≡ y ++ flat_map of_occurrence os →
        z ≡ x ++ references_and_nodes s
    unfolding references_and_nodes
    nodes_added s rest read other same os there ns are x y z first later =
        let first_is : first_entered other ns ≡ first_entered ids (elements_nodes es) = ap (λ i. first_entered i ns) same ∙ ap (first_entered ids) (are ∙ ap nodes there ∙ occurrences_are_the_nodes s es rest read) in
        let ends : endless_at source owner name (first_entered other ns) ≡ (if never_ends ids es then with_hint (endless_hint ids (elements_references es)) ∷ [] else []) =
        ap (endless_at source owner name) first_is ∙ sym (ends_part (never_ends ids es) (endless_hint ids (elements_references es)) (first_entered ids (elements_nodes es)) (never_ends_by ids es) (hint_by ids es)) in
        let found : flat_map of_occurrence os ≡ nodes_findings ids reference plurals source owner s (elements_nodes es) (occurrences s) =
        ap (flat_map of_occurrence) there ∙ sym (nodes_part s (occurrences s)) ∙ ap (λ n. nodes_findings ids reference plurals source owner s n (occurrences s)) (occurrences_are_the_nodes s es rest read) in
        later ∙ ap (λ w. w ++ flat_map of_occurrence os) first ∙ append_assoc x (endless_at source owner name (first_entered other ns)) (flat_map of_occurrence os)
        ∙ ap (λ w. x ++ (w ++ flat_map of_occurrence os)) ends ∙ ap (λ w. x ++ ((if never_ends ids es then with_hint (endless_hint ids (elements_references es)) ∷ [] else []) ++ w)) found

    -- and then those of the characters
    pub pattern_added : (s rest : Text) → pattern_read s ≡ got es rest → (attribute : Option Text) (other : Ids (Unit {0})) → other ≡ ids → (os : List Occurrence) → os ≡ occurrences s → (ns : List Node) → ns ≡ nodes os → (x y z w : List Finding) →
        y ≡ x ++ endless_at source owner name (first_entered other ns) → z ≡ y ++ flat_map of_occurrence os → w ≡ z ++ letters_findings ids reference plurals source owner s →
        w ≡ x ++ pattern_findings ids reference plurals source owner (record { attribute = attribute; name_at = name; pattern_at = s }) es
    unfolding references_and_nodes
    pattern_added s rest read attribute other same os there ns are x y z w first later last =
        let ls = letters_findings ids reference plurals source owner s in
        let ends = if never_ends ids es then with_hint (endless_hint ids (elements_references es)) ∷ [] else [] in
        let found = nodes_findings ids reference plurals source owner s (elements_nodes es) (occurrences s) in
        last ∙ ap (λ u. u ++ ls) (nodes_added s rest read other same os there ns are x y z first later)
        ∙ append_assoc x (ends ++ found) ls ∙ ap (λ u. x ++ u) (append_assoc ends found ls)
