-- What a message loses, and what is said of its texts, doesn't depend on its comment.
use Rattle.std.proofs.Common.{◌≡◌, List, [], ◌∷◌, ◌++◌, Option, Some, None, ap, ap₂, map, not, refl, ◌||◌}
use Rattle.std.specs.Prelude.{if◌then◌else◌, option_map}
use Rattle.std.specs.List.{list_any}
use Rattle.std.specs.Option.{option_or, option_to_list}
use Rattle.fluent_grammar.specs.Tree as t
use Rattle.fluent_grammar.specs.Words.{Text}
use Rattle.fluent_meaning.specs.Ids.{Ids, find}
use Rattle.fluent_plurals.specs.declared.plurals.LanguagePlurals.{LanguagePlurals}
use Rattle.lint_entries.specs.AttributePlaces.{uncommented}
use Rattle.lint_findings.specs.Comparison.{as_message}
use Rattle.lint_findings.specs.ComparisonFindings.{difference_findings, loss_finding, message_findings, texts_beside, texts_findings}
use Rattle.lint_findings.specs.Losses.{chooses_plural, counted, dropped_plural, dropped_plurals, first_plural, first_term, first_written, has_forms, if_shown, is_choice, is_term, is_written, lacking_variants, losses, losses_beside, message_nodes, plural_of, term_loss, term_texts, written_by, written_term}
use Rattle.lint_findings.specs.Occurrences.{entry_places}
use Rattle.lint_findings.specs.Pairs.{on_attribute, on_maybe}
use Rattle.lint_findings.specs.Nodes.{Node, expression, select, repeated_key}

module _ (m : t.Message) where
  abbrev bare : t.Message
  bare = record m { comment = None }

  -- ---- plural variants

  shown_same : (variable : Option Text) → if_shown m variable ≡ if_shown bare variable
  shown_same None = refl
  shown_same (Some v) = refl

  plural_same : (n : Node) → plural_of m n ≡ plural_of bare n
  plural_same (expression i) = refl
  plural_same (select i vs) = ap (λ found. if chooses_plural i vs then found else None) (shown_same (counted i))
  plural_same (repeated_key k) = refl

  plurals_same : (ns : List Node) → first_plural m ns ≡ first_plural bare ns
  plurals_same [] = refl
  plurals_same (n ∷ ns) = ap₂ option_or (plural_same n) (plurals_same ns)

  dropped_same : (plurals : Option LanguagePlurals) (nodes others : List Node) → dropped_plurals plurals m nodes others ≡ dropped_plurals plurals bare nodes others
  dropped_same None nodes others = refl
  dropped_same (Some p) nodes others =
      ap (λ found. map dropped_plural (option_to_list (if list_any is_choice nodes || not (has_forms p) then None else found))) (plurals_same others)

  -- ---- terms

  written_same : (o : t.Message) (texts : List Text) → first_written m o texts ≡ first_written bare o texts
  written_same o [] = refl
  written_same o (s ∷ texts) = ap (λ later. if is_written m o s then Some s else later) (written_same o texts)

  module _ (reference : Ids (Unit {0})) (o : t.Message) (nodes : List Node) where
    loss_same : (id : Text) → term_loss reference m o nodes id ≡ term_loss reference bare o nodes id
    loss_same id =
        ap (λ found. if list_any (is_term id) nodes then None else option_map (written_term id) found) (written_same o (term_texts (find reference id)))

    node_same : (n : Node) → written_by reference m o nodes n ≡ written_by reference bare o nodes n
    node_same (expression (t.string_literal x)) = refl
    node_same (expression (t.number_literal x)) = refl
    node_same (expression (t.function_reference id a)) = refl
    node_same (expression (t.message_reference id a)) = refl
    node_same (expression (t.term_reference id a c)) = loss_same id
    node_same (expression (t.variable_reference x)) = refl
    node_same (expression (t.nested e)) = refl
    node_same (select i vs) = refl
    node_same (repeated_key k) = refl

    term_same : (ns : List Node) → first_term reference m o nodes ns ≡ first_term reference bare o nodes ns
    term_same [] = refl
    term_same (n ∷ ns) = ap₂ option_or (node_same n) (term_same ns)

  -- ---- all

  module _ (reference : Ids (Unit {0})) (plurals : Option LanguagePlurals) where
    beside_same : (o : Option t.Message) → losses_beside reference plurals m o ≡ losses_beside reference plurals bare o
    beside_same None = refl
    beside_same (Some o) =
        let nodes = message_nodes m in
        let others = message_nodes o in
        ap₂ (λ dropped found. lacking_variants nodes others ++ (dropped ++ option_to_list found))
        (dropped_same plurals nodes others) (term_same reference o nodes others)

    losses_same : losses reference plurals m ≡ losses reference plurals bare
    losses_same = beside_same (as_message (find reference m.id))

  -- ---- texts

  on_texts_same : (o : t.Message) (as' : List t.Attribute) → map (on_attribute m o) as' ≡ map (on_attribute bare o) as'
  on_texts_same o [] = refl
  on_texts_same o (a ∷ as') = ap (λ later. on_attribute m o a ∷ later) (on_texts_same o as')

  texts_same : (source s : Text) (o : Option t.Message) → texts_beside source m s o ≡ texts_beside source bare s o
  texts_same source s None = refl
  texts_same source s (Some o) =
      ap (λ later. texts_findings source m.id (entry_places s) (on_maybe None m.value o.value ∷ later)) (on_texts_same o m.attributes)

-- nor does how it differs, nor what is said of its texts
pub without_comment : (ids reference : Ids (Unit {0})) (plurals : Option LanguagePlurals) (source s : Text) (m : t.Message)
    → message_findings ids reference plurals source (t.message m) s ≡ message_findings ids reference plurals source (uncommented (t.message m)) s
without_comment ids reference plurals source s m =
    ap₂ (λ found said. difference_findings ids reference source m s ++ (map (loss_finding source m.id s) found ++ said))
    (losses_same m reference plurals) (texts_same m source s (as_message (find reference m.id)))
