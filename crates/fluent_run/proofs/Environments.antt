-- What messages are formatted by is what the sources stand for.
use Rattle.std.proofs.Common.{◌≡◌, Bool, List, [], ◌∷◌, map, ap, ◌∙◌}
use denote.Ref.{Bor}
use Rattle.fluent_answers.specs.Answers.{line_from}
use Rattle.fluent_answers.specs.Sources.{environment_of, ids_of}
use Rattle.fluent_run.proofs.ResourceIds.{all_by_id-read}
use Rattle.fluent_grammar.specs.Tiling.{runtime_tree}
use Rattle.fluent_grammar.specs.Words.{Text}
use Rattle.fluent_meaning.specs.Ids.{Ids, number_pair, with_ids}
use Rattle.fluent_resource.specs.ResourceView.{entries_view}
use Rattle.fluent_resource.specs.declared.resource.FluentResource.{FluentResource}
use Rattle.fluent_run.specs.DeskView.{Gives, IsMadeOf, environment_by, environment_from, environment_in, gives_error, ids_added}
use Rattle.fluent_run.specs.RunView.{line_by, no_text, settings_view}
use Rattle.fluent_run.specs.declared.desk.Desk.{Desk}
use Rattle.fluent_run.specs.declared.settings.Settings.{Settings}
use Rattle.fluent_serve.specs.Texts.{texts}
use Rattle.fluent_text.specs.declared.stack.StackBudget.{StackBudget}
use Rattle.fluent_value.specs.Matching.{Plurals}
use Rattle.fluent_value.specs.declared.function.NoFunction.{NoFunction}

-- the ids of resources that were read are those of their sources
pub ids-read : {F : Type 0} (overriding : Bool) (resources : List FluentResource) (sources : List Text) → map entries_view resources ≡ map runtime_tree sources →
    ids_added {F = F} overriding resources ≡ ids_of overriding sources
ids-read overriding resources sources read = ap (with_ids overriding (number_pair ∷ [])) (all_by_id-read resources sources read)

module _ {M : Type 0} (category_of : M → Plurals) (stringified : M → (S : Type 0) → (S → Text) → S → Text) where
  -- what a desk is made of says what messages are formatted by
  pub environment-made : {F : Type 0} (gives : Gives F) (ids : Ids F) (resources : List FluentResource) (settings : Settings) (plurals : M) (budget : StackBudget) (desk : Desk M F) → IsMadeOf ids resources settings plurals budget desk →
      environment_by category_of stringified gives desk ≡ environment_from category_of stringified ids (settings_view settings) plurals gives
  environment-made gives ids resources settings plurals budget desk made =
      ap (λ x. environment_from category_of stringified x (settings_view desk.settings) desk.plurals.now gives) made.ids
      ∙ ap (λ x. environment_from category_of stringified ids (settings_view x) desk.plurals.now gives) made.settings
      ∙ ap (λ x. environment_from category_of stringified ids (settings_view settings) x gives) made.plurals

  -- and what was read of sources, that it is what the sources stand for
  pub desk-same : (desk : Desk M NoFunction) (plurals : M) (settings : Settings) (budget : StackBudget) (lent resources : List FluentResource) (sources : List (Bor Text)) →
      lent ≡ resources → map entries_view resources ≡ map runtime_tree (texts sources) → IsMadeOf (ids_added settings.overriding lent) lent settings plurals budget desk →
      environment_in category_of stringified desk ≡ environment_of (category_of plurals) (stringified plurals (Unit {0}) no_text) (settings_view settings) (texts sources)
  desk-same desk plurals settings budget lent resources sources these read made =
      environment-made gives_error (ids_added settings.overriding lent) lent settings plurals budget desk made
      ∙ ap (λ x. environment_from category_of stringified x (settings_view settings) plurals gives_error)
      (ap (ids_added settings.overriding) these ∙ ids-read settings.overriding resources (texts sources) read)

  -- so each line is answered as it must be
  pub line-same : (desk : Desk M NoFunction) (plurals : M) (settings : Settings) (budget : StackBudget) (lent resources : List FluentResource) (sources : List (Bor Text)) →
      lent ≡ resources → map entries_view resources ≡ map runtime_tree (texts sources) → IsMadeOf (ids_added settings.overriding lent) lent settings plurals budget desk →
      (line : Text) → line_from (environment_in category_of stringified desk) line ≡ line_by category_of stringified plurals settings sources line
  line-same desk plurals settings budget lent resources sources these read made line =
      ap (λ env. line_from env line) (desk-same desk plurals settings budget lent resources sources these read made)
