-- What C learns of what a bundle has.
use Rattle.std.specs.Prelude.{◌≡◌, ◌≢◌, ℕ, true, [], ◌∷◌, Option, IsUtf8}
use Rattle.fluent_grammar.specs.Words.{Text}
use Rattle.fluent_ids.specs.Found.{message_in}
use Rattle.fluent_kept.specs.Catalogs.{catalog_entries, catalog_environment, catalog_ids}
use Rattle.fluent_kept.specs.Variables.{variable_lines}
use Rattle.fluent_kept.specs.declared.handle.FluentBundle.{FluentBundle}
use Rattle.fluent_run.specs.Listing.{attribute_lines, message_lines}
use Rattle.fluent_c.specs.Bundles.{HasNoMessage, KeepsNone}
use Rattle.fluent_c.specs.Statuses.{IsOneOf}
use Rattle.fluent_c.specs.declared.TheConstants.{FLUENT_READ, FLUENT_NOT_UTF8, FLUENT_NO_MEMORY, FLUENT_NO_MESSAGE, FLUENT_NO_BUNDLE}

-- a line for each message of a bundle: its id, in the order of the first entries of the ids in the sources
abbrev pub messages_in : FluentBundle → Text
messages_in bundle = message_lines (catalog_environment bundle.catalog).find (catalog_entries bundle.catalog)

-- a line for each attribute of a message, if there is one of the id
abbrev pub attributes_in : FluentBundle → Text → Option Text
attributes_in bundle id = attribute_lines (message_in ((catalog_environment bundle.catalog).find id))

-- a line for each variable that a message is shown with, if there is one of the id
abbrev pub variables_in : FluentBundle → Text → Option Text
variables_in bundle id = variable_lines (catalog_ids bundle.catalog) id

-- what a call returns that lists the messages of a bundle
pub record ListsMessages (bundle : FluentBundle) (status : ℕ) : Type 0 where
  pub decided : IsOneOf status (FLUENT_READ ∷ FLUENT_NO_MEMORY ∷ FLUENT_NO_BUNDLE ∷ [])
  pub no_bundle : status ≡ FLUENT_NO_BUNDLE → KeepsNone bundle
  pub held : status ≢ FLUENT_NO_BUNDLE → bundle.held ≡ true

-- what a call returns that lists what a message has
pub record ListsOfMessage (bundle : FluentBundle) (id : Text) (status : ℕ) : Type 0 where
  pub decided : IsOneOf status (FLUENT_READ ∷ FLUENT_NOT_UTF8 ∷ FLUENT_NO_MEMORY ∷ FLUENT_NO_MESSAGE ∷ FLUENT_NO_BUNDLE ∷ [])
  pub not_utf8 : status ≡ FLUENT_NOT_UTF8 → ¬ (IsUtf8 id)
  pub utf8 : status ≢ FLUENT_NOT_UTF8 → IsUtf8 id
  pub no_message : status ≡ FLUENT_NO_MESSAGE → HasNoMessage bundle id
  pub no_bundle : status ≡ FLUENT_NO_BUNDLE → KeepsNone bundle
  pub held : IsOneOf status (FLUENT_READ ∷ FLUENT_NO_MEMORY ∷ FLUENT_NO_MESSAGE ∷ []) → bundle.held ≡ true
