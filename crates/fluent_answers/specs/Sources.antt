-- What sources stand for when they are asked.
use Rattle.std.specs.Prelude.{Bool, List, [], ◌∷◌, Option, Some, None}
use Rattle.fluent_grammar.specs.Words.{Text}
use Rattle.fluent_tidy_laws.specs.Joined.{lists}
use Rattle.fluent_errors.specs.Errors.{Reported}
use Rattle.fluent_value.specs.Matching.{Plurals}
use Rattle.fluent_value.specs.Value.{Value, error}
use Rattle.fluent_numerals.specs.Lookup.{Locale}
use Rattle.fluent_numerals.specs.Text.{value_text}
use Rattle.fluent_meaning.specs.Environment.{Environment}
use Rattle.fluent_meaning.specs.Ids.{Ids, find, with_ids, notices, number_pair, entries_by_id}

-- how answers are made
pub record Settings : Type 0 where
  -- whether the values of placeables stand between isolation marks
  pub isolating : Bool
  -- whether the last entry of an id counts, and not the first
  pub overriding : Bool
  -- the locale whose numbers are written, if they aren't written plainly
  pub numerals : Option Locale

-- the text that a locale has for a value, if there is one and it has
abbrev pub formatted_in : {S : Type 0} → Option Locale → Value S → Option Text
formatted_in None v = None
formatted_in (Some locale) v = value_text locale v

-- the ids of sources: `NUMBER` stands first, then their messages and terms come, one source after the other
abbrev pub ids_of : {F : Type 0} → Bool → List Text → Ids F
ids_of overriding sources = with_ids overriding (number_pair ∷ []) (entries_by_id (lists sources))

-- the notices of entries whose id was there, if the first entry of an id counts
abbrev pub notices_of : Type 0 → List Text → List Reported
notices_of F sources = notices {F = F} (number_pair ∷ []) (entries_by_id (lists sources))

-- What stays the same while the sources are asked: no functions but `NUMBER`, no transform, and no formatter but that of a locale's
-- numbers. `plurals` and `shown` are those of the plural source.
abbrev pub environment_of : {S F : Type 0} → Plurals → (S → Text) → Settings → List Text → Environment S F
environment_of plurals shown settings sources = record {
  find = find (ids_of settings.overriding sources);
  call = λ f values pairs. error;
  isolating = settings.isolating;
  transformed = λ s. s;
  formatted = formatted_in settings.numerals;
  plurals = plurals;
  shown = shown;
}
