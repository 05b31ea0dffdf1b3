-- The answers to request lines from one source.
use Rattle.std.specs.Prelude.{[], ◌∷◌}
use Rattle.fluent_desk.specs.ForCallers.{answers_of}
use Rattle.fluent_desk.specs.declared.Settings.{Settings}
use Rattle.fluent_syntax.specs.ForCallers.{Text}
use Rattle.fluent_value.specs.declared.plurals.MemoizerKind.{Ghosts as PluralSource}

-- what is written for request lines, by a plural source and the settings
abbrev pub answers_from : {M : Type 0} (m : PluralSource M) → M → Settings → Text → Text → Text
answers_from m plurals settings source requests = answers_of m.category_of m.stringified plurals settings (source ∷ []) requests
