use Rattle.std.proofs.Common.{◌≡◌, drop}
use Rattle.std.specs.Prelude.{map, string_bytes}
use Rattle.fluent_plurals.specs.Plurals.{plurals_of}
use Rattle.fluent_plurals.proofs.plurals.LanguagePlurals.of_locales.Given as goal

-- none of the locales before this one has rules
abbrev pub invariant-loop-locale : goal.invariant-loop-locale
invariant-loop-locale l = plurals_of (map string_bytes (drop l.locale-index l.locales)) ≡ plurals_of (map string_bytes l.locales)
