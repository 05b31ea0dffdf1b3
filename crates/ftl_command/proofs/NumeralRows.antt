-- Which numbers a run writes, by computing.
use Rattle.std.specs.Prelude.{◌≡◌, refl, Bool, true, false, Option, Some, None}
use Rattle.fluent_answers.specs.Sources.{formatted_in}
use Rattle.fluent_numerals.specs.Lookup.{locale_for}
use Rattle.fluent_serve.specs.Text.{Text}
use Rattle.fluent_value.specs.Value.{Value}
use Rattle.ftl_command.specs.Plurals.{numerals_asked, rules_asked}
use Rattle.ftl_command.specs.declared.plurals.RunPlurals.TheVariants.{English}

-- without a locale the rules are those of English, and there are no numbers of a locale
without_a_locale : (plain : Bool) → rules_asked plain None ≡ Some (record { plurals = English; numerals = None })
without_a_locale true = refl
without_a_locale false = refl

-- then no value has a text of its own
nothing_formatted : {S : Type 0} (v : Value S) → formatted_in None v ≡ None
nothing_formatted v = refl

plain_numbers : (locale : Option Text) → numerals_asked true locale ≡ None
plain_numbers locale = refl

numbers_of_the_locale : (tag : Text) → numerals_asked false (Some tag) ≡ locale_for tag
numbers_of_the_locale tag = refl
