-- What a bundle is to contracts.
use Rattle.std.specs.Prelude.{◌≡◌, Option, map, option_copied, option_map, string_bytes}
use denote.Ref.{Bor}
use Rattle.fluent_grammar.specs.Words.{Text}
use Rattle.fluent_ast.specs.declared.Pattern.{Pattern}
use Rattle.fluent_value.specs.declared.args.FluentArgs.{FluentArgs}
use Rattle.fluent_value.specs.declared.custom.FluentType.{Ghosts as Custom}
use Rattle.fluent_value.specs.declared.formatter.ValueFormatter.{Ghosts as Formatter}
use Rattle.fluent_value.specs.declared.function.FluentFunction.{Ghosts as Function}
use Rattle.fluent_value.specs.declared.plurals.MemoizerKind.{Ghosts as PluralSource}
use Rattle.fluent_numerals.specs.Lookup.{Locale}
use Rattle.fluent_numerals.specs.Views.{locale_view}
use Rattle.fluent_numerals.specs.declared.numerals.LocaleNumerals.{LocaleNumerals}
use Rattle.fluent_meaning.specs.Environment as plain
use Rattle.fluent_meaning.specs.Ids.{find}
use Rattle.fluent_meaning.specs.Steps.{Done}
use Rattle.fluent_ids.specs.IdsView.{ids_view}
use Rattle.fluent_ids.specs.Settings.{formatted_by, transformed_by}
use Rattle.fluent_resolver.specs.Asked.{asked, handed}
use Rattle.fluent_progress.specs.declared.lent.BorrowedSettings.{BorrowedSettings}
use Rattle.fluent_bundle.specs.Contents.{Contents}
use Rattle.fluent_bundle.specs.declared.bundle.FluentBundle.{FluentBundle}

-- M is the plural source, C the program's own type of values and S what these mean, F the type of its functions, G that of its
-- formatter and T that of its transform.
module _ {M C F G T S : Type 0} {m : PluralSource M} {c : Custom C S} {f : Function F C S} {g : Formatter G C M S} where
  -- what a bundle holds
  abbrev pub bundle_of : FluentBundle M C F G T S m c f g → Contents M F G T
  bundle_of bundle = record {
    ids = ids_view F bundle.ids;
    locales = map string_bytes bundle.locales.items;
    plurals = bundle.plurals;
    isolating = bundle.isolating;
    transform = bundle.transform;
    formatter = bundle.formatter;
  }

  -- what patterns are resolved in
  abbrev pub environment_of : (T → Text → Text) → FluentBundle M C F G T S m c f g → plain.Environment S F
  environment_of t bundle = let held = bundle_of bundle in record {
    find = find held.ids;
    call = f.gives;
    isolating = held.isolating;
    transformed = transformed_by t held.transform;
    formatted = formatted_by g.formats held.plurals held.formatter;
    plurals = m.category_of held.plurals;
    shown = m.stringified held.plurals S c.text;
  }

  -- what a pattern writes for these arguments, or for none
  abbrev pub answer : (T → Text → Text) → FluentBundle M C F G T S m c f g → Option (Bor (FluentArgs C)) → Pattern (Bor Text) → Done Text
  answer t bundle args pattern = asked c.meaning (environment_of t bundle) args pattern

  -- what of it is returned: the complete text as a value is shown
  abbrev pub handout : (T → Text → Text) → FluentBundle M C F G T S m c f g → Option (Bor (FluentArgs C)) → Pattern (Bor Text) → Done Text
  handout t bundle args pattern = handed c.meaning (environment_of t bundle) args pattern

-- what a bundle holds that shows numbers as a locale does
module _ {M C F T S : Type 0} {m : PluralSource M} {c : Custom C S} {f : Function F C S} {g : Formatter LocaleNumerals C M S} where
  abbrev pub localized_view : FluentBundle M C F LocaleNumerals T S m c f g → Contents M F Locale T
  localized_view bundle = let held = bundle_of bundle in record {
    ids = held.ids;
    locales = held.locales;
    plurals = held.plurals;
    isolating = held.isolating;
    transform = held.transform;
    formatter = option_map locale_view held.formatter;
  }

-- what a bundle holds is lent
pub record IsLent {M F G T : Type 0} (held : Contents M F G T) (lent : BorrowedSettings M G T) : Type 0 where
  pub plurals : lent.plurals.now ≡ held.plurals
  pub isolating : lent.isolating ≡ held.isolating
  pub transform : option_copied lent.transform ≡ held.transform
  pub formatter : option_copied lent.formatter ≡ held.formatter
