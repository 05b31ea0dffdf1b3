use Rattle.std.proofs.Common.{◌∙◌, ap, sym, subst}
use Rattle.std.specs.Prelude.{List, IsSomeAnd, map, option_and_then, option_map, string_bytes}
use Rattle.fluent_dates.specs.Lookup as dates
use Rattle.fluent_grammar.specs.Words.{Text}
use Rattle.fluent_kept.specs.Catalogs.{Catalog}
use Rattle.fluent_plurals.specs.declared.plurals.LanguagePlurals.{LanguagePlurals}
use Rattle.fluent_serve.specs.Texts.{texts}
use Rattle.fluent_numerals.specs.Lookup.{locale_for}
use Rattle.fluent_c.specs.Answering.{settings_of, texts_of}
use Rattle.fluent_c.specs.Bundles.{Keeps, dates_asked, names_in, settings_asked}
use Rattle.fluent_c.proofs.bundles.kept.Goals as goal

pub returns-clause-kept : goal.returns-clause-kept
returns-clause-kept c =
    let catalog : LanguagePlurals → List Text → Catalog = λ plurals sources. record { settings = settings_asked c.args.numerals c.args.asking; plurals = plurals; sources = sources; stack = c.args.asking.stack.bytes; dates = dates_asked c.args.numerals; functions = names_in c.args.functions } in
    let same = c.in_ok-texts.ensures ∙ ap texts c.deref.ensures.value ∙ c.in_ok-borrowed.ensures.read in
    let made = ap (λ tag. record { settings = settings_of (option_and_then locale_for tag) c.args.asking.isolating c.args.asking.overriding; plurals = c.in-Some.plurals; sources = map string_bytes c.in_ok-texts.texts.items; stack = c.args.asking.stack.bytes; dates = option_and_then dates.locale_for tag; functions = names_in c.args.functions }) c.in_ok-numerals.ensures in
    let known = sym c.in-Some.is ∙ c.plurals_of.ensures in
    subst (λ found. IsSomeAnd (option_map (λ plurals. catalog plurals (texts_of c.args.sources.now)) found) (Keeps c.in_ok-new.field-0))
    known (c.in_ok-new.ensures.0, c.in_ok-new.ensures.1 ∙ (made ∙ ap (catalog c.in-Some.plurals) same))
