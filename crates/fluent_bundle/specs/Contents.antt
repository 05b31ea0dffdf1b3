-- What a bundle holds.
use Rattle.std.specs.Prelude.{◌≡◌, Bool, false, true, List, [], Option, None, String, is_some, map, string_bytes}
use Rattle.std.specs.Global.{Global, Vec}
use Rattle.fluent_grammar.specs.Words.{Text}
use Rattle.fluent_meaning.specs.Ids.{Ids}
use Rattle.fluent_numerals.specs.Lookup.{Locale}
use Rattle.fluent_value.specs.declared.plurals.EnglishPlurals.{EnglishPlurals}

-- the bytes of the texts of a list
abbrev pub texts_of : Vec (String Global) → List Text
texts_of texts = map string_bytes texts.items

-- M is the plural source, F a function of the program, G a formatter and T a transform.
pub record Contents (M F G T : Type 0) : Type 0 where
  -- what ids stand for
  pub ids : Ids F
  pub locales : List Text
  pub plurals : M
  -- whether isolation is on
  pub isolating : Bool
  pub transform : Option T
  pub formatter : Option G

-- a new bundle: no ids, isolation, no transform and no formatter
abbrev pub empty : {M F G T : Type 0} → List Text → M → Contents M F G T
empty locales plurals = record { ids = []; locales = locales; plurals = plurals; isolating = true; transform = None; formatter = None }

-- a new bundle that shows numbers as a locale does, if there is one
abbrev pub localized : {M F T : Type 0} → Option Locale → List Text → M → Contents M F Locale T
localized locale locales plurals =
    record { ids = []; locales = locales; plurals = plurals; isolating = true; transform = None; formatter = locale }

-- nothing is set that texts go through
abbrev pub ShowsAsIs : {M F G T : Type 0} → Contents M F G T → Type 0
ShowsAsIs bundle = (is_some bundle.transform ≡ false) × (is_some bundle.formatter ≡ false)

-- the plural source of English
abbrev pub english_plurals : EnglishPlurals
english_plurals = record {}
