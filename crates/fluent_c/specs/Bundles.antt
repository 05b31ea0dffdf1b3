-- What C learns of a bundle that it keeps.
use Rattle.std.specs.Prelude.{◌≡◌, ◌⊎◌, ℕ, Bool, true, false, List, [], ◌∷◌, Option, Some, None, IsNone, IsSome, IsSomeAnd, IsUtf8, map, option_and_then, option_copied, option_map, String, Vec, string_bytes, vec_items}
use Rattle.std.specs.List.{flat_map}
use Rattle.std.specs.declared.alloc.Global.{Global}
use denote.Ref.{Bor}
use Rattle.fluent_answers.specs.Answers.{pattern_asked, reply_to}
use Rattle.fluent_date_tables.specs.Tables.{Row}
use Rattle.fluent_dates.specs.Lookup as dates
use Rattle.fluent_grammar.specs.Tree.{Elements}
use Rattle.fluent_grammar.specs.Words.{Text}
use Rattle.fluent_ids.specs.Found.{message_in}
use Rattle.fluent_kept.specs.Catalogs.{Catalog, catalog_environment}
use Rattle.fluent_kept.specs.declared.handle.FluentBundle.{FluentBundle}
use Rattle.fluent_answers.specs.Sources.{Settings}
use Rattle.fluent_numerals.specs.Lookup.{locale_for}
use Rattle.fluent_serve.specs.Frames.{Reply, ended}
use Rattle.fluent_c.specs.Answering.{plurals_in, settings_of, texts_of}
use Rattle.fluent_c.specs.Arguments.{AreRefusedFor}
use Rattle.fluent_kept.specs.Given.{pair_of}
use Rattle.fluent_c.specs.Made.{Holds, HoldsNone}
use Rattle.fluent_c.specs.declared.answering.FluentSource.{FluentSource}
use Rattle.fluent_c.specs.declared.bundles.Asking.{Asking}
use Rattle.fluent_c.specs.declared.arguments.ArgumentRefusal.TheVariants.{NotUtf8}
use Rattle.fluent_kept.specs.declared.given.FluentArgument.{FluentArgument}
use Rattle.fluent_c.specs.declared.text.FluentText.{FluentText}

-- what a bundle is made of, if the locale has plural rules
abbrev pub catalog_in : Option (List Text) → Settings → Option Row → ℕ → Text → List Text → Option Catalog
catalog_in functions settings dates stack locale sources = option_map
    (λ plurals. record { settings = settings; plurals = plurals; sources = sources; stack = stack; dates = dates; functions = functions })
    (plurals_in locale)

-- the names of functions, if there are any
abbrev pub names_in : Option (Vec (String Global) Global) → Option (List Text)
names_in functions = option_map (λ names. map string_bytes (vec_items names)) functions

-- how a bundle is asked: numbers are written as the locale of a tag writes them, and plainly without one
abbrev pub settings_asked : Option (Bor Text) → Asking → Settings
settings_asked tag asking = settings_of (option_and_then locale_for (option_copied tag)) asking.isolating asking.overriding

-- what dates are written by: the locale of a tag, if there is one
abbrev pub dates_asked : Option (Bor Text) → Option Row
dates_asked tag = option_and_then dates.locale_for (option_copied tag)

-- there is a bundle, of this catalog
abbrev pub Keeps : FluentBundle → Catalog → Type 0
Keeps bundle catalog = (bundle.held ≡ true) × (bundle.catalog ≡ catalog)

-- there is a bundle of these sources, for a locale that has plural rules, with these settings, dates and so many bytes of the machine's
-- stack, whose messages may call functions of these names, if there are any
abbrev pub KeepsWith : Option (List Text) → Settings → Option Row → ℕ → Text → List FluentSource → FluentBundle → Type 0
KeepsWith functions settings dates stack locale sources bundle =
    IsSomeAnd (catalog_in functions settings dates stack locale (texts_of sources)) (Keeps bundle)

-- the same by the code's values
abbrev pub KeepsAsked : Option (Vec (String Global) Global) → Option (Bor Text) → Asking → Text → List FluentSource → FluentBundle → Type 0
KeepsAsked functions tag asking = KeepsWith (names_in functions) (settings_asked tag asking) (dates_asked tag) asking.stack.bytes

-- the same without functions
abbrev pub KeepsBy : Settings → Option Row → ℕ → Text → List FluentSource → FluentBundle → Type 0
KeepsBy = KeepsWith None

-- it writes numbers and dates as the locale writes them, and plainly if CLDR doesn't say how
abbrev pub KeepsSources : Text → Bool → Bool → ℕ → List FluentSource → FluentBundle → Type 0
KeepsSources locale isolating overriding stack = KeepsBy (settings_of (locale_for locale) isolating overriding) (dates.locale_for locale) stack locale

-- it writes them plainly
abbrev pub KeepsPlain : Text → Bool → Bool → ℕ → List FluentSource → FluentBundle → Type 0
KeepsPlain locale isolating overriding stack = KeepsBy (settings_of None isolating overriding) None stack locale

-- how many bytes of the machine's stack a call takes that isn't told: 1.5 MB
abbrev pub thread_stack : ℕ
thread_stack = 1572864

-- there is no bundle
abbrev pub KeepsNone : FluentBundle → Type 0
KeepsNone bundle = bundle.held ≡ false

-- one bundle keeps what another keeps
abbrev pub KeepsSame : FluentBundle → FluentBundle → Type 0
KeepsSame now before = (now.held ≡ before.held) × (before.held ≡ true → now.catalog ≡ before.catalog)

-- a line for each of these, or no text if there are none
abbrev pub HoldsLines : FluentText → List Text → Type 0
HoldsLines made [] = HoldsNone made
HoldsLines made (line ∷ lines) = Holds made (flat_map ended (line ∷ lines))

-- a reply's text, and a line for each of its errors
abbrev pub HoldReply : FluentText → FluentText → Reply → Type 0
HoldReply made errors reply = Holds made reply.text × HoldsLines errors reply.errors

-- an attribute's name, and no attribute for the empty name
abbrev pub attribute_in : Text → Option Text
attribute_in [] = None
attribute_in (byte ∷ name) = Some (byte ∷ name)

-- the pattern that is asked for: a message's value, or its first attribute of the name
abbrev pub pattern_in : FluentBundle → Text → Text → Option Elements
pattern_in bundle id attribute = pattern_asked (attribute_in attribute) ((catalog_environment bundle.catalog).find id)

-- what a bundle replies to a request
abbrev pub reply_in : FluentBundle → Text → Text → List FluentArgument → Option Reply
reply_in bundle id attribute arguments =
    reply_to (catalog_environment bundle.catalog) (record { id = id; attribute = attribute_in attribute; arguments = map pair_of arguments })

-- texts hold such a reply
abbrev pub Replies : FluentBundle → Text → Text → List FluentArgument → FluentText → FluentText → Type 0
Replies bundle id attribute arguments made errors = IsSomeAnd (reply_in bundle id attribute arguments) (HoldReply made errors)

-- there is no message of the id
abbrev pub HasNoMessage : FluentBundle → Text → Type 0
HasNoMessage bundle id = IsNone (message_in ((catalog_environment bundle.catalog).find id))

-- there is, and it has no value, or no attribute of the name
abbrev pub HasNoPattern : FluentBundle → Text → Text → Type 0
HasNoPattern bundle id attribute =
    IsSome (message_in ((catalog_environment bundle.catalog).find id)) × IsNone (pattern_in bundle id attribute)

-- the id and the attribute's name are UTF-8
abbrev pub AreNames : Text → Text → Type 0
AreNames id attribute = IsUtf8 id × IsUtf8 attribute

-- they are, and this is what was read of them
abbrev pub AreNamed : Text → Text → Bor Text × Option (Bor Text) → Type 0
AreNamed id attribute named = AreNames id attribute × (named.0.now ≡ id) × (option_copied named.1 ≡ attribute_in attribute)

-- one of the two isn't UTF-8, or the name or the text of an argument isn't
abbrev pub HasOther : Text → Text → List FluentArgument → Type 0
HasOther id attribute arguments = (¬ (AreNames id attribute)) ⊎ AreRefusedFor arguments NotUtf8
