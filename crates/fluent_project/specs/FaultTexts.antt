-- What is wrong with the file of a project, in words.
use Rattle.std.specs.Prelude.{◌≡◌, ◌++◌, [], Option, Some, None, String, codes, string_bytes}
use Rattle.std.specs.Global.{Global}
use Rattle.fluent_project.specs.Patterns.{Text}
use Rattle.fluent_project.specs.declared.faults.FaultKind.{FaultKind}
use Rattle.fluent_project.specs.declared.faults.FaultKind.TheVariants as is
use Rattle.fluent_project.specs.Places.{Place, top, inside}

abbrev pub key_in : Place → Text
key_in (top key) = key
key_in (inside name index key) = key

-- what is said of the key in quotation marks
abbrev pub of_key : Text → Text → Text
of_key key said = codes "`" ++ (key ++ (codes "`" ++ said))

-- what the file, or a table, has to do with the key
abbrev pub of_file : Text → Text → Text
of_file said key = codes "the file " ++ (said ++ (codes " `" ++ (key ++ codes "`")))

abbrev pub of_tables : Text → Text → Text → Text
of_tables name said key = codes "[[" ++ (name ++ (codes "]] " ++ (said ++ (codes " `" ++ (key ++ codes "`")))))

abbrev pub of_table : Text → Place → Text
of_table said (top key) = of_file said key
of_table said (inside name index key) = of_tables name said key

-- what is said of a key alone
abbrev pub said_of : FaultKind → Option Text
said_of is.NoText = Some (codes " is no text, or an empty one")
said_of is.NoTexts = Some (codes " is neither a text nor a list of texts")
said_of is.NoLanguages = Some (codes " is no list of different languages")
said_of is.NoList = Some (codes " is no list of texts")
said_of is.NoAction = Some (codes " is none of ignore, warning and error")
said_of is.NoTable = None
said_of is.NoTables = None
said_of is.Missing = None
said_of is.Unknown = None
said_of is.NoVariable = Some (codes " holds a variable that isn't in [env]")
said_of is.HoldsItself = None
said_of is.HasWildcard = None
said_of is.OtherWildcards = None
said_of is.LocaleInReference = None
said_of is.NoLocale = None
said_of is.NoExpression = Some (codes " is no regular expression")
said_of is.NoPath = Some (codes " is no path of one file")

-- what a variable does
abbrev pub of_variable : Text → Text → Text
of_variable key what = codes "the variable `" ++ (key ++ (codes "` " ++ what))

-- what is wrong with the patterns of a table
abbrev pub patterns_text : FaultKind → Text
patterns_text is.OtherWildcards = codes "the wildcards of `reference` and `l10n` differ"
patterns_text is.LocaleInReference = codes "`reference` holds {locale}"
patterns_text is.NoLocale = codes "`l10n` lacks {locale}, and `locales` isn't of one language"
patterns_text _ = []

-- what is said of more than a key
abbrev pub other_text : Place → FaultKind → Text
other_text place is.NoTable = of_key (key_in place) (codes " is no table: [" ++ (key_in place ++ codes "]"))
other_text place is.NoTables = of_key (key_in place) (codes " is written as [[" ++ (key_in place ++ codes "]]"))
other_text place is.Missing = of_table (codes "lacks") place
other_text place is.Unknown = of_table (codes "takes no") place
other_text place is.HoldsItself = of_variable (key_in place) (codes "holds itself")
other_text place is.HasWildcard = of_variable (key_in place) (codes "holds a wildcard")
other_text place kind = patterns_text kind

abbrev pub said_or : Place → FaultKind → Option Text → Text
said_or place kind (Some said) = of_key (key_in place) said
said_or place kind None = other_text place kind

abbrev pub fault_text : Place → FaultKind → Text
fault_text place kind = said_or place kind (said_of kind)

abbrev pub Appends : String Global → String Global → Text → Type 0
Appends old new more = string_bytes new ≡ string_bytes old ++ more
