-- What is said of a node, as code has it.
use Rattle.std.specs.Prelude.{◌≡◌, ℕ, List, ◌++◌, map, Option, option_map, String, string_bytes, Vec}
use Rattle.std.specs.Global.{Global}
use Rattle.std.specs.Option.{option_to_list}
use Rattle.fluent_grammar.specs.Tree.{Inline, Nameds}
use Rattle.fluent_grammar.specs.Words.{Text}
use Rattle.fluent_ids.specs.IdsView.{ids_view}
use Rattle.fluent_ids.specs.declared.ids.FluentIds.{FluentIds}
use Rattle.fluent_meaning.specs.Ids.{Ids, find}
use Rattle.fluent_plurals.specs.declared.plurals.LanguagePlurals.{LanguagePlurals}
use Rattle.lint_findings.specs.EntryFindings.{category_remark, flaw_remark, node_categories, node_flaws, node_remarks, shows_number}
use Rattle.lint_findings.specs.Misuses.{Misuse, argument_misuse, misuse_remark, misuses_of, overruled_by, overruled_misuses}
use Rattle.lint_findings.specs.Facts.{Fact, fact_remark}
use Rattle.lint_findings.specs.Finding as f
use Rattle.lint_findings.specs.FlawHints.{flaw_hint, message_hint}
use Rattle.lint_findings.specs.FlawWords.{attribute_words}
use Rattle.lint_findings.specs.Flaws.{Flaw}
use Rattle.lint_findings.specs.Letters.{placed}
use Rattle.lint_findings.specs.Nodes.{Node}
use Rattle.lint_findings.specs.View.{remark_view}
use Rattle.lint_flaws.specs.BuiltinView.{builtin_view}
use Rattle.lint_flaws.specs.declared.builtins.Builtin.{Builtin}
use Rattle.lint_findings.specs.declared.remark.Remark.{Remark}

-- the ids of a catalog, as code has them
abbrev pub CatalogIds : Type 0
CatalogIds = FluentIds (Unit {0})

-- what ids of a catalog stand for
abbrev pub known : CatalogIds → Ids (Unit {0})
known ids = ids_view (Unit {0}) ids

-- this is said, if anything is
abbrev pub IsSaid : Option f.Remark → Option Remark → Type 0
IsSaid said found = option_map remark_view found ≡ said

-- these remarks are added after the others
abbrev pub AddsRemarks : Vec Remark Global → Vec Remark Global → List f.Remark → Type 0
AddsRemarks old new added = map remark_view new.items ≡ map remark_view old.items ++ added

-- this remark, if there is one, is added at its place
abbrev pub AddsPlaced : ℕ → Option f.Remark → Vec Remark Global → Vec Remark Global → Type 0
AddsPlaced place said old new = AddsRemarks old new (placed place said)

-- the remark on this misuse, if there is one
abbrev pub IsOnMisuse : Option Misuse → Option Remark → Type 0
IsOnMisuse misuse found = IsSaid (option_map misuse_remark misuse) found

-- those on misuses are added
abbrev pub AddsMisuses : List Misuse → Vec Remark Global → Vec Remark Global → Type 0
AddsMisuses misuses old new = AddsRemarks old new (map misuse_remark misuses)

-- that on this misuse, if there is one
abbrev pub AddsMisuse : Option Misuse → Vec Remark Global → Vec Remark Global → Type 0
AddsMisuse misuse old new = AddsMisuses (option_to_list misuse) old new

-- those on facts are added
abbrev pub AddsFacts : List Fact → Vec Remark Global → Vec Remark Global → Type 0
AddsFacts facts old new = AddsRemarks old new (map fact_remark facts)

-- the remark on an argument of this name in a call of the function of this row, if there is one
abbrev pub IsOnArgument : Builtin → Text → Inline → Option Remark → Type 0
IsOnArgument row name e found = IsOnMisuse (argument_misuse (builtin_view row) name e) found

abbrev pub AddsOnArgument : Builtin → Text → Inline → Vec Remark Global → Vec Remark Global → Type 0
AddsOnArgument row name e old new = AddsMisuse (argument_misuse (builtin_view row) name e) old new

-- the remark on an argument of this name next to this style in a call of the function of this row, if there is one
abbrev pub IsOnComponent : Builtin → Text → Text → Option Remark → Type 0
IsOnComponent row style name found = (e : Inline) → IsOnMisuse (overruled_by (builtin_view row) style name e) found

-- that on an argument of this name next to this style is added, if the function of this row makes nothing of it there
abbrev pub AddsComponent : Builtin → Text → Text → Vec Remark Global → Vec Remark Global → Type 0
AddsComponent row style name old new = (e : Inline) → AddsMisuse (overruled_by (builtin_view row) style name e) old new

-- those on the arguments that don't count next to this style are added
abbrev pub AddsOverruled : Builtin → Text → Nameds → Vec Remark Global → Vec Remark Global → Type 0
AddsOverruled row style ns old new = AddsMisuses (misuses_of (overruled_by (builtin_view row) style) ns) old new

-- those on the arguments that don't count next to others are added
abbrev pub AddsBeside : Builtin → Nameds → Vec Remark Global → Vec Remark Global → Type 0
AddsBeside row ns old new = AddsMisuses (overruled_misuses (builtin_view row) ns) old new

-- those on the categories that a node lacks are added
abbrev pub AddsCategories : Option LanguagePlurals → Node → Vec Remark Global → Vec Remark Global → Type 0
AddsCategories plurals node old new = AddsRemarks old new (map (category_remark (shows_number node)) (node_categories plurals node))

-- ---- flaws, by the ids of a catalog and of its reference

-- the remark on this flaw
abbrev pub IsOnFlaw : CatalogIds → CatalogIds → Flaw → Remark → Type 0
IsOnFlaw ids reference flaw found = remark_view found ≡ flaw_remark (known ids) (known reference) flaw

-- that on the flaw of a node is added, if it has one
abbrev pub AddsFlaw : CatalogIds → CatalogIds → Node → Vec Remark Global → Vec Remark Global → Type 0
AddsFlaw ids reference node old new =
    AddsRemarks old new (map (flaw_remark (known ids) (known reference)) (node_flaws (known ids) node))

-- that on an attribute which an entry with this sign and id lacks
abbrev pub IsOnAttribute : Text → Text → Text → Remark → Type 0
IsOnAttribute sign id name found = remark_view found ≡ attribute_words sign id name

-- ---- all remarks

-- those on a node, by the rules of a language
abbrev pub AreOnNode : CatalogIds → CatalogIds → Option LanguagePlurals → Node → Vec Remark Global → Type 0
AreOnNode ids reference plurals node found =
    map remark_view found.items ≡ node_remarks (known ids) (known reference) plurals node

-- ---- hints

-- a hint, if there is one
abbrev pub IsHint : Option Text → Option (String Global) → Type 0
IsHint text hint = option_map string_bytes hint ≡ text

-- that of a flaw
abbrev pub IsHintOf : CatalogIds → CatalogIds → Flaw → Option (String Global) → Type 0
IsHintOf ids reference flaw hint = IsHint (flaw_hint (known ids) (known reference) flaw) hint

-- the hint if a message of this id is missing
abbrev pub IsMessageHint : CatalogIds → CatalogIds → Text → Option (String Global) → Type 0
IsMessageHint ids reference id hint = IsHint (message_hint (known ids) (known reference) id (find (known ids) id)) hint
