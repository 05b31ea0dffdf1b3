-- What the code's rules and pairs stand for.
use Rattle.std.specs.Prelude.{◌≡◌, ℕ, Bool, true, if◌then◌else◌, List, [], ◌∷◌, ◌++◌, Option, None, Some, String, map, option_map, string_bytes}
use Rattle.std.specs.Global.{Global}
use Rattle.std.specs.BTreeMap.{BTreeMap, get_by_text}
use Rattle.std.specs.Str.{IsUtf8}
use denote.Ref.{Bor}
use Rattle.fluent_project.specs.declared.pairs.Rule as code
use Rattle.fluent_project.specs.declared.pairs.Source.{Source as CodeSource}
use Rattle.fluent_project.specs.declared.pairs.Source.TheVariants as is
use Rattle.fluent_project.specs.declared.pairs.Patterns.{Patterns}
use Rattle.fluent_project.specs.declared.pairs.Tree as code_tree
use Rattle.fluent_project.specs.Pairs.{Rule, Said, Source, Tree, all_alone, all_translations, alone_by, alone_of, file, first_said, is_among, is_kept, lacking, references_of, said_or, source_of, translation_by, translations_by, translations_of, unasked}
use Rattle.fluent_project.specs.Patterns.{Text, filled}
use Rattle.fluent_project.specs.Taking.{taken, takes}
use Rattle.fluent_project.specs.Views.{plain}

abbrev pub rule_view : code.Rule → Rule
rule_view r = record {
  reference = option_map (λ v. v.items) r.reference;
  l10n = r.l10n.items;
  locales = option_map (λ v. plain v.items) r.locales;
}

abbrev pub rules_view : List code.Rule → List Rule
rules_view = map rule_view

abbrev pub source_view : CodeSource → Source
source_view (is.File n) = file n
source_view is.Lacking = lacking
source_view is.Unasked = unasked

abbrev pub tree_view : code_tree.Tree → Tree
tree_view t = record {
  rules = rules_view t.rules.now;
  excluded = rules_view t.excluded.now;
  references = plain t.references.now;
  files = plain t.files.now;
}

-- ---- the map that is made

-- what a map says of a path
abbrev pub said_in : BTreeMap (String Global) CodeSource → Text → Option Source
said_in map path = option_map source_view (get_by_text map path)

-- it says of each path what the path is translated from; paths are in UTF-8
abbrev pub AreSources : Tree → Text → BTreeMap (String Global) CodeSource → Type 0
AreSources tree locale map = (path : Text) → IsUtf8 path → said_in map path ≡ source_of tree locale path

-- These are added, if they are kept, where nothing was said before.
abbrev pub AddsAll : (Text → Bool) → List Said → BTreeMap (String Global) CodeSource → BTreeMap (String Global) CodeSource → Type 0
AddsAll is_kept more old new =
    (path : Text) → IsUtf8 path → said_in new path ≡ said_or (said_in old path) (if is_kept path then first_said path more else None)

abbrev pub AddsSaid : (Text → Bool) → Text → Source → BTreeMap (String Global) CodeSource → BTreeMap (String Global) CodeSource → Type 0
AddsSaid is_kept path source old new = AddsAll is_kept ((path, source) ∷ []) old new

-- these are taken out
abbrev pub Removes : List (Bor Text) → BTreeMap (String Global) CodeSource → BTreeMap (String Global) CodeSource → Type 0
Removes paths old new = (path : Text) → said_in new path ≡ (if is_among (plain paths) path then None else said_in old path)

-- by rules, by one rule, and by one rule of these files, of which the first has this number
abbrev pub AddsTranslations : code_tree.Tree → Text → List code.Rule → BTreeMap (String Global) CodeSource → BTreeMap (String Global) CodeSource → Type 0
AddsTranslations tree locale rules old new = AddsAll (is_kept (tree_view tree) locale) (all_translations (tree_view tree) locale (rules_view rules)) old new

abbrev pub AddsByRule : code_tree.Tree → Text → code.Rule → BTreeMap (String Global) CodeSource → BTreeMap (String Global) CodeSource → Type 0
AddsByRule tree locale rule old new =
    AddsAll (is_kept (tree_view tree) locale) (translations_of locale (tree_view tree).references (rule_view rule)) old new

abbrev pub AddsFrom : code_tree.Tree → Patterns → ℕ → List (Bor Text) → BTreeMap (String Global) CodeSource → BTreeMap (String Global) CodeSource → Type 0
AddsFrom tree p number files old new =
    AddsAll (is_kept (tree_view tree) p.locale.now) (translations_by p.locale.now p.reference.now p.l10n.now number (plain files)) old new

abbrev pub AddsTranslation : code_tree.Tree → Patterns → ℕ → Text → BTreeMap (String Global) CodeSource → BTreeMap (String Global) CodeSource → Type 0
AddsTranslation tree p number path old new =
    AddsAll (is_kept (tree_view tree) p.locale.now) (translation_by p.locale.now p.reference.now p.l10n.now number path) old new

-- the translation of a file by these patterns: its path, if that is UTF-8, or nothing of a file that isn't of the reference
abbrev pub IsTranslation : Patterns → Text → Option (String Global) → Type 0
IsTranslation p path None =
    takes [] p.reference.now path ≡ true → IsUtf8 (filled p.locale.now p.l10n.now (taken [] p.reference.now path)) → ⊥
IsTranslation p path (Some translation) = (takes [] p.reference.now path ≡ true)
    × (string_bytes translation ≡ filled p.locale.now p.l10n.now (taken [] p.reference.now path))

-- the files that there are besides, by rules, and by one rule of these files
abbrev pub AddsAlone : code_tree.Tree → Text → List code.Rule → BTreeMap (String Global) CodeSource → BTreeMap (String Global) CodeSource → Type 0
AddsAlone tree locale rules old new = AddsAll (is_kept (tree_view tree) locale) (all_alone (tree_view tree) locale (rules_view rules)) old new

abbrev pub AddsFiles : code_tree.Tree → Text → code.Rule → List (Bor Text) → BTreeMap (String Global) CodeSource → BTreeMap (String Global) CodeSource → Type 0
AddsFiles tree locale rule files old new = AddsAll (is_kept (tree_view tree) locale) (alone_of locale (plain files) (rule_view rule)) old new

abbrev pub AddsFile : code_tree.Tree → Text → code.Rule → Text → BTreeMap (String Global) CodeSource → BTreeMap (String Global) CodeSource → Type 0
AddsFile tree locale rule path old new = AddsAll (is_kept (tree_view tree) locale) (alone_by locale (rule_view rule) path) old new

abbrev pub AddsOne : code_tree.Tree → Text → String Global → CodeSource → BTreeMap (String Global) CodeSource → BTreeMap (String Global) CodeSource → Type 0
AddsOne tree locale path source old new = AddsSaid (is_kept (tree_view tree) locale) (string_bytes path) (source_view source) old new

-- the files of the reference, of these files, are appended
abbrev pub AppendsReferences : List code.Rule → List (Bor Text) → List (Bor Text) → List (Bor Text) → Type 0
AppendsReferences rules files old new = plain new ≡ plain old ++ references_of (rules_view rules) (plain files)
