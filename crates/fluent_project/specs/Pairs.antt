-- Which files of a language are translated from which of the reference.
use Rattle.std.specs.Prelude.{ℕ, suc, Bool, true, false, not, ◌&&◌, if◌then◌else◌, List, [], ◌∷◌, ◌++◌, Option, Some, None, is_some}
use Rattle.std.specs.List.{filter, list_any}
use Rattle.std.specs.Option.{option_map_or}
use Rattle.std.specs.Str.{bytes_eq}
use Rattle.fluent_project.specs.declared.part.Part.{Part}
use Rattle.fluent_project.specs.Patterns.{Text, filled}
use Rattle.fluent_project.specs.Taking.{taken, takes}

-- which files are translated from which, for these languages, or for all
pub record Rule : Type 0 where
  pub reference : Option (List Part)
  pub l10n : List Part
  pub locales : Option (List Text)

-- what a file is translated from: the one of this number, none that the reference has, or nothing that is asked for
pub data Source : Type 0 where
  file : ℕ → Source
  lacking : Source
  unasked : Source

abbrev pub is_among : List Text → Text → Bool
is_among texts text = list_any (λ other. bytes_eq other text) texts

-- a rule is about a language
abbrev pub is_about : Text → Rule → Bool
is_about locale rule = option_map_or (λ locales. is_among locales locale) rule.locales true

-- a path is one of its translations, and one of its reference
abbrev pub has_translation : Text → Text → Rule → Bool
has_translation locale path rule = is_about locale rule && takes locale rule.l10n path

abbrev pub has_reference : Text → Rule → Bool
has_reference path rule = option_map_or (λ reference. takes [] reference path) rule.reference false

-- of several rules one is
abbrev pub is_translation : List Rule → Text → Text → Bool
is_translation rules locale path = list_any (has_translation locale path) rules

abbrev pub is_reference : List Rule → Text → Bool
is_reference rules path = list_any (has_reference path) rules

-- the files of the reference, of all that there are
abbrev pub references_of : List Rule → List Text → List Text
references_of rules files = filter (is_reference rules) files

-- ---- what a rule says

-- a path of a language, and what it is translated from
abbrev pub Said : Type 0
Said = Text × Source

-- the path of the translation of a file, if the file is of the reference
abbrev pub translation_by : Text → List Part → List Part → ℕ → Text → List Said
translation_by locale reference l10n n path =
    if takes [] reference path then (filled locale l10n (taken [] reference path), file n) ∷ [] else []

-- of each file of the reference, the first of which has this number
abbrev pub translations_by : Text → List Part → List Part → ℕ → List Text → List Said
translations_by locale reference l10n n [] = []
translations_by locale reference l10n n (path ∷ paths) =
    translation_by locale reference l10n n path ++ translations_by locale reference l10n (suc n) paths

abbrev pub translations_with : Bool → Text → Option (List Part) → List Part → List Text → List Said
translations_with about locale None l10n references = []
translations_with about locale (Some reference) l10n references = if about then translations_by locale reference l10n 0 references else []

abbrev pub translations_of : Text → List Text → Rule → List Said
translations_of locale references rule = translations_with (is_about locale rule) locale rule.reference rule.l10n references

-- a file that the reference hasn't
abbrev pub alone_as : Rule → Source
alone_as rule = if is_some rule.reference then lacking else unasked

abbrev pub alone_by : Text → Rule → Text → List Said
alone_by locale rule path = if has_translation locale path rule then (path, alone_as rule) ∷ [] else []

abbrev pub alone_of : Text → List Text → Rule → List Said
alone_of locale [] rule = []
alone_of locale (path ∷ paths) rule = alone_by locale rule path ++ alone_of locale paths rule

-- ---- what all rules say

-- The rules of a project, of which a later one counts before an earlier one; those whose translations are left out; the files of the
-- reference; and all files.
pub record Tree : Type 0 where
  pub rules : List Rule
  pub excluded : List Rule
  pub references : List Text
  pub files : List Text

module _ (tree : Tree) (locale : Text) where
  -- what files of the reference are translated into, by rules of which a later one comes first
  abbrev pub all_translations : List Rule → List Said
  all_translations [] = []
  all_translations (rule ∷ rules) = all_translations rules ++ translations_of locale tree.references rule

  -- and which files there are besides
  abbrev pub all_alone : List Rule → List Said
  all_alone [] = []
  all_alone (rule ∷ rules) = all_alone rules ++ alone_of locale tree.files rule

  abbrev pub said : List Said
  said = all_translations tree.rules ++ all_alone tree.rules

  -- a file isn't one that is left out
  abbrev pub is_kept : Text → Bool
  is_kept path = not (is_translation tree.excluded locale path)

  -- nor is one of the reference one of a language
  abbrev pub may_be : Text → Bool
  may_be path = not (is_among tree.references path) && is_kept path

-- the first that is said of a path
abbrev pub first_said : Text → List Said → Option Source
first_said path [] = None
first_said path (s ∷ all) = if bytes_eq s.0 path then Some s.1 else first_said path all

-- what was said before, or else this
abbrev pub said_or : Option Source → Option Source → Option Source
said_or (Some s) later = Some s
said_or None later = later

-- what a path of a language is translated from, if it is one
abbrev pub source_of : Tree → Text → Text → Option Source
source_of tree locale path = if may_be tree locale path then first_said path (said tree locale) else None
