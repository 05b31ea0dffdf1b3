-- Laws of patterns.
use Rattle.std.specs.Prelude.{◌≡◌, ◌++◌, ◌∷◌, List, [], map, true}
use Rattle.fluent_project.specs.declared.part.Part.{Part}
use Rattle.fluent_project.specs.declared.part.Part.TheVariants as part
use Rattle.fluent_project.specs.declared.part.Wildcard.{Wildcard}
use Rattle.fluent_project.specs.declared.part.Wildcard.TheVariants.{Star}
use Rattle.fluent_project.specs.Patterns.{IsMatch, Matches, Text, filled, may_be}

-- the wildcards of a pattern, in their order
abbrev pub wildcards : List Part → List Wildcard
wildcards [] = []
wildcards (part.Byte byte ∷ parts) = wildcards parts
wildcards (part.Locale ∷ parts) = wildcards parts
wildcards (part.Wildcard wildcard ∷ parts) = wildcard ∷ wildcards parts

-- the pattern of one language
abbrev pub for_language : Text → List Part → List Part
for_language locale [] = []
for_language locale (part.Byte byte ∷ parts) = part.Byte byte ∷ for_language locale parts
for_language locale (part.Locale ∷ parts) = map part.Byte locale ++ for_language locale parts
for_language locale (part.Wildcard wildcard ∷ parts) = part.Wildcard wildcard ∷ for_language locale parts

-- What is put into another pattern with the same wildcards is matched by it, by the same texts.
abbrev pub TextsCarryOver : Type 0
TextsCarryOver = (from to : List Part) → wildcards from ≡ wildcards to → (locale other path : Text) (texts : List Text)
    → IsMatch locale from path texts → IsMatch other to (filled other to texts) texts

-- A path is one of a pattern for a language exactly if it is one of the pattern with that language put in, whatever language is asked for.
pub record OneLanguageStands : Type 0 where
  pub onto : (pattern : List Part) (locale other path : Text) (texts : List Text)
      → IsMatch locale pattern path texts → IsMatch other (for_language locale pattern) path texts
  pub back : (pattern : List Part) (locale other path : Text) (texts : List Text)
      → IsMatch other (for_language locale pattern) path texts → IsMatch locale pattern path texts

-- Two languages share no path if the language is the name of a folder, and what is before it has no wildcard.
abbrev pub LanguagesAreApart : Type 0
LanguagesAreApart = (start : Text) (parts : List Part) (locale other path : Text)
    → may_be Star locale ≡ true → may_be Star other ≡ true
    → Matches locale (map part.Byte start ++ part.Locale ∷ part.Byte 47 ∷ parts) path
    → Matches other (map part.Byte start ++ part.Locale ∷ part.Byte 47 ∷ parts) path
    → locale ≡ other
