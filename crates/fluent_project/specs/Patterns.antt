-- What a pattern of paths stands for.
use Rattle.std.specs.Prelude.{ℕ, Bool, true, false, not, ◌≡◌, ◌⊎◌, ◌<◌, ◌&&◌, ◌==◌, ◌++◌, List, [], ◌∷◌, length}
use Rattle.std.specs.List.{list_all}
use Rattle.fluent_project.specs.declared.part.Part.{Part}
use Rattle.fluent_project.specs.declared.part.Part.TheVariants as part
use Rattle.fluent_project.specs.declared.part.Wildcard.{Wildcard}
use Rattle.fluent_project.specs.declared.part.Wildcard.TheVariants.{Star, Folders, Rest}

-- a text by its bytes
abbrev pub Text : Type 0
Text = List ℕ

abbrev pub is_slash : ℕ → Bool
is_slash byte = byte == 47

-- a text that ends in a slash; of an empty one, whether there is one before it
abbrev pub ends_open : Bool → Text → Bool
ends_open before [] = before
ends_open before (byte ∷ text) = ends_open (is_slash byte) text

-- What a wildcard may stand for: a name or a piece of one, folders with a slash after each, or anything.
abbrev pub may_be : Wildcard → Text → Bool
may_be Star text = list_all (λ byte. not (is_slash byte)) text
may_be Folders text = ends_open true text
may_be Rest text = true

-- there is a text for each wildcard of a pattern, which it may stand for
abbrev pub suit : List Part → List Text → Bool
suit [] [] = true
suit [] (text ∷ texts) = false
suit (part.Byte byte ∷ parts) texts = suit parts texts
suit (part.Locale ∷ parts) texts = suit parts texts
suit (part.Wildcard wildcard ∷ parts) [] = false
suit (part.Wildcard wildcard ∷ parts) (text ∷ texts) = may_be wildcard text && suit parts texts

-- The path that a pattern gives for a language, with texts in the place of its wildcards. Where a text is missing, nothing is put.
abbrev pub filled : Text → List Part → List Text → Text
filled locale [] texts = []
filled locale (part.Byte byte ∷ parts) texts = byte ∷ filled locale parts texts
filled locale (part.Locale ∷ parts) texts = locale ++ filled locale parts texts
filled locale (part.Wildcard wildcard ∷ parts) [] = filled locale parts []
filled locale (part.Wildcard wildcard ∷ parts) (text ∷ texts) = text ++ filled locale parts texts

-- a path is the one that a pattern gives for a language, with texts that suit
pub record IsMatch (locale : Text) (pattern : List Part) (path : Text) (texts : List Text) : Type 0 where
  pub suited : suit pattern texts ≡ true
  pub given : filled locale pattern texts ≡ path

-- a path is one of those that a pattern stands for, for a language
abbrev pub Matches : Text → List Part → Text → Type 0
Matches locale pattern path = (texts : List Text) × IsMatch locale pattern path texts

-- where two lists first differ in the length of a text, the second has the longer one
abbrev pub IsAtMost : List Text → List Text → Type 0
IsAtMost [] others = Unit {0}
IsAtMost (text ∷ texts) [] = ⊥
IsAtMost (text ∷ texts) (other ∷ others) = (length text < length other) ⊎ ((length text ≡ length other) × IsAtMost texts others)

-- What the wildcards stand for in a path. If it may be several texts, earlier wildcards take as much as they can.
pub record AreLongest (locale : Text) (pattern : List Part) (path : Text) (texts : List Text) : Type 0 where
  pub match : IsMatch locale pattern path texts
  pub longest : (others : List Text) → IsMatch locale pattern path others → IsAtMost others texts
