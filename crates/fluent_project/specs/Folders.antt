-- Where the files of a pattern lie.
use Rattle.std.specs.Prelude.{ℕ, suc, if◌then◌else◌, List, [], ◌∷◌, ◌++◌, Option, Some, None, take, unwrap_or}
use Rattle.fluent_project.specs.declared.part.Part.{Part}
use Rattle.fluent_project.specs.declared.part.Part.TheVariants as part
use Rattle.fluent_project.specs.Checks.{has_no_wildcard}
use Rattle.fluent_project.specs.Patterns.{Text, filled, is_slash}

-- what comes before the first wildcard, with a language put in
abbrev pub front : Text → List Part → Text
front locale [] = []
front locale (part.Byte byte ∷ parts) = byte ∷ front locale parts
front locale (part.Locale ∷ parts) = locale ++ front locale parts
front locale (part.Wildcard wildcard ∷ parts) = []

-- where the last slash of a text is
abbrev pub if_slash : ℕ → Option ℕ
if_slash byte = if is_slash byte then Some 0 else None

abbrev pub one_on : Option ℕ → Option ℕ → Option ℕ
one_on (Some place) first = Some (suc place)
one_on None first = first

abbrev pub last_slash : Text → Option ℕ
last_slash [] = None
last_slash (byte ∷ text) = one_on (last_slash text) (if_slash byte)

-- a text up to its last slash; nothing of one that has none
abbrev pub before_slash : Text → Text
before_slash text = take (unwrap_or (last_slash text) 0) text

-- The folder that has all files of a pattern below it. Without a wildcard it is the one file of the pattern.
abbrev pub folder : Text → List Part → Text
folder locale pattern = if has_no_wildcard pattern then filled locale pattern [] else before_slash (front locale pattern)
