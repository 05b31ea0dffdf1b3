-- The language that a path is of, by a pattern.
use Rattle.std.specs.Prelude.{ℕ, zero, suc, true, ◌≡◌, if◌then◌else◌, List, [], ◌∷◌, Option, Some, None, IfSome, map}
use Rattle.std.specs.Str.{IsUtf8}
use Rattle.fluent_project.specs.declared.part.Part.{Part}
use Rattle.fluent_project.specs.declared.part.Part.TheVariants as part
use Rattle.fluent_project.specs.declared.part.Wildcard.TheVariants.{Star}
use Rattle.fluent_project.specs.Patterns.{Matches, Text, may_be}
use Rattle.fluent_project.specs.Taking.{taken, takes}

-- `*` for `{locale}`
abbrev pub starred : Part → Part
starred (part.Byte byte) = part.Byte byte
starred part.Locale = part.Wildcard Star
starred (part.Wildcard wildcard) = part.Wildcard wildcard

abbrev pub with_star : List Part → List Part
with_star parts = map starred parts

-- how many wildcards come before `{locale}`, if that is there
abbrev pub one_more : Option ℕ → Option ℕ
one_more (Some n) = Some (suc n)
one_more None = None

abbrev pub wildcards_before : List Part → Option ℕ
wildcards_before [] = None
wildcards_before (part.Byte byte ∷ parts) = wildcards_before parts
wildcards_before (part.Locale ∷ parts) = Some 0
wildcards_before (part.Wildcard wildcard ∷ parts) = one_more (wildcards_before parts)

-- What `*` takes in the place of the first `{locale}` of a pattern.
abbrev pub text_at : List Text → ℕ → Option Text
text_at [] n = None
text_at (text ∷ texts) zero = Some text
text_at (text ∷ texts) (suc n) = text_at texts n

abbrev pub text_in : List Text → Option ℕ → Option Text
text_in texts None = None
text_in texts (Some n) = text_at texts n

abbrev pub tag_in : List Part → Text → Option Text
tag_in pattern path =
    if takes [] (with_star pattern) path then text_in (taken [] (with_star pattern) path) (wildcards_before pattern) else None

-- the path is one of the pattern for this language, whose tag has no slash
pub record IsLocaleIn (pattern : List Part) (path locale : Text) : Type 0 where
  pub match : Matches locale pattern path
  pub slashless : may_be Star locale ≡ true

-- the path is one for no language that `*` could take in its place
abbrev pub HasNoTag : List Part → Text → Type 0
HasNoTag pattern path = IfSome (tag_in pattern path) (λ tag. IsUtf8 tag → ¬ (Matches tag pattern path))
