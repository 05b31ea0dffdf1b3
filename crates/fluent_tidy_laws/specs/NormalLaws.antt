-- Laws of normal texts, as statements.
use Rattle.std.specs.Prelude.{◌≡◌, List}
use Rattle.std.specs.Str.{IsUtf8}
use Rattle.fluent_grammar.specs.Words.{Text}
use Rattle.fluent_grammar.specs.Tree as t
use Rattle.fluent_grammar.specs.Tiling.{tree, list}
use Rattle.fluent_grammar.specs.Written.{written}
use Rattle.fluent_tidy_laws.specs.Cut.{cut}
use Rattle.fluent_tidy_laws.specs.Joined.{lists, HasNoReturn}
use Rattle.fluent_tidy_laws.specs.Shapes.{IsShaped}
use Rattle.fluent_tidy_laws.specs.Normal.{IsCanonical, IsNormalText, HasNoNormalText}
use Rattle.fluent_tidy_laws.specs.WellFormed.{WellFormedTree}
use Rattle.fluent_tidy_laws.specs.Tidied.{Tidied}

-- ---- which sources have a normal text

-- The tree of a cut text without a shape is canonical, however deep it is nested.
abbrev pub UnshapedIsCanonical : Type 0
UnshapedIsCanonical = (source : Text) → HasNoReturn source → IsUtf8 source → (IsShaped (cut source) → ⊥) → IsCanonical (tree (cut source))

-- A source without a normal text has a shape in its cut text.
abbrev pub NoNormalTextMeansShaped : Type 0
NoNormalTextMeansShaped = (source : Text) → HasNoReturn source → IsUtf8 source → HasNoNormalText source → IsShaped (cut source)

-- A tree of well-formed entries is canonical, whatever stands next to what.
abbrev pub WellFormedIsCanonical : Type 0
WellFormedIsCanonical = (entries : List t.Entry) → WellFormedTree entries → IsCanonical entries

-- ---- what a normal text is

-- A normal text is its own normal text.
abbrev pub NormalTextsAreFixed : Type 0
NormalTextsAreFixed = (source text : Text) → IsNormalText source text → IsNormalText text text

-- It has the messages and terms of the source.
abbrev pub NormalTextsKeepTheList : Type 0
NormalTextsKeepTheList = (source text : Text) → IsNormalText source text → list text ≡ list source

-- Canonical trees with the same written text are the same.
abbrev pub CanonicalTreesAreToldApart : Type 0
CanonicalTreesAreToldApart = (one other : List t.Entry) → IsCanonical one → IsCanonical other → written one ≡ written other → one ≡ other

-- ---- several sources

-- Sources that were tidied have the messages and terms that they had, one source after the other.
abbrev pub TidiedSourcesKeepLists : Type 0
TidiedSourcesKeepLists = (sources others : List Text) → Tidied sources others → lists others ≡ lists sources
