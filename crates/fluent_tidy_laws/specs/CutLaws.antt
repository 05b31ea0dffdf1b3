-- Laws of cutting, joining and damage, as statements.
use Rattle.std.specs.Prelude.{◌≡◌, ◌⊎◌, true, List, [], ◌++◌, drop, All}
use Rattle.std.specs.Str.{IsUtf8, IsCharBoundary}
use Rattle.fluent_grammar.specs.Words.{Text, number_sign, begins_with}
use Rattle.fluent_grammar.specs.Recovery.{IsColumnZero}
use Rattle.fluent_grammar.specs.Tiling.{ParserError, errors, list}
use Rattle.fluent_grammar.specs.Tiles.{full, Part, Tiles}
use Rattle.fluent_tidy_laws.specs.Cut.{cut, kept}
use Rattle.fluent_tidy_laws.specs.Joined.{joined, lists, HasNoReturn, HaveNoReturn, AreUtf8}

-- ---- cutting

-- What the slices of the errors leave is what the tiling keeps.
abbrev pub CutKeepsParts : Type 0
CutKeepsParts = (source : Text) (parts : List Part) → Tiles full parts source → cut source ≡ kept parts

-- The cut text has no errors, and the messages and terms of the source. A source without errors is its cut text.
pub record CutsCleanly (source : Text) : Type 0 where
  pub no_errors : errors (cut source) ≡ []
  pub same_list : list (cut source) ≡ list source
  pub clean_stays : errors source ≡ [] → cut source ≡ source

abbrev pub DamageIsLocal : Type 0
DamageIsLocal = (source : Text) → CutsCleanly source

-- The cut text of UTF-8 is UTF-8, and that of a text without carriage returns has none.
abbrev pub CutTextsAreUtf8 : Type 0
CutTextsAreUtf8 = (source : Text) → IsUtf8 source → IsUtf8 (cut source)

abbrev pub CutTextsHaveNoReturn : Type 0
CutTextsHaveNoReturn = (source : Text) → HasNoReturn source → HasNoReturn (cut source)

-- An error's slice begins and ends where characters of the source do.
pub record StandsBetweenCharacters (source : Text) (error : ParserError) : Type 0 where
  pub start : IsCharBoundary source error.slice_start
  pub end : IsCharBoundary source error.slice_end

-- Each slice of a source that is UTF-8 stands so: the cut text can be put together from parts of it.
abbrev pub SlicesStandBetweenCharacters : Type 0
SlicesStandBetweenCharacters = (source : Text) → IsUtf8 source → All (StandsBetweenCharacters source) (errors source)

-- ---- joining

-- The joined text has no errors, and the messages and terms of the sources, one source after the other.
pub record JoinsCleanly (sources : List Text) : Type 0 where
  pub same_lists : list (joined sources) ≡ lists sources
  pub no_errors : errors (joined sources) ≡ []

abbrev pub JoinedTextsKeepLists : Type 0
JoinedTextsKeepLists = (sources : List Text) → HaveNoReturn sources → AreUtf8 sources → JoinsCleanly sources

-- ---- damage

-- A text without errors after any other: it keeps its messages and terms, or loses the first. It keeps all if it begins
-- with `#`, or if the other text has no errors.
pub record DamageStaysIn (before text : Text) : Type 0 where
  pub either : (list (before ++ text) ≡ list before ++ list text) ⊎ (list (before ++ text) ≡ list before ++ drop 1 (list text))
  pub whole : (begins_with number_sign text ≡ true) ⊎ (errors before ≡ []) → list (before ++ text) ≡ list before ++ list text

-- The other text is empty or ends in a line feed.
abbrev pub DamageStays : Type 0
DamageStays = (before text : Text) → IsColumnZero before → errors text ≡ [] → DamageStaysIn before text
