-- The tidy text of a source: the written text of each entry, and the blank lines that the source has between them, one at a time.
use Rattle.std.specs.Prelude.{◌≡◌, ℕ, zero, suc, ◌-◌, min, Bool, true, false, ◌&&◌, ◌==◌, nat_le, if◌then◌else◌, List, [], ◌∷◌, length, drop, slice_index, Option, Some, None}
use Rattle.fluent_grammar.specs.Words.{Text, line_feed, carriage_return, space, begins_with, begins_crlf, skip_spaces}
use Rattle.fluent_grammar.specs.Tree as t
use Rattle.fluent_grammar.specs.Tiling.{tree, errors}
use Rattle.fluent_parser.specs.Starts.{starts}
use Rattle.fluent_serializer.specs.Spaced.{spaced}
use Rattle.fluent_tidy.specs.Sources.{holds_return}

-- ---- how a source is read: without a byte order mark, and with LF line ends

-- whether a text begins with the bytes of U+FEFF
abbrev pub begins_with_mark : Text → Bool
begins_with_mark s = nat_le 3 (length s) && (slice_index s 0 == 239 && (slice_index s 1 == 187 && slice_index s 2 == 191))

abbrev pub without_mark : Text → Text
without_mark s = if begins_with_mark s then drop 3 s else s

-- LF in place of each CR LF. A line that is blank before its CR LF loses its spaces: they aren't part of a text there, and
-- before LF they may be. A carriage return alone stays. The first argument says whether a line begins here.
abbrev pub line_feeds_from : Bool → Text → Text
line_feeds_from at [] = []
line_feeds_from at (c ∷ cs) =
    if c == carriage_return && begins_with line_feed cs then line_feeds_from at cs
    else if at && (c == space && begins_crlf (skip_spaces cs)) then line_feeds_from at cs
    else c ∷ line_feeds_from (c == line_feed) cs

abbrev pub with_line_feeds : Text → Text
with_line_feeds s = line_feeds_from true s

abbrev pub plain : Text → Text
plain s = with_line_feeds (without_mark s)

-- ---- where blank lines stand

-- the byte before a place; 0 at the start
abbrev pub byte_before : Text → ℕ → ℕ
byte_before s zero = 0
byte_before s (suc k) = slice_index s k

-- whether spaces alone stand between a place and a line feed before it
abbrev pub is_after_blank : Text → ℕ → Bool
is_after_blank s zero = false
is_after_blank s (suc k) = if slice_index s k == space then is_after_blank s k else slice_index s k == line_feed

-- whether a blank line stands right before the line that begins at this offset, after its line feed
abbrev pub stands_apart : Text → ℕ → Bool
stands_apart source at = is_after_blank source (min at (length source) - 1)

-- how many parts of a source an entry is: its own comment is one more
abbrev pub with_own : Option (List Text) → ℕ
with_own None = 1
with_own (Some lines) = 2

abbrev pub part_count : t.Entry → ℕ
part_count (t.message m) = with_own m.comment
part_count (t.term m) = with_own m.comment
part_count (t.comment c) = 1
part_count (t.group_comment c) = 1
part_count (t.resource_comment c) = 1
part_count (t.junk s) = 1

-- whether the first of these places stands apart
abbrev pub first_apart : Text → List ℕ → Bool
first_apart source [] = false
first_apart source (at ∷ places) = stands_apart source at

-- whether each of these entries stands apart, whose parts begin at these places of a source
abbrev pub apart_at : Text → List ℕ → List t.Entry → List Bool
apart_at source places [] = []
apart_at source places (e ∷ es) = first_apart source places ∷ apart_at source (drop (part_count e) places) es

-- whether a blank line stands before each entry of a source
abbrev pub apart : Text → List Bool
apart source = apart_at source (starts source) (tree source)

-- ---- the text

-- The entries of a text, each as it is written, with one blank line where the text has some, and around comments that stand by themselves.
abbrev pub laid_anew : Text → Text
laid_anew source = spaced (apart source) (tree source)

-- a text that tidying leaves as it is
pub record IsTidy (text : Text) : Type 0 where
  pub no_mark : begins_with_mark text ≡ false
  pub no_return : holds_return text ≡ false
  pub no_junk : errors text ≡ []
  pub stays : laid_anew text ≡ text

-- A text is read back as the tree of a source, and tidying leaves it as it is.
pub record StaysTidy (source text : Text) : Type 0 where
  pub read_back : tree text ≡ tree source
  pub tidy : IsTidy text

-- The tidy text of a source without junk: it is read back as the very tree of the source, and tidying leaves it as it is.
pub record IsTidyText (source text : Text) : Type 0 where
  pub no_return : holds_return (plain source) ≡ false
  pub no_junk : errors (plain source) ≡ []
  pub is : text ≡ laid_anew (plain source)
  pub stays : StaysTidy (plain source) text

-- a source without junk and without carriage returns alone that has no tidy text
abbrev pub HasNoTidyText : Text → Type 0
HasNoTidyText source = (text : Text) → IsTidyText source text → ⊥
