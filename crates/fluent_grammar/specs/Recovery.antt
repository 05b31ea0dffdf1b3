-- Where junk ends: at the first place that an entry may begin at.
use Rattle.std.specs.Prelude.{◌≡◌, ◌≤◌, ◌⊎◌, true, [], ◌∷◌, ◌++◌, length}
use Rattle.fluent_grammar.specs.Words.{Text, line_feed, begins, begins_entry}
use Rattle.fluent_grammar.specs.Ends.{EndsIn}

-- Column 0, by what stands before it in an entry, which begins at column 0: nothing, or a text that ends in a line feed.
abbrev pub IsColumnZero : Text → Type 0
IsColumnZero front = (front ≡ []) ⊎ ((line : Text) × (front ≡ line ++ (line_feed ∷ [])))

-- an entry may begin here: at column 0, before a letter, a minus or a number sign
pub record MayBegin (text rest : Text) : Type 0 where
  pub front : Text
  pub whole : text ≡ front ++ rest
  pub column_zero : IsColumnZero front
  pub first_byte : begins begins_entry rest ≡ true

-- The end of junk that begins a text and is read up to a place: the end of the text, or the first end at that place or
-- after it that an entry may begin at.
pub record EndsJunk (text place rest : Text) : Type 0 where
  pub behind : EndsIn rest place
  pub stops : (rest ≡ []) ⊎ MayBegin text rest
  pub first : (other : Text) → EndsIn other place → MayBegin text other → length other ≤ length rest
