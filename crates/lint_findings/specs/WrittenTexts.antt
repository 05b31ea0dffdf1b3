-- Texts that stand in a pattern as words, and those that a pattern may be as a whole.
use Rattle.std.specs.Prelude.{ℕ, ◌==◌, nat_lt, Bool, true, false, not, ◌&&◌, ◌||◌, if◌then◌else◌, List, [], ◌∷◌, ◌++◌, length, drop, take}
use Rattle.std.specs.Char.{is_ascii_alphanumeric}
use Rattle.std.specs.Str.{bytes_eq}
use Rattle.fluent_grammar.specs.Words.{Text, is_between}
use Rattle.fluent_grammar.specs.Tree as t
use Rattle.fluent_grammar.specs.Tree.{Elements, Expression, Variants}

-- ---- words

-- A byte that begins a letter or a digit. Beyond ASCII all characters count, but those of U+0080 to U+00BF and of U+2000
-- to U+2FFF: these are mostly signs.
abbrev pub begins_letter : ℕ → Bool
begins_letter c = is_ascii_alphanumeric c || (nat_lt 0xBF c && not (c == 0xC2 || c == 0xE2))

-- whether a letter stands before what follows this byte, if one did before it
abbrev pub letter_after : Bool → ℕ → Bool
letter_after before c = if is_between 0x80 0xBF c then before else begins_letter c

abbrev pub no_letter_at : Text → Bool
no_letter_at [] = true
no_letter_at (c ∷ s) = not (begins_letter c)

-- a text is at the front, and no letter follows it
abbrev pub is_word_at : Text → Text → Bool
is_word_at w s = bytes_eq (take (length w) s) w && no_letter_at (drop (length w) s)

-- whether a text stands somewhere, and no letter is before or after it
abbrev pub has_word_after : Bool → Text → Text → Bool
has_word_after before w [] = false
has_word_after before w (c ∷ s) =
    (not before && is_word_at w (c ∷ s)) || has_word_after (letter_after before c) w s

abbrev pub has_word : Text → Text → Bool
has_word w s = has_word_after false w s

-- ---- patterns

abbrev mutual
  -- whether a text of a pattern, or of a variant in it, has this word
  pub elements_have : Text → Elements → Bool
  elements_have w t.no_elements = false
  elements_have w (t.text s es) = has_word w s || elements_have w es
  elements_have w (t.placeable e es) = expression_has w e || elements_have w es

  pub expression_has : Text → Expression → Bool
  expression_has w (t.select i vs) = variants_have w vs
  expression_has w (t.inline i) = false

  pub variants_have : Text → Variants → Bool
  variants_have w t.no_variants = false
  variants_have w (t.variant k es d vs) = elements_have w es || variants_have w vs

abbrev mutual
  -- the texts that a pattern may be as a whole: its own, or those of its variants if it is nothing but a select
  pub plain_texts : Elements → List Text
  plain_texts (t.text s t.no_elements) = s ∷ []
  plain_texts (t.placeable (t.select i vs) t.no_elements) = variants_texts vs
  plain_texts _ = []

  pub variants_texts : Variants → List Text
  variants_texts t.no_variants = []
  variants_texts (t.variant k es d vs) = plain_texts es ++ variants_texts vs
