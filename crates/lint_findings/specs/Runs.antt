-- The texts of a pattern: its own, and those of the variants in it. In them U+FFFC stands for a placeable.
use Rattle.std.specs.Prelude.{ℕ, ◌==◌, ◌-◌, Bool, true, false, ◌&&◌, ◌||◌, if◌then◌else◌, List, [], ◌∷◌, ◌++◌, length, take}
use Rattle.std.specs.List.{list_any}
use Rattle.std.specs.Str.{bytes_eq}
use Rattle.fluent_grammar.specs.Words.{Text, backslash, line_feed, skip_blank}
use Rattle.fluent_grammar.specs.Tree as t
use Rattle.fluent_grammar.specs.Tree.{Elements, Expression, Variants}

-- U+FFFC, which stands for a placeable
abbrev pub object_sign : Text
object_sign = 0xEF ∷ 0xBF ∷ 0xBC ∷ []

-- ---- the own text of a pattern

-- a literal with an escape isn't read
abbrev pub literal_text : Text → Text
literal_text raw = if list_any (λ c. c == backslash) raw then object_sign else raw

abbrev pub placeable_text : Expression → Text
placeable_text (t.inline (t.string_literal raw)) = literal_text raw
placeable_text _ = object_sign

abbrev pub own_text : Elements → Text
own_text t.no_elements = []
own_text (t.text s es) = s ++ own_text es
own_text (t.placeable e es) = placeable_text e ++ own_text es

-- ---- all texts

abbrev mutual
  -- those of the variants in a pattern
  pub inner_texts : Elements → List Text
  inner_texts t.no_elements = []
  inner_texts (t.text s es) = inner_texts es
  inner_texts (t.placeable e es) = expression_texts e ++ inner_texts es

  pub expression_texts : Expression → List Text
  expression_texts (t.select i vs) = variants_texts vs
  expression_texts (t.inline i) = []

  pub variants_texts : Variants → List Text
  variants_texts t.no_variants = []
  variants_texts (t.variant k es d vs) = own_text es ∷ (inner_texts es ++ variants_texts vs)

-- The own text comes first.
abbrev pub runs : Elements → List Text
runs es = own_text es ∷ inner_texts es

-- ---- what holds whichever variants are chosen

abbrev mutual
  -- whether some select has variants that all pass, in their own texts or by a select in them
  pub some_select : (Text → Bool) → Elements → Bool
  some_select passes t.no_elements = false
  some_select passes (t.text s es) = some_select passes es
  some_select passes (t.placeable e es) = expression_passes passes e || some_select passes es

  pub expression_passes : (Text → Bool) → Expression → Bool
  expression_passes passes (t.select i vs) = all_pass passes vs
  expression_passes passes (t.inline i) = false

  pub all_pass : (Text → Bool) → Variants → Bool
  all_pass passes t.no_variants = true
  all_pass passes (t.variant k es d vs) = (passes (own_text es) || some_select passes es) && all_pass passes vs

-- whether the own text of a pattern passes, or all variants of a select in it
abbrev pub always : (Text → Bool) → Elements → Bool
always passes es = passes (own_text es) || some_select passes es

-- ---- what a pattern begins and ends with

abbrev mutual
  -- the texts that may end a pattern, after one that may: those of the variants, if a select is last
  pub ends_after : Text → Elements → List Text
  ends_after s t.no_elements = s ∷ []
  ends_after s (t.text u es) = ends_after (s ++ u) es
  ends_after s (t.placeable e t.no_elements) = last_texts s e
  ends_after s (t.placeable e es) = ends_after (s ++ placeable_text e) es

  pub last_texts : Text → Expression → List Text
  last_texts s (t.select i vs) = variants_ends vs
  last_texts s (t.inline i) = (s ++ placeable_text (t.inline i)) ∷ []

  pub variants_ends : Variants → List Text
  variants_ends t.no_variants = []
  variants_ends (t.variant k es d vs) = ends_after [] es ++ variants_ends vs

abbrev pub ends : Elements → List Text
ends es = ends_after [] es

-- ---- where a piece of a text is in its source

-- What stands before the next line or placeable.
abbrev pub piece : Text → Text
piece [] = []
piece (c ∷ s) = if c == line_feed || bytes_eq (take 3 (c ∷ s)) object_sign then [] else c ∷ piece s

-- the end of a text from where a piece stands first in it
abbrev pub from_piece : Text → Text → Text → Text
from_piece p otherwise [] = otherwise
from_piece p otherwise (c ∷ s) = if bytes_eq (take (length p) (c ∷ s)) p then c ∷ s else from_piece p otherwise s

-- How many bytes stand before a piece in a pattern, as the source has it. If it isn't there, or is empty, it is where the
-- text of the pattern begins.
abbrev pub place_of : Text → Text → ℕ
place_of [] s = length s - length (skip_blank s)
place_of (c ∷ p) s = length s - length (from_piece (c ∷ p) (skip_blank s) s)
