-- Where the nodes of a pattern are. A walk goes through the text of the pattern as reading does, and lists each node
-- with the source from its first byte on.
use Rattle.std.specs.Prelude.{ℕ, zero, suc, ◌+◌, ◌==◌, ◌&&◌, if◌then◌else◌, List, [], ◌∷◌, ◌++◌, length, drop, Option, Some, None, is_some}
use Rattle.std.specs.List.{list_any}
use Rattle.fluent_meaning.specs.Same.{same_key}
use Rattle.fluent_grammar.specs.Words.{Text, open_brace, open_bracket, asterisk, colon, dot, hyphen, close_paren, begins_with, skip_spaces, skip_blank, skip_blank_block, skip_separator, after_line_end, begins_crlf, begins_arrow, name_len}
use Rattle.fluent_grammar.specs.Refusal.{Reading, got, refused}
use Rattle.fluent_grammar.specs.Tree as t
use Rattle.lint_findings.specs.Nodes.{Node, expression, select, repeated_key}
use Rattle.fluent_grammar.specs.Lines.{pattern_ends, ends_line}
use Rattle.fluent_grammar.specs.Reading.{readers, placeable_at, pattern_at, attribute_at, text_run, key_at, literal_at, name_of_argument}

-- a node, with the source from its first byte on
pub record Occurrence : Type 0 where
  pub node : Node
  pub at : Text

abbrev pub occurrence_at : Node → Text → Occurrence
occurrence_at node s = record { node = node; at = s }

-- what is read at the front of a text
abbrev pub inline_read : Text → Reading t.Inline
inline_read s = (readers (suc (length s))).inline s

abbrev pub placeable_read : Text → Reading t.Expression
placeable_read s = placeable_at (readers (suc (length s))) s

abbrev pub pattern_read : Text → Reading t.Elements
pattern_read s = pattern_at (readers (suc (length s))) s

-- the occurrences after what was read
abbrev pub on_rest : {A : Type 0} → (Text → List Occurrence) → Reading A → List Occurrence
on_rest next (got a rest) = next rest
on_rest next (refused fault) = []

abbrev pub on_some : (Text → List Occurrence) → Option Text → List Occurrence
on_some next (Some rest) = next rest
on_some next None = []

abbrev pub attribute_len : Option Text → ℕ
attribute_len None = 0
attribute_len (Some name) = suc (length name)

-- Walks through what is inside a construct: an expression, call arguments after their parenthesis, variants after
-- those with these keys, and a pattern at a line start and within a line.
pub record Walkers : Type 0 where
  pub inline : Text → List Occurrence
  pub arguments : Text → List Occurrence
  pub variants : List t.VariantKey → Text → List Occurrence
  pub line : Text → List Occurrence
  pub pieces : Text → List Occurrence

module _ (inside : Walkers) where
  abbrev pub call_occurrences : Text → List Occurrence
  call_occurrences s = inside.arguments (skip_blank (drop 1 (skip_blank s)))

  abbrev pub selector_occurrences : Text → Reading t.Expression → List Occurrence
  selector_occurrences s (got (t.select i vs) rest) = occurrence_at (select i vs) s ∷ []
  selector_occurrences s (got (t.inline i) rest) = []
  selector_occurrences s (refused fault) = []

  -- of the variants, if an arrow follows
  abbrev pub select_occurrences : Text → List Occurrence
  select_occurrences s =
      if begins_arrow s then on_some (λ rest. inside.variants [] (skip_blank rest)) (after_line_end (skip_spaces (drop 2 s)))
      else []

  abbrev pub placeable_occurrences : Text → List Occurrence
  placeable_occurrences s =
      let u = skip_blank (drop 1 s) in
      selector_occurrences u (placeable_read s)
      ++ (inside.inline u ++ on_rest (λ rest. select_occurrences (skip_blank rest)) (inline_read u))

  abbrev pub inline_occurrences : Text → Reading t.Inline → List Occurrence
  inline_occurrences s (refused fault) = []
  inline_occurrences s (got (t.nested e) rest) = placeable_occurrences s
  inline_occurrences s (got (t.function_reference id a) rest) =
      occurrence_at (expression (t.function_reference id a)) s ∷ call_occurrences (drop (length id) s)
  inline_occurrences s (got (t.term_reference id a (t.with_arguments c)) rest) =
      occurrence_at (expression (t.term_reference id a (t.with_arguments c))) s
      ∷ call_occurrences (drop (suc (length id) + attribute_len a) s)
  inline_occurrences s (got (t.term_reference id a t.no_arguments) rest) =
      occurrence_at (expression (t.term_reference id a t.no_arguments)) s ∷ []
  inline_occurrences s (got (t.message_reference id a) rest) =
      occurrence_at (expression (t.message_reference id a)) s ∷ []
  inline_occurrences s (got (t.variable_reference id) rest) = occurrence_at (expression (t.variable_reference id)) s ∷ []
  inline_occurrences s (got (t.string_literal x) rest) = occurrence_at (expression (t.string_literal x)) s ∷ []
  inline_occurrences s (got (t.number_literal x) rest) = occurrence_at (expression (t.number_literal x)) s ∷ []

  abbrev pub argument_occurrences : Text → Reading t.Inline → List Occurrence
  argument_occurrences s (refused fault) = []
  argument_occurrences s (got e rest) =
      if begins_with colon rest && is_some (name_of_argument e)
      then on_rest (λ u. inside.arguments (skip_separator u)) (literal_at (skip_blank (drop 1 rest)))
      else inside.inline s ++ inside.arguments (skip_separator rest)

  abbrev pub arguments_occurrences : Text → List Occurrence
  arguments_occurrences s = if begins_with close_paren s then [] else argument_occurrences s (inline_read s)

  abbrev pub first_occurrences : Text → Option Text → List Occurrence
  first_occurrences u None = inside.pieces u
  first_occurrences u (Some rest) = inside.line (skip_blank_block rest)

  abbrev pub pattern_occurrences : Text → List Occurrence
  pattern_occurrences s = first_occurrences (skip_spaces s) (after_line_end (skip_spaces s))

  -- a variant's pattern, and the variants after it
  abbrev pub variant_occurrences : List t.VariantKey → Text → List Occurrence
  variant_occurrences keys s = pattern_occurrences s ++ on_rest (λ rest. inside.variants keys (skip_blank rest)) (pattern_read s)

  -- a variant from its key on
  abbrev pub key_occurrences : List t.VariantKey → Text → Reading t.VariantKey → List Occurrence
  key_occurrences keys s (got k rest) =
      (if list_any (same_key k) keys then occurrence_at (repeated_key k) s ∷ [] else [])
      ++ variant_occurrences (k ∷ keys) (drop 1 (skip_blank rest))
  key_occurrences keys s (refused fault) = []

  abbrev pub variants_occurrences : List t.VariantKey → Text → List Occurrence
  variants_occurrences keys s =
      let u = if begins_with asterisk s then drop 1 s else s in
      let key = skip_blank (drop 1 u) in
      if begins_with open_bracket u then key_occurrences keys key (key_at key) else []

  abbrev pub text_occurrences : Reading Text → List Occurrence
  text_occurrences (got x rest) = if ends_line x then inside.line rest else inside.pieces rest
  text_occurrences (refused fault) = []

  abbrev pub placeable_piece_occurrences : Text → List Occurrence
  placeable_piece_occurrences s = placeable_occurrences s ++ on_rest inside.pieces (placeable_read s)

  abbrev pub pieces_occurrences : Text → List Occurrence
  pieces_occurrences s =
      if length s == 0 then []
      else if begins_with open_brace s then placeable_piece_occurrences s
      else if begins_crlf s then inside.line (drop 2 s)
      else text_occurrences (text_run s)

  abbrev pub line_occurrences : Text → List Occurrence
  line_occurrences s =
      if length (skip_spaces s) == 0 then []
      else if pattern_ends s then []
      else if begins_with open_brace (skip_spaces s) then placeable_piece_occurrences (skip_spaces s)
      else if begins_crlf (skip_spaces s) then inside.line (drop 2 (skip_spaces s))
      else text_occurrences (text_run (skip_spaces s))

abbrev pub walk_step : Walkers → Walkers
walk_step inside = record {
  inline = λ s. inline_occurrences inside s (inline_read s);
  arguments = arguments_occurrences inside;
  variants = variants_occurrences inside;
  line = line_occurrences inside;
  pieces = pieces_occurrences inside;
}

abbrev pub no_walkers : Walkers
no_walkers = record { inline = λ s. []; arguments = λ s. []; variants = λ keys s. []; line = λ s. []; pieces = λ s. [] }

unfoldable pub walkers : ℕ → Walkers
walkers zero = no_walkers
walkers (suc n) = walk_step (walkers n)

-- the occurrences of the pattern at the front of a text
abbrev pub occurrences : Text → List Occurrence
occurrences s = pattern_occurrences (walkers (suc (length s))) s

-- ---- the patterns of an entry

-- A pattern of an entry: the name of its attribute, if it isn't the value. `name_at` is the source from the name on,
-- which is the entry's for a value, and `pattern_at` from the pattern on.
pub record PatternPlace : Type 0 where
  pub attribute : Option Text
  pub name_at : Text
  pub pattern_at : Text

abbrev pub after_equals : Text → Text
after_equals name = drop 1 (skip_spaces (drop (name_len name) name))

abbrev pub and_attribute : (Text → List PatternPlace) → Text → Reading t.Attribute → List PatternPlace
and_attribute left s (refused fault) = []
and_attribute left s (got a rest) =
    let dotted = skip_spaces s in
    record { attribute = Some a.id; name_at = dotted; pattern_at = after_equals (drop 1 dotted) } ∷ left rest

unfoldable pub attribute_places : ℕ → Text → List PatternPlace
attribute_places zero s = []
attribute_places (suc n) s = if begins_with dot (skip_spaces s) then and_attribute (attribute_places n) s (attribute_at s) else []

abbrev pub after_pattern : Text → Reading t.Elements → Text
after_pattern s (got es rest) = skip_blank_block rest
after_pattern s (refused fault) = []

-- The places of the value, which may be absent, and of the attributes of the message or term at the front of a text.
abbrev pub entry_places : Text → List PatternPlace
entry_places s =
    let name = if begins_with hyphen s then drop 1 s else s in
    let p = after_equals name in
    let rest = after_pattern p (pattern_read p) in
    record { attribute = None; name_at = s; pattern_at = p } ∷ attribute_places (length rest) rest
