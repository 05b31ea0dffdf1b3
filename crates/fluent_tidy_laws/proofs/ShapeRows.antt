-- The second and the third shape, on derivations: a placeable at column 0 that starts a line of a pattern, and a lone `*`. Above each
-- row stands what is spelled; what is marked is told from the rule, by hand.
use Rattle.std.specs.Prelude.{◌≡◌, ◌≢◌, true, false, List, [], ◌∷◌, ◌++◌, ℕ, codes, None, Some}
use Rattle.std.proofs.Common.{refl, inl, inr}
use Rattle.fluent_grammar.specs.Words.{Text}
use Rattle.fluent_grammar.specs.Tree as t
use Rattle.fluent_grammar.specs.Lines.{at_line_start, in_line, placed, elements_of}
use Rattle.fluent_grammar.specs.Blanks.{no_lines}
use Rattle.fluent_grammar.specs.Lexical.{SpellsName, SpellsNumber, unsigned, whole, identifier_key, SpellsText, to_line_feed, to_brace, text_byte}
use Rattle.fluent_grammar.specs.Spelling.{BeginsText, a_number_literal, a_function_reference, a_placeable, no_more, positional, SpellsPlaceable, in_braces, an_inline, a_select, all_read, lone_mark, the_default, keyed, SpellsPattern, on_the_next, on_the_line, nothing_left, text_piece, placeable_piece, pattern_over, line_of_text, line_of_placeable, next_line, same_line, SpellsHead, a_head, SpellsAttribute, an_attribute, SpellsAttributes, no_more_attributes, one_more_attribute, SpellsEntry, a_message, a_term}
use Rattle.fluent_grammar.specs.Tiles.{full, entry, blank_block, blank_first, source_ends, an_entry, Tiles}
use Rattle.fluent_grammar.proofs.Computing.{computing}
use Rattle.fluent_tidy_laws.specs.Cut.{cut}
use Rattle.fluent_tidy_laws.specs.Shapes.{placeable_marked, pattern_marked, entry_marked, IsShaped}

-- ---- what the rows are made of, before any rest

-- 1 before a brace, before an arrow
one : (rest : Text) → SpellsNumber (codes "1") (codes "1}" ++ rest) (codes "}" ++ rest)
one rest = unsigned (whole (record { digit_first = refl; run = record { split = refl; passing = refl; longest = refl } }) refl)

one_arrow : (rest : Text) → SpellsNumber (codes "1") (codes "1->" ++ rest) (codes "->" ++ rest)
one_arrow rest = unsigned (whole (record { digit_first = refl; run = record { split = refl; passing = refl; longest = refl } }) refl)

-- {1}
abbrev one_expression : t.Expression
one_expression = t.inline (t.number_literal (codes "1"))

abbrev braced : (rest : Text) → SpellsPlaceable one_expression (codes "{1}" ++ rest) rest
braced rest = in_braces refl (an_inline (a_number_literal (one rest)) refl refl) refl

-- texts: x\n, x before a brace, \n
x_line : (rest : Text) → SpellsText (codes "x\n") (codes "x\n" ++ rest) rest
x_line rest = text_byte refl refl to_line_feed

x_brace : (rest : Text) → SpellsText (codes "x") (codes "x{" ++ rest) (codes "{" ++ rest)
x_brace rest = text_byte refl refl to_brace

feed : (rest : Text) → SpellsText (codes "\n") (codes "\n" ++ rest) rest
feed rest = to_line_feed

begins_x : (rest : Text) → BeginsText (codes "x" ++ rest)
begins_x rest = record { not_end = λ e. absurd cc; no_brace = refl; no_crlf = refl }

begins_feed : (rest : Text) → BeginsText (codes "\n" ++ rest)
begins_feed rest = record { not_end = λ e. absurd cc; no_brace = refl; no_crlf = refl }

-- names: b before a bracket, before an equals sign; F before a parenthesis
b_key : (rest : Text) → SpellsName (codes "b") (codes "b]" ++ rest) (codes "]" ++ rest)
b_key rest = record { letter_first = refl; run = record { split = refl; passing = refl; longest = refl } }

b_equals : (rest : Text) → SpellsName (codes "b") (codes "b=" ++ rest) (codes "=" ++ rest)
b_equals rest = record { letter_first = refl; run = record { split = refl; passing = refl; longest = refl } }

f_call : (rest : Text) → SpellsName (codes "F") (codes "F(" ++ rest) (codes "(" ++ rest)
f_call rest = record { letter_first = refl; run = record { split = refl; passing = refl; longest = refl } }

-- what isn't empty
some_bytes : {c : ℕ} {s : Text} → c ∷ s ≢ []
some_bytes e = absurd cc

some_value : {e : t.Expression} {es : t.Elements} → t.placeable e es ≢ t.no_elements
some_value e = absurd cc

some_attribute : {a : t.Attribute} {others : List t.Attribute} → a ∷ others ≢ []
some_attribute e = absurd cc

-- ---- patterns, as they are after an equals sign

-- \n{1}: the first line of the pattern is the one below, and it begins with the placeable.
abbrev below_the_sign : SpellsPattern (t.placeable one_expression t.no_elements) (codes "\n{1}") []
below_the_sign = on_the_next refl (line_of_placeable refl (braced []) nothing_left) refl

below_the_sign-marked : pattern_marked below_the_sign ≡ true
below_the_sign-marked = refl

-- {1}: no line starts here.
abbrev on_the_first_line : SpellsPattern (t.placeable one_expression t.no_elements) (codes "{1}") []
on_the_first_line = on_the_line refl (placeable_piece (braced []) nothing_left) refl

on_the_first_line-unmarked : pattern_marked on_the_first_line ≡ false
on_the_first_line-unmarked = refl

-- \n {1}: it starts its line at column 1.
abbrev behind_a_space : SpellsPattern (t.placeable one_expression t.no_elements) (codes "\n {1}") []
behind_a_space = on_the_next refl (line_of_placeable refl (braced []) nothing_left) refl

behind_a_space-unmarked : pattern_marked behind_a_space ≡ false
behind_a_space-unmarked = refl

-- \n\n  \n{1}: blank lines in between change nothing.
abbrev below_blank_lines : SpellsPattern (t.placeable one_expression t.no_elements) (codes "\n\n  \n{1}") []
below_blank_lines = on_the_next refl (line_of_placeable refl (braced []) nothing_left) refl

below_blank_lines-marked : pattern_marked below_blank_lines ≡ true
below_blank_lines-marked = refl

-- x\n{1}: on the second line of the pattern, after a text
abbrev below_a_text : SpellsPattern (elements_of (in_line (codes "x\n") ∷ placed true one_expression ∷ [])) (codes "x\n{1}") []
below_a_text = on_the_line refl (text_piece (begins_x _) (x_line _) (next_line (line_of_placeable refl (braced []) nothing_left))) refl

below_a_text-marked : pattern_marked below_a_text ≡ true
below_a_text-marked = refl

-- x{1}: after a text of the same line
abbrev behind_a_text : SpellsPattern (elements_of (in_line (codes "x") ∷ placed false one_expression ∷ [])) (codes "x{1}") []
behind_a_text = on_the_line refl (text_piece (begins_x _) (x_brace _) (same_line (placeable_piece (braced []) nothing_left))) refl

behind_a_text-unmarked : pattern_marked behind_a_text ≡ false
behind_a_text-unmarked = refl

-- \n x{1}: the line starts with a text.
abbrev behind_a_text_below : SpellsPattern (elements_of (at_line_start 1 (codes "x") ∷ placed false one_expression ∷ [])) (codes "\n x{1}") []
behind_a_text_below = on_the_next refl (line_of_text refl (begins_x _) (x_brace _) (same_line (placeable_piece (braced []) nothing_left))) refl

behind_a_text_below-unmarked : pattern_marked behind_a_text_below ≡ false
behind_a_text_below-unmarked = refl

-- {1}\n{1}: the first stands on the first line, the second starts a line at column 0.
abbrev one_below_the_other : SpellsPattern (elements_of (placed false one_expression ∷ in_line (codes "\n") ∷ placed true one_expression ∷ [])) (codes "{1}\n{1}") []
one_below_the_other = on_the_line refl (placeable_piece (braced _) (text_piece (begins_feed _) (feed _) (next_line (line_of_placeable refl (braced []) nothing_left)))) refl

one_below_the_other-marked : pattern_marked one_below_the_other ≡ true
one_below_the_other-marked = refl

-- \n  {1}\n  {1}: both start a line, at column 2.
abbrev both_behind_spaces : SpellsPattern (elements_of (placed false one_expression ∷ in_line (codes "\n") ∷ placed false one_expression ∷ [])) (codes "\n  {1}\n  {1}") []
both_behind_spaces = on_the_next refl (line_of_placeable refl (braced _) (text_piece (begins_feed _) (feed _) (next_line (line_of_placeable refl (braced []) nothing_left)))) refl

both_behind_spaces-unmarked : pattern_marked both_behind_spaces ≡ false
both_behind_spaces-unmarked = refl

-- \n  x\n{1}{1}: of the last line the first placeable stands at column 0.
abbrev two_on_a_line : SpellsPattern (elements_of (at_line_start 2 (codes "x\n") ∷ placed true one_expression ∷ placed false one_expression ∷ [])) (codes "\n  x\n{1}{1}") []
two_on_a_line = on_the_next refl (line_of_text refl (begins_x _) (x_line _) (next_line (line_of_placeable refl (braced _) (placeable_piece (braced []) nothing_left)))) refl

two_on_a_line-marked : pattern_marked two_on_a_line ≡ true
two_on_a_line-marked = refl

-- ---- within placeables

-- {\n{1}\n}: a placeable in a placeable. What stands at column 0 is no line of a pattern.
abbrev nested_below : SpellsPlaceable (t.inline (t.nested one_expression)) (codes "{\n{1}\n}") []
nested_below = in_braces refl (an_inline (a_placeable (braced _)) refl refl) refl

nested_below-unmarked : placeable_marked nested_below ≡ false
nested_below-unmarked = refl

-- {F(\n{1}\n)}: so with call arguments.
abbrev argument_below : SpellsPlaceable (t.inline (t.function_reference (codes "F") (t.arguments (t.positional (t.nested one_expression) t.no_inlines) t.no_nameds))) (codes "{F(\n{1}\n)}") []
argument_below = in_braces refl (an_inline (a_function_reference (f_call _) refl refl (positional (a_placeable (braced _)) tt (no_more refl))) refl refl) refl

argument_below-unmarked : placeable_marked argument_below ≡ false
argument_below-unmarked = refl

-- what a select of `1` with the one variant `b`, of this value, is
abbrev one_variant : t.Elements → t.Expression
one_variant value = t.select (t.number_literal (codes "1")) (t.variant (t.identifier_key (codes "b")) value true t.no_variants)

-- {1->\n*[b]{1}\n}: in a variant, after its key
abbrev behind_a_key : SpellsPlaceable (one_variant (elements_of (placed false one_expression ∷ in_line (codes "\n") ∷ []))) (codes "{1->\n*[b]{1}\n}") []
behind_a_key =
    in_braces refl
    (a_select (a_number_literal (one_arrow _)) refl refl refl
    (the_default refl
    (keyed refl (identifier_key (b_key _)) refl
    (on_the_line refl (placeable_piece (braced _) (text_piece (begins_feed _) (feed _) (next_line (pattern_over some_bytes refl)))) refl) some_value)
    (all_read refl refl)))
    refl

behind_a_key-unmarked : placeable_marked behind_a_key ≡ false
behind_a_key-unmarked = refl

-- {1->\n*[b]\n{1}\n}: in a variant, below its key
abbrev below_a_key : (rest : Text) → SpellsPlaceable (one_variant (elements_of (placed true one_expression ∷ in_line (codes "\n") ∷ []))) (codes "{1->\n*[b]\n{1}\n}" ++ rest) rest
below_a_key rest =
    in_braces refl
    (a_select (a_number_literal (one_arrow _)) refl refl refl
    (the_default refl
    (keyed refl (identifier_key (b_key _)) refl
    (on_the_next refl (line_of_placeable refl (braced _) (text_piece (begins_feed _) (feed _) (next_line (pattern_over some_bytes refl)))) refl) some_value)
    (all_read refl refl)))
    refl

below_a_key-marked : placeable_marked (below_a_key []) ≡ true
below_a_key-marked = refl

-- {F({1->\n*[b]\n{1}\n})}: the same in a call argument
abbrev variant_in_argument : SpellsPlaceable (t.inline (t.function_reference (codes "F") (t.arguments (t.positional (t.nested (one_variant (elements_of (placed true one_expression ∷ in_line (codes "\n") ∷ [])))) t.no_inlines) t.no_nameds))) (codes "{F({1->\n*[b]\n{1}\n})}") []
variant_in_argument = in_braces refl (an_inline (a_function_reference (f_call _) refl refl (positional (a_placeable (below_a_key _)) tt (no_more refl))) refl refl) refl

variant_in_argument-marked : placeable_marked variant_in_argument ≡ true
variant_in_argument-marked = refl

-- {1->\n*}: the third shape
abbrev lone : SpellsPlaceable (t.select (t.number_literal (codes "1")) t.no_variants) (codes "{1->\n*}") []
lone = in_braces refl (a_select (a_number_literal (one_arrow _)) refl refl refl (lone_mark refl refl)) refl

lone-marked : placeable_marked lone ≡ true
lone-marked = refl

-- ---- entries

no_attributes : SpellsAttributes [] [] []
no_attributes = no_more_attributes (λ a rest d. none d)
  where
    none : {a : t.Attribute} {rest : Text} → SpellsAttribute a [] rest → ⊥
    none (an_attribute b d h) = cc

-- b=\n{1}
abbrev head_below : SpellsHead (codes "b") (t.placeable one_expression t.no_elements) (codes "b=\n{1}") []
head_below = a_head (b_equals _) refl below_the_sign

abbrev message_below : SpellsEntry (t.message (record { id = codes "b"; value = Some (t.placeable one_expression t.no_elements); attributes = []; comment = None })) (codes "b=\n{1}") []
message_below = a_message head_below no_attributes (inl some_value)

message_below-marked : entry_marked message_below ≡ true
message_below-marked = refl

-- -b=\n{1}
abbrev term_below : SpellsEntry (t.term (record { id = codes "b"; value = t.placeable one_expression t.no_elements; attributes = []; comment = None })) (codes "-b=\n{1}") []
term_below = a_term refl head_below no_attributes some_value

term_below-marked : entry_marked term_below ≡ true
term_below-marked = refl

-- b=\n .b=\n{1}: a message without a value, by its attribute
abbrev attribute_below : SpellsEntry (t.message (record { id = codes "b"; value = None; attributes = record { id = codes "b"; value = t.placeable one_expression t.no_elements } ∷ []; comment = None })) (codes "b=\n .b=\n{1}") []
attribute_below =
    a_message (a_head (b_equals _) refl (on_the_next refl (pattern_over some_bytes refl) refl))
    (one_more_attribute (an_attribute refl head_below some_value) no_attributes) (inr some_attribute)

attribute_below-marked : entry_marked attribute_below ≡ true
attribute_below-marked = refl

-- ---- sources

-- !\nb=\n{1}: the junk is cut away, and the shape is left.
behind_junk_cut : cut (codes "!\nb=\n{1}") ≡ codes "b=\n{1}"
unfolding computing
behind_junk_cut = refl

abbrev message_alone : Tiles full (blank_block [] ∷ entry (codes "b=\n{1}") (t.message (record { id = codes "b"; value = Some (t.placeable one_expression t.no_elements); attributes = []; comment = None })) ∷ blank_block [] ∷ []) (codes "b=\n{1}")
message_alone =
    blank_first (record { split = refl; lines = no_lines; longest = refl })
    (an_entry refl message_below refl (blank_first (record { split = refl; lines = no_lines; longest = refl }) source_ends))

behind_junk : IsShaped (codes "b=\n{1}")
unfolding computing
behind_junk = record { parts = _; tiling = message_alone; found = refl }

-- b=\n{1\nb={1}: what stands at column 0 is junk, and is cut away.
in_junk : cut (codes "b=\n{1\nb={1}") ≡ codes "b={1}"
unfolding computing
in_junk = refl
