-- The grammar's readers of what nests or repeats, cut into the steps that the parser takes.
use Rattle.std.specs.Prelude.{ℕ, Bool, true, false, ◌&&◌, ◌==◌, List, [], ◌∷◌, length, drop, Option, Some, None, map, reverse, if◌then◌else◌}
use Rattle.fluent_grammar.specs.Words.{Text, asterisk, begins_with, begins_crlf, after_line_end, open_brace, close_brace, colon, line_feed, spaces, skip_blank, skip_blank_block}
use Rattle.fluent_grammar.specs.Refusal.{Reading, got, refuse, mapped, ◌>>=◌}
use Rattle.fluent_grammar.specs.Refusal as r
use Rattle.fluent_grammar.specs.Tree as t
use Rattle.fluent_grammar.specs.Lines.{Piece, at_line_start, in_line, placed, elements_of, value_of, ends_line, pattern_ends}
use Rattle.fluent_grammar.specs.Reading.{select_or_inline_at, pattern_at, first_pieces_at, name_of_argument, text_run}
use Rattle.fluent_parser.specs.Reads.{whole, byte_at, key_in_brackets_at, argument_value_at}
use Rattle.fluent_tokens.specs.Lookup.{is_last_feed}
use Rattle.fluent_ast.specs.View.{Variant, Named}

-- an inline expression or a select
unfoldable pub expression_by : Text → Reading t.Expression
expression_by s = whole.inline s >>= (λ e. select_or_inline_at whole e.0 (skip_blank e.1))

-- the closing brace of a placeable, after blank
abbrev pub closed_by : t.Expression → Text → Reading t.Expression
closed_by e s = byte_at close_brace (skip_blank s) >>= (λ u. got e u.1)

-- a placeable, from its opening brace on
unfoldable pub placeable_by : Text → Reading t.Expression
placeable_by s = expression_by (skip_blank (drop 1 s)) >>= (λ x. closed_by x.0 x.1)

-- a placeable as an inline expression
abbrev pub nested_by : Text → Reading t.Inline
nested_by s = mapped t.nested (placeable_by s)

-- a piece of a pattern that is this expression, whether or not at column zero
abbrev pub placed_piece : Bool → t.Expression → Option (Piece × Bool)
placed_piece column_zero e = Some (placed column_zero e, false)

-- a placeable as a piece of a pattern
abbrev pub placeable_piece_by : Bool → Text → Reading (Option (Piece × Bool))
placeable_piece_by column_zero s = mapped (placed_piece column_zero) (placeable_by s)

-- what may be a pattern
abbrev pub pattern_by : Text → Reading (Option t.Elements)
pattern_by s = mapped value_of (pattern_at whole s)

-- the same, after the blank inline before it
unfoldable pub pattern_behind : Text → Reading (Option t.Elements)
pattern_behind s = mapped value_of (mapped elements_of (first_pieces_at whole s (after_line_end s)))

-- a pattern has to be there
abbrev pub present : Option t.Elements → Text → Reading t.Elements
present None s = refuse r.missing_value s
present (Some es) s = got es s

-- a variant, from its opening bracket on
unfoldable pub variant_by : Bool → Text → Reading Variant
variant_by default s =
    key_in_brackets_at (drop 1 s) >>= (λ key. pattern_by key.1 >>= (λ value. present value.0 value.1 >>= (λ es.
    got (record { key = key.0; value = es.0; default = default }) es.1)))

-- the variants that are left, after some
abbrev pub variants_behind : List Variant → t.Variants → t.Variants
variants_behind [] vs = vs
variants_behind (v ∷ more) vs = t.variant v.key v.value v.default (variants_behind more vs)

-- one argument of a call
pub data Argument : Type 0 where
  positional : t.Inline → Argument
  named : Named → Argument

-- a positional argument, which no named one may stand before
abbrev pub positional_by : List Text → t.Inline → Text → Reading Argument
positional_by [] e s = got (positional e) s
positional_by (name ∷ names) e s = refuse r.positional_argument_follows_named s

-- an argument, by the name that its expression may be
abbrev pub named_or_positional_by : List Text → t.Inline → Option Text → Text → Reading Argument
named_or_positional_by names e None s = positional_by names e s
named_or_positional_by names e (Some name) s =
    if begins_with colon s then mapped (λ v. named (record { name = name; value = v })) (argument_value_at names name s)
    else positional_by names e s

-- an argument after named ones of these names
unfoldable pub argument_by : List Text → Text → Reading Argument
argument_by names s = whole.inline s >>= (λ e. named_or_positional_by names e.0 (name_of_argument e.0) e.1)

-- the names before, with that of an argument
abbrev pub names_with : Argument → List Text → List Text
names_with (positional e) names = names
names_with (named n) names = n.name ∷ names

-- the arguments that are left, after one
abbrev pub with_argument : Argument → t.Arguments → t.Arguments
with_argument (positional e) (t.arguments ps ns) = t.arguments (t.positional e ps) ns
with_argument (named n) (t.arguments ps ns) = t.arguments ps (t.named n.name n.value ns)

-- positional arguments after some
abbrev pub inlines_behind : List t.Inline → t.Inlines → t.Inlines
inlines_behind [] es = es
inlines_behind (e ∷ more) es = t.positional e (inlines_behind more es)

-- named arguments after some
abbrev pub nameds_behind : List Named → t.Nameds → t.Nameds
nameds_behind [] ns = ns
nameds_behind (n ∷ more) ns = t.named n.name n.value (nameds_behind more ns)

-- the arguments that are left, after some
abbrev pub arguments_behind : List t.Inline → List Named → t.Arguments → t.Arguments
arguments_behind ps ns (t.arguments es ms) = t.arguments (inlines_behind ps es) (nameds_behind ns ms)

-- the names of named arguments, the last one first
abbrev pub names_of : List Named → List Text
names_of ns = reverse (map (λ n. n.name) ns)

-- a text of a pattern
abbrev pub text_piece : Bool → ℕ → Text → Piece
text_piece true indent x = at_line_start indent x
text_piece false indent x = in_line x

-- how many spaces are an indent here: those of a line start
abbrev pub indent_at : Bool → Text → ℕ
indent_at true s = spaces s
indent_at false s = 0

-- a text, and whether it ends its line
abbrev pub text_step : Bool → ℕ → Text → Reading (Option (Piece × Bool))
text_step line indent u = text_run u >>= (λ x. got (Some (text_piece line indent x.0, ends_line x.0)) x.1)

-- the next piece of a pattern after so many spaces, and whether it ends its line; None where the text ends
abbrev pub piece_behind : Bool → ℕ → Text → Reading (Option (Piece × Bool))
piece_behind line indent u =
    if length u == 0 then got None []
    else if begins_with open_brace u then mapped (λ e. Some (placed (line && indent == 0) e, false)) (placeable_by u)
    else if begins_crlf u then got (Some (in_line (line_feed ∷ []), true)) (drop 2 u)
    else text_step line indent u

-- the next piece, from before its spaces
abbrev pub piece_from : Bool → ℕ → Text → Reading (Option (Piece × Bool))
piece_from line indent s = piece_behind line indent (drop indent s)

-- a text, from before its spaces
abbrev pub text_from : Bool → ℕ → Text → Reading (Option (Piece × Bool))
text_from line indent s = text_step line indent (drop indent s)

-- The next piece, at a line start or within a line. None where the pattern ends.
unfoldable pub piece_by : Bool → Text → Reading (Option (Piece × Bool))
piece_by line s = if line && pattern_ends s then got None s else piece_behind line (indent_at line s) (drop (indent_at line s) s)

-- The same, but a last line feed is passed over, since no blank end of a pattern is kept.
unfoldable pub kept_piece_by : Bool → Text → Reading (Option (Piece × Bool))
kept_piece_by line s = if line && is_last_feed s then got None (drop 1 s) else piece_by line s

-- all pieces that are left
abbrev pub pieces_by : Bool → Text → Reading (List Piece)
pieces_by true s = whole.line s
pieces_by false s = whole.pieces s

-- the pieces that are left, after one
abbrev pub pieces_after : Option (Piece × Bool) → Text → Reading (List Piece)
pieces_after None s = got [] s
pieces_after (Some p) s = mapped (λ ps. p.0 ∷ ps) (pieces_by p.1 s)

-- whether a pattern's first piece stands at a line start, and where
abbrev pub first_place : Text → Option Text → Bool × Text
first_place s None = (false, s)
first_place s (Some rest) = (true, skip_blank_block rest)

-- the mark of the default variant, where none stood before; whether it stands here
abbrev pub default_mark_at : Bool → Text → Reading Bool
default_mark_at marked s =
    if begins_with asterisk s then (if marked then refuse r.multiple_default_variants (drop 1 s) else got true (drop 1 s))
    else got false s
