-- Selects as they are read, from after their selector.
use Rattle.std.specs.Global.{Vec}
use Rattle.fluent_grammar.specs.Words.{Text, skip_blank}
use Rattle.std.specs.Prelude.{Bool, Option, Some, None}
use Rattle.fluent_grammar.specs.Lines.{Piece}
use Rattle.fluent_grammar.specs.Refusal.{Reading, mapped}
use Rattle.fluent_grammar.specs.Tree as t
use Rattle.fluent_grammar.specs.Reading.{select_at, select_or_inline_at, selector_fault}
use Rattle.fluent_ast.specs.View.{inline_view, variants_view}
use Rattle.fluent_ast.specs.declared.InlineExpression.{InlineExpression}
use Rattle.fluent_ast.specs.declared.Variant.{Variant}
use Rattle.fluent_parser.specs.Reads.{whole}
use Rattle.fluent_parser.specs.Steps.{closed_by, placed_piece}

module _ (S : Type 0) (text_of : S → Text) where
  -- a select over this selector
  abbrev pub select_view : InlineExpression S → Vec (Variant S) → t.Expression
  select_view selector variants = t.select (inline_view S text_of selector) (variants_view S text_of variants.items)

  -- the reading of one, from its arrow on
  abbrev pub select_by : InlineExpression S → Text → Reading t.Expression
  select_by selector s = select_at whole (inline_view S text_of selector) (selector_fault (inline_view S text_of selector)) s

  -- an expression with these variants, or the selector alone
  abbrev pub expression_with : InlineExpression S → Option (Vec (Variant S)) → t.Expression
  expression_with selector None = t.inline (inline_view S text_of selector)
  expression_with selector (Some variants) = select_view selector variants

  -- the reading of one, from after its selector
  abbrev pub select_or_inline_by : InlineExpression S → Text → Reading t.Expression
  select_or_inline_by selector s = select_or_inline_at whole (inline_view S text_of selector) (skip_blank s)

  -- the rest of a placeable in an expression, after its selector and its variants
  abbrev pub nested_end_by : InlineExpression S → Option (Vec (Variant S)) → Text → Reading t.Inline
  nested_end_by selector variants s = mapped t.nested (closed_by (expression_with selector variants) s)

  -- the same for one in a pattern
  abbrev pub piece_end_by : Bool → InlineExpression S → Option (Vec (Variant S)) → Text → Reading (Option (Piece × Bool))
  piece_end_by column_zero selector variants s = mapped (placed_piece column_zero) (closed_by (expression_with selector variants) s)
