use Rattle.std.proofs.Common.{◌∙◌, sym, ap}
use Rattle.lint_markup.specs.Pieces.{ends_piece}
use Rattle.lint_markup.proofs.PieceSteps.{cut_piece, piece_ends, piece_next}
use Rattle.lint_markup.proofs.spotted.piece_len.Goals as goal

pub loop-place-preserved : goal.loop-place-preserved
loop-place-preserved c =
    piece_next c.args.text.now c.loop-place.place c.loop-place-test.true (ap ends_piece (sym c.skip.ensures) ∙ sym c.ends_piece.ensures ∙ c.if-ends_piece.false) ∙ c.loop-place.invariant

pub returns-then-ends_piece-clause-value : goal.returns-then-ends_piece-clause-value
returns-then-ends_piece-clause-value c =
    sym (piece_ends c.args.text.now c.loop-place.place (ap ends_piece (sym c.skip.ensures) ∙ sym c.ends_piece.ensures ∙ c.if-ends_piece.true)) ∙ c.loop-place.invariant

pub returns-then-ends_piece-clause-cuts : goal.returns-then-ends_piece-clause-cuts
returns-then-ends_piece-clause-cuts c =
    cut_piece c.args.text.now c.loop-place.place c.loop-place-test.true (ap ends_piece (sym c.skip.ensures) ∙ sym c.ends_piece.ensures ∙ c.if-ends_piece.true)
