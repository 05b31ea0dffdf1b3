use Rattle.fluent_parser.specs.Selects.{expression_with}
use Rattle.fluent_parser.specs.Steps.{closed_by}
use Rattle.fluent_parser.proofs.PutPieces.{placeable_put}
use Rattle.fluent_parser.proofs.parser.Parser.close_placeable_piece.Goals as goal

pub returns-clause-gives : goal.returns-clause-gives
returns-clause-gives g c =
    placeable_put g.row.S.Denot g.T.Texts.text c.args.gathered.now c.push.new.self c.close_placeable.new.self.rest.now c.in_ok-expression.expression c.args.column_zero c.then_some.result
    (closed_by (expression_with g.row.S.Denot g.T.Texts.text c.args.selector c.args.variants) c.args.self.now.rest.now) c.in_ok-expression.ensures.gives c.then_some.ensures
    (record { elements = c.in_ok-push.ensures.elements; begins_line = c.push.ensures.begins_line; common_indent = c.push.ensures.common_indent })
