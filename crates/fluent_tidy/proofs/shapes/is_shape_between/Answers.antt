use Rattle.fluent_tidy.proofs.FirstShapes.{part-told}
use Rattle.fluent_tidy.proofs.shapes.is_shape_between.Goals as goal

pub returns-in-Some : goal.returns-in-Some
returns-in-Some c = part-told c.is_shape.result c.args.source.now c.in-Some.part.now c.args.start c.args.end c.in-Some.ensures.cases.0 c.is_shape.ensures
