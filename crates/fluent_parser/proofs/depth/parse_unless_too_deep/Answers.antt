use Rattle.fluent_parser.proofs.Weights.{nesting_weighs}
use Rattle.fluent_parser.proofs.depth.parse_unless_too_deep.Goals as goal

pub returns-clause-weighs : goal.returns-clause-weighs
returns-clause-weighs g c = nesting_weighs c.args.budget.bytes (g.S.Slice.text c.args.input) (rw c.in-Err-TooDeep.field-0-is at c.in-Err-TooDeep.ensures.deep)
