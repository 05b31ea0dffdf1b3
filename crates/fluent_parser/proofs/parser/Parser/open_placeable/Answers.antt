use Rattle.std.proofs.Common.{◌∙◌}
use Rattle.fluent_text.specs.declared.stack.reading.TheConstants.{PLACEABLE}
use Rattle.fluent_parser.specs.Depth.{Past}
use Rattle.fluent_parser.specs.Nesting.{TakesPlaceable, placeable_opens}
use Rattle.fluent_parser.proofs.Deepening.{deep_err, past_opening}
use Rattle.fluent_parser.proofs.parser.Parser.open_placeable.Goals as goal

pub returns-clause-deep : goal.returns-clause-deep
returns-clause-deep g c =
    deep_err c.open.result _ (Past TakesPlaceable c.args.self.now) c.open.ensures.past
    (past_opening TakesPlaceable c.args.self.now c.skip_blank.new.self PLACEABLE (c.skip_blank.ensures.advances.stack ∙ c.advance.ensures.advances.stack) (c.skip_blank.ensures.advances.budget ∙ c.advance.ensures.advances.budget) (placeable_opens c.requires.brace))
