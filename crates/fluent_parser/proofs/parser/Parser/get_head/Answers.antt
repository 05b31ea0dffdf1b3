use Rattle.std.proofs.Common.{◌∙◌, rules}
use Rattle.fluent_parser.specs.Depth.{Past, PastSomewhere}
use Rattle.fluent_parser.specs.Nesting.{TakesPattern}
use Rattle.fluent_parser.proofs.Deepening.{deep_map, deep_none, somewhere}
use Rattle.fluent_parser.proofs.parser.Parser.get_head.Goals as goal

pub returns-in_err-id-clause-deep : goal.returns-in_err-id-clause-deep
returns-in_err-id-clause-deep g c = search (rules, deep_none c.in_err-id.field-0.0 (PastSomewhere c.args.self.now) c.in_err-id.ensures.shallow)

pub returns-in_err-expect_byte-clause-deep : goal.returns-in_err-expect_byte-clause-deep
returns-in_err-expect_byte-clause-deep g c = search (rules, deep_none c.in_err-expect_byte.field-0.0 (PastSomewhere c.args.self.now) c.in_err-expect_byte.ensures.shallow)

pub returns-in_err-value-clause-deep : goal.returns-in_err-value-clause-deep
returns-in_err-value-clause-deep g c =
    search (
      rules,
      deep_map c.in_err-value.field-0.0 (Past TakesPattern c.expect_byte.new.self) (PastSomewhere c.args.self.now) c.in_err-value.ensures.deep
          (somewhere c.args.self.now c.skip_blank_inline.new.self c.expect_byte.new.self tt c.in_ok-expect_byte.ensures.gives (c.skip_blank_inline.ensures.advances.text ∙ c.get_identifier.ensures.advances.text)
          (c.expect_byte.ensures.advances.stack ∙ c.skip_blank_inline.ensures.advances.stack ∙ c.get_identifier.ensures.advances.stack) (c.expect_byte.ensures.advances.budget ∙ c.skip_blank_inline.ensures.advances.budget ∙ c.get_identifier.ensures.advances.budget)),
    )
