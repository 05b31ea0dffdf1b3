use Rattle.std.proofs.Common.{◌∙◌}
use Rattle.ftl_arguments.specs.Linting.{is_code}
use Rattle.ftl_arguments.proofs.AllOf.{all_so}
use Rattle.ftl_arguments.proofs.codes.known_codes_in.Goals as goal

pub returns-then-are_codes-clause-known : goal.returns-then-are_codes-clause-known
returns-then-are_codes-clause-known c =
    all_so is_code c.in_ok-values.values.items c.deref.result.now _ c.are_codes.result c.deref.ensures.value c.in_ok-values.ensures c.are_codes.ensures
    ∙ c.if-are_codes.true

pub returns-clause-unknown : goal.returns-clause-unknown
returns-clause-unknown c = λ other.
    all_so is_code c.in_ok-values.values.items c.deref.result.now _ c.are_codes.result c.deref.ensures.value c.in_ok-values.ensures c.are_codes.ensures
    ∙ c.if-are_codes.false
