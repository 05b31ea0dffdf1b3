use Rattle.std.proofs.Common.{◌∙◌}
use Rattle.ftl_arguments.specs.Linting.{is_function_name}
use Rattle.ftl_arguments.proofs.AllOf.{all_so}
use Rattle.ftl_arguments.proofs.linting.functions_in.Goals as goal

pub returns-then-are_function_names-clause-callable : goal.returns-then-are_function_names-clause-callable
returns-then-are_function_names-clause-callable c =
    all_so is_function_name c.in_ok-values.values.items c.deref.result.now _ c.are_function_names.result c.deref.ensures.value c.in_ok-values.ensures c.are_function_names.ensures
    ∙ c.if-are_function_names.true

pub returns-clause-uncallable : goal.returns-clause-uncallable
returns-clause-uncallable c = λ other.
    all_so is_function_name c.in_ok-values.values.items c.deref.result.now _ c.are_function_names.result c.deref.ensures.value c.in_ok-values.ensures c.are_function_names.ensures
    ∙ c.if-are_function_names.false
