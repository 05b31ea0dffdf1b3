use Rattle.std.proofs.Common.{ap, ◌∙◌, map}
use Rattle.fluent_syntax.specs.ForCallers.{error_told, listed}
use Rattle.example_callers.proofs.desk.cleaned_tree.Goals as goal

pub returns-in-Ok : goal.returns-in-Ok
returns-in-Ok c = ap listed c.in-Ok.ensures.tree ∙ c.in_ok-text.ensures.same_list

-- what was cleaned has no errors to report
pub unreachable-requires : goal.unreachable-requires
unreachable-requires c =
    let told = rw c.in-Err-Broken.field-0-is at c.in-Err-Broken.ensures.errors in
    told.1 (ap (map error_told) c.in_ok-text.ensures.no_errors)
