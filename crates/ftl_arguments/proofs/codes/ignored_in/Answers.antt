use Rattle.std.proofs.Common.{◌∙◌, ◌++◌, ap, ap₂}
use Rattle.ftl_arguments.specs.Linting.{unselected}
use Rattle.ftl_arguments.specs.Meaning.{texts}
use Rattle.ftl_arguments.proofs.codes.ignored_in.Goals as goal

pub returns-clause-values : goal.returns-clause-values
returns-clause-values c =
    c.in_ok-push_unselected.ensures
    ∙ ap₂ (λ a b. a ++ unselected b) c.in_ok-ignored.ensures.values (ap texts c.deref.ensures.value ∙ c.in_ok-selected.ensures.values)
