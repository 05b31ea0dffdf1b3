use Rattle.std.proofs.Common.{ap, option_map}
use Rattle.fluent_ast.specs.Borrowed.{elements_of}
use Rattle.lint_entries.specs.AttributePlaces.{value_elements}
use Rattle.lint_comparison.proofs.PlacesAdded.{nothing_added}
use Rattle.lint_comparison.proofs.places.Places.add_value.Goals as goal

pub returns-in-None-clause-added : goal.returns-in-None-clause-added
returns-in-None-clause-added c =
    nothing_added c.args.self.now c.args.text.now c.requires.0 (value_elements (option_map elements_of c.args.value.now)) (ap (λ v. value_elements (option_map elements_of v)) c.in-None.is) c.requires.1
