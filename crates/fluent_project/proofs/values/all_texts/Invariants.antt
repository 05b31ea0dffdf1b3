use Rattle.std.proofs.Common.{◌≡◌, drop}
use Rattle.toml.specs.View.{items_view}
use Rattle.fluent_project.specs.FileValues.{all_texts}
use Rattle.fluent_project.specs.PlaceViews.{texts}
use Rattle.fluent_project.proofs.Collected.{before}
use Rattle.fluent_project.proofs.values.all_texts.Given as goal

abbrev pub invariant-loop-value : goal.invariant-loop-value
invariant-loop-value l = before (texts l.texts.items) (all_texts (items_view (drop l.value-index l.values))) ≡ all_texts (items_view l.values)
