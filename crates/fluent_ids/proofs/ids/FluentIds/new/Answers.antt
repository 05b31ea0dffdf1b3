use Rattle.std.proofs.Common.{◌∙◌, ap}
use Rattle.fluent_ids.specs.IdsView.{sorted}
use Rattle.fluent_ids.proofs.Sorted.{none_sorted}
use Rattle.fluent_ids.proofs.ids.FluentIds.new.Goals as goal

pub returns : goal.returns
returns g c = ap (sorted g.row.F.Denot) c.new.ensures.empty ∙ none_sorted g.row.F.Denot
