use Rattle.std.proofs.Common.{◌∙◌, ap, sym, option_map}
use Rattle.fluent_ids.specs.EntryView.{meaning_of}
use Rattle.fluent_ids.proofs.Sorted.{found_sorted}
use Rattle.fluent_ids.proofs.ids.FluentIds.get.Goals as goal

pub returns : goal.returns
returns g c = ap (option_map (meaning_of g.row.F.Denot)) c.get.ensures.value ∙ sym (found_sorted g.row.F.Denot c.args.id.now c.args.self.now.entries.entries)
