use Rattle.std.proofs.Common.{◌∙◌, sym, ap, false}
use Rattle.std.specs.BTreeMap.{insert_entry}
use Rattle.std.specs.declared.borrow.CowStr.TheVariants as text
use Rattle.fluent_value.specs.Args.{order}
use Rattle.fluent_ids.specs.EntryView.{meaning_of}
use Rattle.fluent_ids.specs.IdsView.{ids_view}
use Rattle.fluent_ids.proofs.Sorted.{put_in}
use Rattle.fluent_ids.proofs.Steps.{put_new}
use Rattle.fluent_ids.proofs.ids.FluentIds.add_own_silently.Goals as goal

pub returns-in-Ok-clause-added : goal.returns-in-Ok-clause-added
returns-in-Ok-clause-added g c =
    let is_new = sym c.contains.ensures ∙ c.if-contains.false in
    let next = put_in g.row.F.Denot c.args.self.now.entries c.insert.new.self (text.Owned c.in_ok-from_str.field-0) c.args.entry c.in-Ok.ensures.updates in
    let copied = ap (λ k. insert_entry order (ids_view g.row.F.Denot c.args.self.now) k (meaning_of g.row.F.Denot c.args.entry)) c.in_ok-from_str.ensures.ok in
    put_new (ids_view g.row.F.Denot c.args.self.now) _ (c.args.id.now, meaning_of g.row.F.Denot c.args.entry) false is_new (next ∙ copied)
