use Rattle.std.proofs.Common.{rules, [], ◌<◌, length}
use Rattle.fluent_ids.specs.IdsView.{ids_view}
use Rattle.lint_nodes.proofs.Reaching.{reaching_first, reaching_more, reaching_falls, reaching_all}
use Rattle.lint_nodes.proofs.variables.variables_of.Goals as goal

pub loop-next-init : goal.loop-next-init
loop-next-init g c =
    reaching_first (ids_view g.row.F.Denot c.args.ids.now) c.args.id.now (record { messages = c.add.new.self; variables = c.new-reached.result.variables; alloc = c.new-reached.result.alloc })
    (record { messages_are = c.in_ok-add.ensures [] c.new-reached.ensures.messages_are; variables_are = c.new-reached.ensures.variables_are })

pub loop-next-preserved : goal.loop-next-preserved
loop-next-preserved g c =
    let below : c.loop-next.next < length c.loop-next.reached.messages.list.items = search rules in
    reaching_more (ids_view g.row.F.Denot c.args.ids.now) c.args.id.now c.loop-next.reached c.add_referred.new.self c.loop-next.next c.index-message.result.now c.loop-next.invariant below c.index-message.ensures c.in_ok-add_referred.ensures

pub loop-next-smaller : goal.loop-next-smaller
loop-next-smaller g c =
    let below : c.loop-next.next < length c.loop-next.reached.messages.list.items = search rules in
    reaching_falls (ids_view g.row.F.Denot c.args.ids.now) c.args.id.now c.loop-next.reached c.loop-next.next c.loop-next.invariant below

pub returns : goal.returns
returns g c = reaching_all (ids_view g.row.F.Denot c.args.ids.now) c.args.id.now c.loop-next.reached c.loop-next.next c.loop-next.invariant (search rules)
