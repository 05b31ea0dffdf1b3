use Rattle.std.proofs.Common.{map}
use Rattle.fluent_symbols.specs.NodeView.{node_view}
use Rattle.fluent_symbols.proofs.NodeSteps.{variable_added, ended_alike}
use Rattle.fluent_symbols.proofs.pattern_nodes.push_variable_reference.Goals as goal

pub returns : goal.returns
returns c =
    let ok = c.in_ok-rest in
    let all =
    variable_added c.args.name.now c.args.text.now c.skip.result.now ok.rest.now (map node_view c.args.found.now.items) (map node_view c.push_name.new.found.items)
    c.skip.ensures ok.ensures.rest ok.ensures.added in
    let last = ended_alike c.push_ended.result (map node_view c.push_ended.new.found.items) all.0 all.0 all.1 c.push_ended.ensures.rest c.push_ended.ensures.end c.push_ended.ensures.added in
    record { rest = last.0; end = last.1; added = last.2 }
