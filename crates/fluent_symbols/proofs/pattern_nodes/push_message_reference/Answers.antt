use Rattle.std.proofs.Common.{◌≡◌, ◌∙◌, map, ap, sym}
use Rattle.fluent_ast.specs.Borrowed.{name_of}
use Rattle.fluent_symbols.specs.NodePartView.{name_if}
use Rattle.fluent_symbols.specs.NodeView.{node_view}
use Rattle.fluent_symbols.specs.PatternNodes.{message_end}
use Rattle.fluent_symbols.proofs.NodeSteps.{with_attribute, without_attribute, message_added, ended_alike}
use Rattle.fluent_symbols.proofs.pattern_nodes.push_message_reference.Goals as goal
use Rattle.fluent_symbols.proofs.pattern_nodes.push_message_reference.Goals.{then-is_some, else-is_some}

pub returns : goal.returns
returns c =
    let attribute = c.args.attribute.now in
    let name = c.in_ok-named in
    let rest = c.in_ok-rest in
    let some = c.is_some.ensures in
    let end =
    elim c.if-is_some.branch as (λ _. c.if-is_some.end.now ≡ message_end (name_if attribute) name.named.now) [
      | then-is_some w ↦ with_attribute name_of attribute name.named.now c.skip_blank.result.now rest.rest.now c.if-is_some.end.now (sym some ∙ w.if-is_some.true) c.skip_blank.ensures rest.ensures.rest (ap (λ r. r.now) w.end-is)
      | else-is_some w ↦ without_attribute name_of attribute name.named.now c.if-is_some.end.now (sym some ∙ w.if-is_some.false) (ap (λ r. r.now) w.end-is)
    ] in
    let all =
    message_added c.args.name.now (name_if attribute) c.args.text.now name.named.now c.skip_blank.result.now rest.rest.now c.if-is_some.end.now
    (map node_view c.args.found.now.items) (map node_view c.push_name.new.found.items) (map node_view c.push_attribute.new.found.items)
    name.ensures.rest c.skip_blank.ensures rest.ensures.rest end name.ensures.added rest.ensures.added in
    let last = ended_alike c.push_ended.result (map node_view c.push_ended.new.found.items) all.0 all.1 all.2 c.push_ended.ensures.rest c.push_ended.ensures.end c.push_ended.ensures.added in
    record { rest = last.0; end = last.1; added = last.2 }
