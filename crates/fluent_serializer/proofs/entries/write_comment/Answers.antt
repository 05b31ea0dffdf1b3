use Rattle.std.proofs.Common.{map, take, ap, sym, ◌∙◌}
use Rattle.fluent_grammar.specs.Written.{onto, comment_signs}
use Rattle.fluent_grammar.proofs.LaidOut.{onto-nil, onto-then}
use Rattle.fluent_ast.proofs.Copied.{map-take_more}
use Rattle.fluent_serializer.proofs.Laid.{comment_signs-append}
use Rattle.fluent_serializer.proofs.entries.write_comment.Goals as goal

pub loop-line-init : goal.loop-line-init
loop-line-init g c = sym (onto-nil _)

pub loop-line-preserved : goal.loop-line-preserved
loop-line-preserved g c =
    let view = g.S.Slice.text in
    let items = c.deref-line-items.result.now in
    let item = c.line-item.result in
    let before = map view (take c.loop-line.line-index items) in
    let more = map-take_more view items c.loop-line.line-index item c.loop-line-test.true c.line-item.is in
    let line = rw c.as_str.ensures at c.in_ok-write_comment_line.ensures in
    onto-then _ _ _ c.loop-line.invariant line ∙ ap (onto _) (sym (ap (comment_signs c.args.sign.now) more ∙ comment_signs-append c.args.sign.now before _))
