use Rattle.std.proofs.Common.{string_bytes, arith}
use Rattle.fluent_tidy.specs.Sources.{texts}
use Rattle.fluent_tidy.proofs.Gathered.{gathering_begins, gathering_goes_on, gathering_ends, text_at, texts-length}
use Rattle.fluent_tidy.proofs.joining.push_all.Goals as goal

pub loop-source-init : goal.loop-source-init
loop-source-init c = gathering_begins (texts c.args.sources.now) (string_bytes c.args.text.now) c.requires

pub loop-source-preserved : goal.loop-source-preserved
loop-source-preserved c =
    gathering_goes_on (texts c.args.sources.now) (string_bytes c.loop-source.text) (string_bytes c.push_cut.new.text) (string_bytes c.end_line.new.text) c.loop-source.source-index _
    c.loop-source.invariant (omega (arith, c.loop-source-test.true, texts-length c.args.sources.now))
    (text_at c.args.sources.now c.loop-source.source-index _ _ c.loop-source-test.true)
    (c.in_ok-push_cut.ensures.text) (c.in_ok-end_line.ensures) (c.in_ok-push_cut.ensures.utf8)

pub returns : goal.returns
returns c =
    let e = gathering_ends (texts c.args.sources.now) (string_bytes c.loop-source.text) c.loop-source.source-index c.loop-source.invariant (omega (arith, c.loop-source-test.false, texts-length c.args.sources.now)) in
    record { text = e.0; utf8 = e.1 }
