use Rattle.fluent_project.proofs.Removed.{all_out, leads_out}
use Rattle.fluent_project.proofs.pairs.remove_all.Goals as goal

pub loop-path-init : goal.loop-path-init
loop-path-init c = λ new removes. removes

pub loop-path-preserved : goal.loop-path-preserved
loop-path-preserved c =
    leads_out c.args.paths.now c.loop-path.path-index _ c.args.pairs.now c.loop-path.pairs c.remove.new.self c.loop-path-test.true
    c.loop-path.invariant c.remove.ensures.updates

pub returns : goal.returns
returns c =
    all_out c.args.paths.now c.loop-path.path-index c.args.pairs.now c.loop-path.pairs c.loop-path-test.false c.loop-path.invariant
