use Rattle.fluent_project.specs.Views.{plain}
use Rattle.ftl_project.specs.References.{IsReference}
use Rattle.ftl_project.proofs.Pairing.{paired_all, paired_next}
use Rattle.ftl_project.proofs.reference.reference_files.Goals as goal

pub loop-path-preserved : goal.loop-path-preserved
loop-path-preserved c =
    paired_next (IsReference c.args.here.now (plain c.args.files.now) c.args.sources.now) c.args.references.now c.loop-path.path-index _
    c.loop-path.all.items c.push.new.self.items c.in_ok-reference_file.field-0 c.loop-path-test.true c.loop-path.invariant
    c.in_ok-reference_file.ensures c.in_ok-push.ensures.items

pub returns : goal.returns
returns c =
    paired_all (IsReference c.args.here.now (plain c.args.files.now) c.args.sources.now) c.args.references.now c.loop-path.path-index c.loop-path.all.items
    c.loop-path-test.false c.loop-path.invariant
