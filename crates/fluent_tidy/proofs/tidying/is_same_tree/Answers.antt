use Rattle.std.proofs.Common.{sym, subst}
use Rattle.std.specs.Prelude.{IsTrue}
use Rattle.fluent_tidy.proofs.tidying.is_same_tree.Goals as goal

pub returns : goal.returns
returns c =
    let same = c.equal_nodes.ensures.resources.plain c.args.tree.now c.args.other.now in
    (λ is. same.0 (subst IsTrue c.eq.ensures is), λ e. subst IsTrue (sym c.eq.ensures) (same.1 e))
