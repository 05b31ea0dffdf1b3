use Rattle.std.proofs.Common.{◌∙◌, ap, sym}
use Rattle.lint_flaws.specs.Near.{found_name}
use Rattle.lint_flaws.proofs.Slips.{nearest_of_other, nearest_of_slip, slip_is_ascii}
use Rattle.lint_flaws.proofs.near.nearest.Goals as goal

pub has_near_name-requires : goal.has_near_name-requires
has_near_name-requires g c = slip_is_ascii c.args.name.now (sym c.may_be_slip.ensures ∙ c.if-not-may_be_slip.false)

pub returns-then-not-may_be_slip : goal.returns-then-not-may_be_slip
returns-then-not-may_be_slip g c =
    sym (nearest_of_other (g.N.KnownNames.knows c.args.names.now) c.args.name.now (sym c.may_be_slip.ensures ∙ c.if-not-may_be_slip.true))

pub returns-then-branch : goal.returns-then-branch
returns-then-branch g c =
    sym (ap (λ b. found_name b c.has_near_name.new.near) c.if-branch.true) ∙ c.in_ok-has_near_name.ensures
    ∙ sym (nearest_of_slip (g.N.KnownNames.knows c.args.names.now) c.args.name.now (sym c.may_be_slip.ensures ∙ c.if-not-may_be_slip.false))

pub returns-else-branch : goal.returns-else-branch
returns-else-branch g c =
    sym (ap (λ b. found_name b c.has_near_name.new.near) c.if-branch.false) ∙ c.in_ok-has_near_name.ensures
    ∙ sym (nearest_of_slip (g.N.KnownNames.knows c.args.names.now) c.args.name.now (sym c.may_be_slip.ensures ∙ c.if-not-may_be_slip.false))
