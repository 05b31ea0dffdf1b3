use Rattle.fluent_number.proofs.Cut.{zeros_fit, cut_same, cut_below, cut_fewer}
use Rattle.fluent_number.proofs.writing.cut_zeros.Goals as goal

pub overflow_sub-result : goal.overflow_sub-result
overflow_sub-result c =
    let ends = rw c.power_of_ten-power.ensures.value at c.if-digits-power-eq0.true in
    zeros_fit c.args.count c.args.digits c.args.zeros c.requires.some c.requires.below ends

pub returns-then-digits-power-eq0-clause-same : goal.returns-then-digits-power-eq0-clause-same
returns-then-digits-power-eq0-clause-same c =
    let ends = rw c.power_of_ten-power.ensures.value at c.if-digits-power-eq0.true in
    let fits = zeros_fit c.args.count c.args.digits c.args.zeros c.requires.some c.requires.below ends in
    rw c.power_of_ten-power.ensures.value (cut_same c.args.count c.args.digits c.args.zeros fits ends)

pub returns-then-digits-power-eq0-clause-below : goal.returns-then-digits-power-eq0-clause-below
returns-then-digits-power-eq0-clause-below c =
    let ends = rw c.power_of_ten-power.ensures.value at c.if-digits-power-eq0.true in
    let fits = zeros_fit c.args.count c.args.digits c.args.zeros c.requires.some c.requires.below ends in
    rw c.power_of_ten-power.ensures.value (cut_below c.args.count c.args.digits c.args.zeros fits c.requires.below)

pub returns-then-digits-power-eq0-clause-fewer : goal.returns-then-digits-power-eq0-clause-fewer
returns-then-digits-power-eq0-clause-fewer c =
    let ends = rw c.power_of_ten-power.ensures.value at c.if-digits-power-eq0.true in
    rw c.power_of_ten-power.ensures.value (cut_fewer c.args.digits c.args.zeros ends)
