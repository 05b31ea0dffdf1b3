use Rattle.std.proofs.Common.{◌∙◌, ◌<◌, ◌≤◌, ap, length, map, arith, rules}
use Rattle.std.proofs.lemmas.List.{drop_all}
use Rattle.fluent_dates.specs.Fields.{measure}
use Rattle.fluent_dates.proofs.Edits.{all_set, one_mapped}
use Rattle.fluent_dates.proofs.fields.measures.Goals as goal

pub loop-place-preserved : goal.loop-place-preserved
loop-place-preserved c =
    let i = c.loop-place.place in
    let inside : i < length c.loop-place.found = omega (arith, c.loop-place-test.true, c.loop-place.invariant.0) in
    let there : i < length c.args.fields.now = search rules in
    (search rules, one_mapped measure c.loop-place.found c.args.fields.now i _ c.measure.result inside there c.measure.ensures ∙ c.loop-place.invariant.1)

pub returns : goal.returns
returns c =
    let i = c.loop-place.place in
    let past : length c.loop-place.found ≤ i = omega (arith, c.loop-place-test.false, c.loop-place.invariant.0) in
    let end : length c.args.fields.now ≤ i = search rules in
    all_set c.loop-place.found _ i past (ap (map measure) (drop_all i c.args.fields.now end)) ∙ c.loop-place.invariant.1
