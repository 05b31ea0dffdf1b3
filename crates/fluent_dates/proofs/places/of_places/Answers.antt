use Rattle.std.proofs.Common.{◌∙◌, ◌++◌, ◌+◌, ◌/◌, ◌<◌, ◌≤◌, ap, ◌∷◌, drop, length, sym, take, arith, rules}
use Rattle.std.proofs.lemmas.List.{drop_all, drop_more}
use Rattle.fluent_dates.specs.Patterns.{of_places}
use Rattle.fluent_dates.proofs.Edits.{all_set, one_set}
use Rattle.fluent_dates.proofs.places.of_places.Goals as goal

pub loop-place-preserved : goal.loop-place-preserved
loop-place-preserved c =
    let i = c.loop-place.place in
    let fields = c.args.fields.now in
    let out = c.loop-place.out in
    let left = c.loop-place.rest in
    let inside : i < length out = omega (arith, c.loop-place-test.true, c.loop-place.invariant.0) in
    let there : i < length fields = search rules in (
      search rules,
      one_set out (of_places (drop (i + 1) fields) (left / 2)) i c.kept.result inside
          ∙ ap (λ field. take i out ++ field ∷ of_places (drop (i + 1) fields) (left / 2)) c.kept.ensures
          ∙ ap (λ fs. take i out ++ of_places fs left) (sym (drop_more fields i _ there))
          ∙ c.loop-place.invariant.1,
    )

pub returns : goal.returns
returns c =
    let i = c.loop-place.place in
    let past : length c.loop-place.out ≤ i = omega (arith, c.loop-place-test.false, c.loop-place.invariant.0) in
    let end : length c.args.fields.now ≤ i = search rules in
    all_set c.loop-place.out _ i past (ap (λ fs. of_places fs c.loop-place.rest) (drop_all i c.args.fields.now end)) ∙ c.loop-place.invariant.1
