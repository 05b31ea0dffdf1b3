use Rattle.std.proofs.Common.{◌∙◌, ◌++◌, refl, sym}
use Rattle.std.proofs.lemmas.Result.{IfOk-weaker}
use Rattle.lint_findings.specs.NearNames.{additions, near_names, omissions, replacements, swaps}
use Rattle.lint_flaws.proofs.NearFound.{found_among, found_after}
use Rattle.lint_flaws.proofs.near.has_near_name.Goals as goal

pub returns-then-branch : goal.returns-then-branch
returns-then-branch g c =
    let p = g.N.KnownNames.knows c.args.names.now in
    let s = c.args.name.now in
    found_among p (near_names s) (swaps s) (omissions s ++ (replacements s ++ additions s)) c.in_ok-has_swap.field-0 c.has_swap.new.near refl c.in_ok-has_swap.ensures c.if-branch.true

pub returns-then-branch-2 : goal.returns-then-branch-2
returns-then-branch-2 g c =
    let p = g.N.KnownNames.knows c.args.names.now in
    let s = c.args.name.now in
    let rest = replacements s ++ additions s in
    found_among p (omissions s ++ rest) (omissions s) rest c.in_ok-has_omission.field-0 c.has_omission.new.near refl c.in_ok-has_omission.ensures c.if-branch-2.true
    ∙ sym (found_after p (near_names s) (swaps s) (omissions s ++ rest) c.in_ok-has_swap.field-0 c.has_swap.new.near refl c.in_ok-has_swap.ensures c.if-branch.false)

pub returns-then-branch-3 : goal.returns-then-branch-3
returns-then-branch-3 g c =
    let p = g.N.KnownNames.knows c.args.names.now in
    let s = c.args.name.now in
    let rest = replacements s ++ additions s in
    found_among p rest (replacements s) (additions s) c.in_ok-has_replacement.field-0 c.has_replacement.new.near refl c.in_ok-has_replacement.ensures c.if-branch-3.true
    ∙ sym (found_after p (near_names s) (swaps s) (omissions s ++ rest) c.in_ok-has_swap.field-0 c.has_swap.new.near refl c.in_ok-has_swap.ensures c.if-branch.false
    ∙ found_after p (omissions s ++ rest) (omissions s) rest c.in_ok-has_omission.field-0 c.has_omission.new.near refl c.in_ok-has_omission.ensures c.if-branch-2.false)

pub returns : goal.returns
returns g c =
    let p = g.N.KnownNames.knows c.args.names.now in
    let s = c.args.name.now in
    let rest = replacements s ++ additions s in
    let before = found_after p (near_names s) (swaps s) (omissions s ++ rest) c.in_ok-has_swap.field-0 c.has_swap.new.near refl c.in_ok-has_swap.ensures c.if-branch.false
    ∙ found_after p (omissions s ++ rest) (omissions s) rest c.in_ok-has_omission.field-0 c.has_omission.new.near refl c.in_ok-has_omission.ensures c.if-branch-2.false
    ∙ found_after p rest (replacements s) (additions s) c.in_ok-has_replacement.field-0 c.has_replacement.new.near refl c.in_ok-has_replacement.ensures c.if-branch-3.false in
    IfOk-weaker c.has_addition.result _ _ (λ found finds. finds ∙ sym before) c.has_addition.ensures
