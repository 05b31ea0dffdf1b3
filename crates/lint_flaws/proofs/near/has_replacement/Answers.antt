use Rattle.std.proofs.Common.{◌≡◌, ◌∙◌, ◌+◌, drop, take, ap, sym, rules}
use Rattle.std.specs.List.{find}
use Rattle.lint_flaws.specs.Near.{Finds, between}
use Rattle.lint_findings.specs.NearNames.{replacements}
use Rattle.lint_flaws.proofs.NearFound.{found_after, found_among, from_start, replacements_at, replacements_from}
use Rattle.lint_flaws.proofs.near.has_replacement.Goals as goal

pub loop-i-init : goal.loop-i-init
loop-i-init g c = ap (find (g.N.KnownNames.knows c.args.names.now)) (from_start c.args.name.now replacements)

pub returns-then-branch : goal.returns-then-branch
returns-then-branch g c =
    let p = g.N.KnownNames.knows c.args.names.now in
    let s = c.args.name.now in
    let i = c.loop-i.i in
    let front : c.range.result.now ≡ take i s = search rules in
    let back : c.range_from.result.now ≡ drop (i + 1) s = search rules in
    let near = c.has_between.new.near in
    let found = c.in_ok-has_between.field-0 in
    let finds : Finds found near (find p (between (take i s) (drop (i + 1) s))) =
    c.in_ok-has_between.ensures ∙ ap (λ t. find p (between t c.range_from.result.now)) front ∙ ap (λ t. find p (between (take i s) t)) back in
    found_among p (replacements_from s i) _ (replacements_from s (i + 1)) found near (replacements_at s i c.loop-i-test.true) finds c.if-branch.true ∙ sym c.loop-i.invariant

pub loop-i-preserved : goal.loop-i-preserved
loop-i-preserved g c =
    let p = g.N.KnownNames.knows c.args.names.now in
    let s = c.args.name.now in
    let i = c.loop-i.i in
    let front : c.range.result.now ≡ take i s = search rules in
    let back : c.range_from.result.now ≡ drop (i + 1) s = search rules in
    let near = c.has_between.new.near in
    let found = c.in_ok-has_between.field-0 in
    let finds : Finds found near (find p (between (take i s) (drop (i + 1) s))) =
    c.in_ok-has_between.ensures ∙ ap (λ t. find p (between t c.range_from.result.now)) front ∙ ap (λ t. find p (between (take i s) t)) back in
    c.loop-i.invariant ∙ found_after p (replacements_from s i) _ (replacements_from s (i + 1)) found near (replacements_at s i c.loop-i-test.true) finds c.if-branch.false
