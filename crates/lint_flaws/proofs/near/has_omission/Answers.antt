use Rattle.std.proofs.Common.{◌≡◌, ◌∙◌, ◌+◌, ◌++◌, true, false, drop, take, Some, string_bytes, ap, sym, rules}
use Rattle.std.specs.List.{find}
use Rattle.lint_findings.specs.NearNames.{omissions}
use Rattle.lint_flaws.proofs.NearFound.{from_start, omissions_at, found_first, found_later}
use Rattle.lint_flaws.proofs.near.has_omission.Goals as goal

pub loop-i-init : goal.loop-i-init
loop-i-init g c = ap (find (g.N.KnownNames.knows c.args.names.now)) (from_start c.args.name.now omissions)

pub returns-then-has_name : goal.returns-then-has_name
returns-then-has_name g c =
    let p = g.N.KnownNames.knows c.args.names.now in
    let s = c.args.name.now in
    let i = c.loop-i.i in
    let near = take i s ++ drop (i + 1) s in
    let is : string_bytes c.push_str-in-loop-i.new.self ≡ near = search rules in
    let known : p near ≡ true = cc in
    ap Some is ∙ sym (c.loop-i.invariant ∙ found_first p _ _ near (omissions_at s i c.loop-i-test.true) known)

pub loop-i-preserved : goal.loop-i-preserved
loop-i-preserved g c =
    let p = g.N.KnownNames.knows c.args.names.now in
    let s = c.args.name.now in
    let i = c.loop-i.i in
    let near = take i s ++ drop (i + 1) s in
    let is : string_bytes c.push_str-in-loop-i.new.self ≡ near = search rules in
    let unknown : p near ≡ false = cc in
    c.loop-i.invariant ∙ found_later p _ _ near (omissions_at s i c.loop-i-test.true) unknown
