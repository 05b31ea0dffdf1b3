use Rattle.std.proofs.Common.{◌≡◌, ◌∙◌, ◌+◌, ◌<◌, ◌≤◌, ◌++◌, ◌∷◌, false, drop, take, get_or, length, [], string_bytes, ap, sym, rules}
use Rattle.std.specs.List.{find}
use Rattle.lint_findings.specs.NearNames.{swaps}
use Rattle.lint_flaws.proofs.NearFound.{from_start, swaps_at, no_swaps, found_later, joined}
use Rattle.lint_flaws.proofs.near.has_swap.Goals as goal

pub loop-i-init : goal.loop-i-init
loop-i-init g c = ap (find (g.N.KnownNames.knows c.args.names.now)) (from_start c.args.name.now swaps)

pub loop-i-preserved : goal.loop-i-preserved
loop-i-preserved g c =
    let p = g.N.KnownNames.knows c.args.names.now in
    let s = c.args.name.now in
    let i = c.loop-i.i in
    let near = take i s ++ get_or s (i + 1) 0 ∷ get_or s i 0 ∷ drop (i + 2) s in
    let inside : i + 1 < length s = search rules in
    let is : string_bytes c.push_str-in-loop-i.new.self ≡ near =
    joined (take i s) (get_or s (i + 1) 0) (get_or s i 0) (drop (i + 2) s)
    (let a : string_bytes c.push_str.new.self ≡ take i s = search rules in a)
    (let b : string_bytes c.push_ascii.new.text ≡ string_bytes c.push_str.new.self ++ get_or s (i + 1) 0 ∷ [] = search rules in b)
    (let d : string_bytes c.push_ascii-in-loop-i.new.text ≡ string_bytes c.push_ascii.new.text ++ get_or s i 0 ∷ [] = search rules in d)
    (let e : string_bytes c.push_str-in-loop-i.new.self ≡ string_bytes c.push_ascii-in-loop-i.new.text ++ drop (i + 2) s = search rules in e) in
    let unknown : p near ≡ false = cc in
    c.loop-i.invariant ∙ found_later p _ _ near (swaps_at s i inside) unknown

pub returns : goal.returns
returns g c =
    let p = g.N.KnownNames.knows c.args.names.now in
    let past : length c.args.name.now ≤ c.loop-i.i + 1 = search rules in
    sym (c.loop-i.invariant ∙ ap (find p) (no_swaps c.args.name.now c.loop-i.i past))
