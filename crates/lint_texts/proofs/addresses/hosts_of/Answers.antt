use Rattle.std.proofs.Common.{◌≡◌, ◌∙◌, ◌∷◌, [], List, ℕ, map, ap, sym, subst, take, get_or}
use Rattle.std.proofs.lemmas.List.{take_all}
use Rattle.lint_nodes.specs.HasNames.{HasNames}
use Rattle.lint_findings.specs.Addresses as a
use Rattle.lint_findings.specs.Comparison.{union}
use Rattle.lint_texts.specs.InCode.{address_view}
use Rattle.lint_texts.proofs.Named.{one_named}
use Rattle.lint_texts.proofs.addresses.hosts_of.Goals as goal

pub loop-address-preserved : goal.loop-address-preserved
loop-address-preserved c =
    let xs = c.args.addresses.now in
    let i = c.loop-address.address-index in
    let x = c.address-item.result in
    let before = a.hosts (map address_view (take i xs)) in
    let added = c.in_ok-add.ensures before c.loop-address.invariant in
    let name : c.as_str.result.now ≡ (address_view (get_or xs i x)).host =
    c.as_str.ensures.value ∙ ap (λ z. (address_view z).host) c.address-item.is in
    let step = one_named address_view (λ (q : a.Address). q.host) xs i x c.loop-address-test.true in
    subst (HasNames c.add.new.self) (sym step) (subst (λ (t : List ℕ). HasNames c.add.new.self (union before (t ∷ []))) name added)

pub returns : goal.returns
returns c =
    let all = take_all c.loop-address.address-index c.args.addresses.now c.loop-address-test.false in
    subst (λ xs. HasNames c.loop-address.hosts (a.hosts (map address_view xs))) all c.loop-address.invariant
