use Rattle.std.proofs.Common.{◌≡◌, ◌∙◌, ◌++◌, drop, map, string_bytes, sym, ap, arith, append-nil}
use Rattle.std.proofs.lemmas.Grind.{common_steps}
use Rattle.std.proofs.lemmas.List.{map-append}
use Rattle.lint_findings.specs.Addresses as a
use Rattle.lint_texts.specs.InCode.{address_view}
use Rattle.lint_texts.specs.AddressParts.{beginning_len}
use Rattle.lint_texts.proofs.AddressSteps.{address_is, cut_beginning, no_address}
use Rattle.lint_texts.proofs.addresses.push_if_there.Goals as goal

pub range_from-requires : goal.range_from-requires
range_from-requires c =
    let at : c.range_from-at.result.now ≡ drop c.args.place c.args.text.now = grind (arith, common_steps, c.range_from-at.ensures.value) in
    let e : c.beginning_len-len.result ≡ beginning_len c.range_from-at.result.now =
    c.beginning_len-len.ensures ∙ ap beginning_len (c.skip.ensures ∙ ap (drop c.args.place) c.as_bytes.ensures.value ∙ sym at) in
    λ _. let cut = cut_beginning c.range_from-at.result.now c.beginning_len-len.result e in
    cut.boundary c.range_from-at.utf8

pub returns-in_ok-push : goal.returns-in_ok-push
returns-in_ok-push c =
    let s = drop c.args.place c.args.text.now in
    let n = c.beginning_len-len.result in
    let old = c.args.addresses.now.items in
    let at : c.range_from-at.result.now ≡ s = grind (arith, common_steps, c.range_from-at.ensures.value) in
    let rest : c.range_from.result.now ≡ drop n c.range_from-at.result.now = grind (arith, common_steps, c.range_from.ensures.value) in
    let e : n ≡ beginning_len s = c.beginning_len-len.ensures ∙ ap beginning_len (c.skip.ensures ∙ ap (drop c.args.place) c.as_bytes.ensures.value) in
    let host : string_bytes c.in_ok-host.host ≡ a.host_end (drop n s) = c.in_ok-host.ensures ∙ ap a.host_end (rest ∙ ap (drop n) at) in
    ap (map address_view) c.in_ok-push.ensures.items
    ∙ map-append address_view old _
    ∙ ap (λ z. map address_view old ++ z) (address_is s n (string_bytes c.in_ok-host.host) c.range_from-at.result.now e c.if-len-gt0.true host at)

pub returns-else-len-gt0 : goal.returns-else-len-gt0
returns-else-len-gt0 c =
    let s = drop c.args.place c.args.text.now in
    let n = c.beginning_len-len.result in
    let old = map address_view c.args.addresses.now.items in
    let e : n ≡ beginning_len s = c.beginning_len-len.ensures ∙ ap beginning_len (c.skip.ensures ∙ ap (drop c.args.place) c.as_bytes.ensures.value) in
    sym (append-nil old) ∙ ap (λ xs. old ++ xs) (sym (no_address s n e (omega (arith, c.if-len-gt0.false))))
