use Rattle.std.proofs.Common.{◌≡◌, ◌+◌, true, Some, cond, drop, ap, sym, ◌∙◌}
use Rattle.std.specs.Str.{bytes_eq}
use Rattle.fluent_value.specs.Args.{argument}
use Rattle.fluent_value.specs.ArgsNames.{name_of}
use Rattle.fluent_value.specs.ArgsView.{pairs_view}
use Rattle.fluent_value.specs.View.{value_view}
use Rattle.fluent_value.proofs.Placed.{found_from}
use Rattle.fluent_value.proofs.args.calls.value_among.Goals as goal

pub returns-then-eq : goal.returns-then-eq
returns-then-eq g c =
    let value = value_view g.C.FluentType.meaning in
    let name = c.args.name.now in
    let items = c.args.all.now in
    let index = c.loop-argument.argument-index in
    let item = c.argument-item.result in
    let rest = argument name (pairs_view g.C.FluentType.meaning (drop (index + 1) items)) in
    let found = found_from name_of (λ it. value it.value) name items index item c.loop-argument-test.true c.argument-item.is in
    let same : bytes_eq name (name_of item) ≡ true = ap (λ n. bytes_eq name n) (sym c.as_str.ensures.value) ∙ sym c.eq.ensures ∙ c.if-eq.true in
    sym (sym c.loop-argument.invariant ∙ found ∙ ap (λ b. cond b (Some (value item.value)) rest) same)

pub loop-argument-preserved : goal.loop-argument-preserved
loop-argument-preserved g c =
    let value = value_view g.C.FluentType.meaning in
    let name = c.args.name.now in
    let items = c.args.all.now in
    let index = c.loop-argument.argument-index in
    let item = c.argument-item.result in
    let rest = argument name (pairs_view g.C.FluentType.meaning (drop (index + 1) items)) in
    let found = found_from name_of (λ it. value it.value) name items index item c.loop-argument-test.true c.argument-item.is in
    let other = ap (λ n. bytes_eq name n) (sym c.as_str.ensures.value) ∙ sym c.eq.ensures ∙ c.if-eq.false in
    sym (found ∙ ap (λ b. cond b (Some (value item.value)) rest) other) ∙ c.loop-argument.invariant
