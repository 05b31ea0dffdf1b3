use Rattle.std.proofs.Common.{codes, false, ap, map, string_bytes, sym, take, ◌∙◌}
use Rattle.fluent_meaning.specs.Ids.{function, with_id}
use Rattle.fluent_calls.proofs.Adding.{functions-next}
use Rattle.std.proofs.lemmas.List.{take_all}
use Rattle.fluent_run.specs.DeskView.{ids_added}
use Rattle.fluent_calls.specs.Functions.{with_functions, with_names}
use Rattle.fluent_calls.specs.declared.callee.Callee.TheVariants as callee
use Rattle.fluent_calls.proofs.catalog.ids_with.Goals as goal

pub loop-place-preserved : goal.loop-place-preserved
loop-place-preserved c =
    let name = c.index-functions-place.result in
    c.in_ok-add_function_silently.ensures.added
    ∙ ap (λ ids. with_id false ids (c.deref.result.now, function (callee.Program c.loop-place.place))) c.loop-place.invariant
    ∙ ap (λ s. with_id false (with_names (map string_bytes (take c.loop-place.place c.args.functions.now)) (ids_added c.args.overriding c.args.resources.now)) (s, function (callee.Program c.loop-place.place))) c.deref.ensures
    ∙ sym (functions-next (ids_added c.args.overriding c.args.resources.now) c.args.functions.now c.loop-place.place name c.loop-place-test.true c.index-functions-place.is)

pub returns : goal.returns
returns c =
    c.in_ok-add_function_silently-2.ensures.added
    ∙ ap (λ ids. with_id false ids (codes "DATETIME", function callee.DateTime)) c.loop-place.invariant
    ∙ ap (λ names. with_functions (map string_bytes names) (ids_added c.args.overriding c.args.resources.now)) (take_all c.loop-place.place c.args.functions.now c.loop-place-test.false)
