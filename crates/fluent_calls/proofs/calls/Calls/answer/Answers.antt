use Rattle.std.proofs.Common.{ap, map, string_bytes, sym, ◌∙◌, get_or, []}
use Rattle.std.specs.Prelude.{unwrap_or}
use Rattle.fluent_value.specs.Args.{argument}
use Rattle.fluent_calls.specs.Calls.{call_text}
use Rattle.fluent_calls.specs.CallValues.{plain_all}
use Rattle.fluent_run.specs.Dated.{dated_view}
use Rattle.fluent_calls.proofs.Texts.{on_ok}
use Rattle.std.proofs.lemmas.List.{get_or-map}
use Rattle.fluent_calls.proofs.calls.Calls.answer.Goals as goal

pub returns-in-Some-get : goal.returns-in-Some-get
returns-in-Some-get g c =
    let names = c.args.self.now.functions.now in
    let table = dated_view c.args.self.now.answers.now in
    let values = plain_all c.args.positional.now in
    let pairs = dated_view c.args.named.now in
    let found = c.in-Some.ensures.lookup in
    let inside = found.3.0 in
    let name = c.deref.ensures ∙ ap string_bytes found.1 ∙ sym (get_or-map string_bytes names c.args.place c.in-Some.name.now [] inside) in
    let call = c.as_str.ensures.value ∙ c.in_ok-call.ensures ∙ ap (λ n. call_text n values pairs) name in
    let answer = c.in-Some-get.ensures ∙ ap (λ s. argument s table) call in
    on_ok c.into_owned.result
    (λ value is. is ∙ ap (λ o. unwrap_or o (g.K.Otherwise.otherwise (get_or (map string_bytes names) c.args.place []) values pairs)) answer)
    c.into_owned.ensures
