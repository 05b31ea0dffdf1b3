use Rattle.std.proofs.Common.{ap, map, string_bytes, subst, sym, ◌∙◌}
use Rattle.std.specs.Prelude.{IsSomeAnd, option_map, vec_items}
use Rattle.fluent_kept.specs.Catalogs.{CallsAs}
use Rattle.fluent_kept.proofs.desk.Desks.new.Goals as goal

pub returns-in_ok-desk-in-Some : goal.returns-in_ok-desk-in-Some
returns-in_ok-desk-in-Some c = λ catalog is.
    let known = ap (option_map (λ names. map string_bytes (vec_items names))) (sym c.in-Some.is) ∙ ap (λ k. k.functions) is.sources in
    let desk = c.in_ok-desk-in-Some.desk in
    let calls = subst (λ names. CallsAs (map string_bytes names) catalog desk) c.deref.ensures.value (c.in_ok-desk-in-Some.ensures.calls catalog is) in
    let within = ap (λ budget. budget.bytes) c.in_ok-desk-in-Some.ensures.stack ∙ ap (λ k. k.stack) is.sources in
    (subst (λ functions. IsSomeAnd functions (λ names. CallsAs names catalog desk)) known calls, (within, tt))

pub returns-in_ok-desk-in-None : goal.returns-in_ok-desk-in-None
returns-in_ok-desk-in-None c = λ catalog is. (
  sym (ap (λ k. k.functions) is.sources) ∙ ap (option_map (λ names. map string_bytes (vec_items names))) c.in-None.is,
  c.in_ok-desk-in-None.ensures catalog is,
)
