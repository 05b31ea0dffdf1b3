use Rattle.std.proofs.Common.{Bor, List, ℕ, rules, sym, ◌∙◌}
use Rattle.fluent_ast.specs.View.{name_of}
use Rattle.fluent_meaning.specs.Substitution.{variable}
use Rattle.fluent_progress.specs.Views.{place_view, resolved_in, state}
use Rattle.fluent_progress.proofs.Telling.{missed-tells, not-given, on-err, tells-same}
use Rattle.fluent_progress.proofs.place.Surroundings.write_variable.Goals as goal

pub returns-in_err-write_given-clause-refused : goal.returns-in_err-write_given-clause-refused
returns-in_err-write_given-clause-refused g c = search (tells-same, rules)

pub returns-in_err-tell_missing-clause-refused : goal.returns-in_err-tell_missing-clause-refused
returns-in_err-tell_missing-clause-refused g c = let same = c.in_err-tell_missing.ensures.refused in search (tells-same, rules)

pub returns-clause-refused : goal.returns-clause-refused
returns-clause-refused g c =
    let env = resolved_in c.args.self.now in
    let here = place_view c.args.self.now c.args.progress.now in
    let id = name_of (Bor (List ℕ)) (λ s. s.now) c.args.id.now in
    on-err c.write_name.result (missed-tells {s = state c.args.progress.now} env id (variable env id here) here (not-given (variable env id here) (sym c.if-branch.false ∙ c.in_ok-write_given.ensures.given)) c.in_ok-tell_missing.ensures.told)
