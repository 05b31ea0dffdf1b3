use Rattle.std.proofs.Common.{Bor, List, ap, option_map, sym, ℕ, ◌∙◌}
use Rattle.std.proofs.lemmas.Result.{IfOk-weaker, on_err_weaker}
use Rattle.std.specs.Prelude.{option_copied}
use Rattle.fluent_ast.specs.View.{arguments_view, maybe_arguments}
use Rattle.fluent_meaning.proofs.Equations.{arguments-none}
use Rattle.fluent_meaning.proofs.Refusals.{counts-all}
use Rattle.fluent_meaning.proofs.States.{finds-as, finds-done}
use Rattle.fluent_meaning.specs.Substitution as s
use Rattle.fluent_resolver.proofs.Parts.{tells-as}
use Rattle.fluent_bundle.proofs.Scopes.{scope-within}
use Rattle.fluent_bundle.proofs.Within.{arguments-within, of-both}
use Rattle.fluent_bundle.specs.BundleView.{environment_of}
use Rattle.fluent_resolver.specs.Called.{no_arguments}
use Rattle.fluent_bundle.specs.ScopeView.{place_of, state_of}
use Rattle.fluent_bundle.proofs.resolver.scope.Scope.get_arguments.Goals as goal

pub returns-in-Some-clause-found : goal.returns-in-Some-clause-found
returns-in-Some-clause-found g c =
    let env = environment_of g.T.TextTransform.transformed c.args.self.now.bundle.now in
    let here = place_of c.args.self.now in
    let b = (state_of c.args.self.now).budget in
    let given = ap (λ o. maybe_arguments (option_map (arguments_view (Bor (List ℕ)) (λ s. s.now)) (option_copied o))) c.in-Some.is in
    IfOk-weaker c.find_arguments.result _ _ (λ x h. finds-as _ _ (ap (λ m. s.arguments_found env m here b) (sym given)) h) c.find_arguments.ensures.found

pub returns-in-Some-clause-refused : goal.returns-in-Some-clause-refused
returns-in-Some-clause-refused g c =
    let env = environment_of g.T.TextTransform.transformed c.args.self.now.bundle.now in
    let here = place_of c.args.self.now in
    let b = (state_of c.args.self.now).budget in
    let given = ap (λ o. maybe_arguments (option_map (arguments_view (Bor (List ℕ)) (λ s. s.now)) (option_copied o))) c.in-Some.is in
    on_err_weaker c.find_arguments.result (tells-as (ap (λ m. s.arguments_found env m here b) (sym given))) c.find_arguments.ensures.refused

pub returns-in-None-clause-found : goal.returns-in-None-clause-found
returns-in-None-clause-found g c =
    let env = environment_of g.T.TextTransform.transformed c.args.self.now.bundle.now in
    let here = place_of c.args.self.now in
    let b = (state_of c.args.self.now).budget in
    let none = ap (λ o. maybe_arguments (option_map (arguments_view (Bor (List ℕ)) (λ s. s.now)) (option_copied o))) c.in-None.is in
    finds-done _ no_arguments (state_of c.args.self.now) _ (scope-within c.args.self.now) (ap (λ m. s.arguments_found env m here b) none ∙ arguments-none env here b) c.none_given.ensures

pub returns-in-Some-clause-bounded : goal.returns-in-Some-clause-bounded
returns-in-Some-clause-bounded g c =
    let env = environment_of g.T.TextTransform.transformed c.args.self.now.bundle.now in
    let here = place_of c.args.self.now in
    let b = (state_of c.args.self.now).budget in
    let args = maybe_arguments (option_map (arguments_view (Bor (List ℕ)) (λ s. s.now)) (option_copied c.args.arguments)) in
    let given = ap (λ o. maybe_arguments (option_map (arguments_view (Bor (List ℕ)) (λ s. s.now)) (option_copied o))) c.in-Some.is in
    let within = arguments-within c.args.self.now c.find_arguments.new.self g.T.TextTransform.transformed c.work_is_bounded.ensures.entered c.work_is_bounded.ensures.opened args in
    of-both c.find_arguments.result _
    (λ x h. within (counts-all (s.arguments_found env args here b) (finds-as _ (s.arguments_found env args here) (ap (λ m. s.arguments_found env m here b) (sym given)) h).state))
    (λ h. within (tells-as (ap (λ m. s.arguments_found env m here b) (sym given)) h).counts)
    c.find_arguments.ensures.found c.find_arguments.ensures.refused

pub returns-in-None-clause-bounded : goal.returns-in-None-clause-bounded
returns-in-None-clause-bounded g c =
    let env = environment_of g.T.TextTransform.transformed c.args.self.now.bundle.now in
    let here = place_of c.args.self.now in
    let b = (state_of c.args.self.now).budget in
    let args = maybe_arguments (option_map (arguments_view (Bor (List ℕ)) (λ s. s.now)) (option_copied c.args.arguments)) in
    let none = ap (λ o. maybe_arguments (option_map (arguments_view (Bor (List ℕ)) (λ s. s.now)) (option_copied o))) c.in-None.is in
    let found = finds-done _ no_arguments (state_of c.args.self.now) (s.arguments_found env args here) (scope-within c.args.self.now) (ap (λ m. s.arguments_found env m here b) none ∙ arguments-none env here b) c.none_given.ensures in
    arguments-within c.args.self.now c.args.self.now g.T.TextTransform.transformed c.work_is_bounded.ensures.entered c.work_is_bounded.ensures.opened args (counts-all (s.arguments_found env args here b) found.state)
