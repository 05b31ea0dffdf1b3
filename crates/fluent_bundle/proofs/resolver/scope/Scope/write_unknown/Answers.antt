use Rattle.std.proofs.Common.{Bor, List, refl, ℕ, ◌∙◌}
use Rattle.std.proofs.lemmas.Result.{on_ok_weaker}
use Rattle.fluent_errors.specs.Errors.{unknown}
use Rattle.fluent_errors.specs.View.{reference_view}
use Rattle.fluent_ast.specs.View.{inline_view}
use Rattle.fluent_grammar.specs.Words.{Text}
use Rattle.fluent_meaning.specs.Fallback.{braced, inline_fallback}
use Rattle.fluent_progress.proofs.Telling.{faulty-tells, on-err, tells-same, told-after}
use Rattle.fluent_bundle.proofs.Scopes.{scope-within}
use Rattle.fluent_bundle.specs.ScopeView.{state_of}
use Rattle.fluent_bundle.proofs.resolver.scope.Scope.write_unknown.Goals as goal

pub returns-in_err-add_error-clause-refused : goal.returns-in_err-add_error-clause-refused
returns-in_err-add_error-clause-refused g c = on-err _ (tells-same _ c.in_err-add_error.ensures.refused)

pub returns-clause-wrote : goal.returns-clause-wrote
returns-clause-wrote g c =
    on_ok_weaker c.write_inline_braced.result
    (λ h. record { text = h; state = c.in_ok-add_error.ensures.told ∙ told-after {A = Text} (braced (inline_fallback (inline_view (Bor (List ℕ)) (λ s. s.now) c.args.inline.now))) (unknown (reference_view c.args.kind)) (state_of c.args.self.now) (scope-within c.args.self.now) refl })
    c.write_inline_braced.ensures

pub returns-clause-refused : goal.returns-clause-refused
returns-clause-refused g c =
    on-err c.write_inline_braced.result (faulty-tells {A = Text} (braced (inline_fallback (inline_view (Bor (List ℕ)) (λ s. s.now) c.args.inline.now))) (unknown (reference_view c.args.kind)) c.in_ok-add_error.ensures.told)
