use Rattle.std.proofs.Common.{Bor, List, ℕ}
use Rattle.std.proofs.lemmas.Result.{IfOk-weaker, on_err_weaker}
use Rattle.fluent_ast.specs.View.{arguments_view}
use Rattle.fluent_grammar.specs.Tree as t
use Rattle.fluent_meaning.specs.Substitution as s
use Rattle.fluent_bundle.proofs.Scopes.{put-finds, put-tells}
use Rattle.fluent_bundle.proofs.resolver.scope.Scope.find_arguments.Goals as goal

pub returns-clause-found : goal.returns-clause-found
returns-clause-found g c =
    IfOk-weaker c.values-found.result _ _ (λ x h. put-finds g.T.TextTransform.transformed c.args.self.now c.progress-progress.new.self c.put_back.new.self c.progress-progress.ensures.kept c.lent-lent.result c.lent-lent.ensures c.progress-progress.result c.values-found.new.progress c.progress-progress.ensures.path c.progress-progress.ensures.state c.put_back.ensures.state (λ env place. s.arguments_found env (t.with_arguments (arguments_view (Bor (List ℕ)) (λ s. s.now) c.args.arguments.now)) place) h) c.values-found.ensures.found

pub returns-clause-refused : goal.returns-clause-refused
returns-clause-refused g c =
    on_err_weaker c.values-found.result (λ h. put-tells g.T.TextTransform.transformed c.args.self.now c.progress-progress.new.self c.put_back.new.self c.progress-progress.ensures.kept c.lent-lent.result c.lent-lent.ensures c.progress-progress.result c.values-found.new.progress c.progress-progress.ensures.path c.progress-progress.ensures.state c.put_back.ensures.state (λ env place. s.arguments_found env (t.with_arguments (arguments_view (Bor (List ℕ)) (λ s. s.now) c.args.arguments.now)) place) h) c.values-found.ensures.refused
