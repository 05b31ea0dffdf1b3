use Rattle.std.proofs.Common.{Bor, List, ℕ}
use Rattle.std.proofs.lemmas.Result.{on_err_weaker, on_ok_weaker}
use Rattle.fluent_ast.specs.View.{inline_view, pattern_view}
use Rattle.fluent_meaning.specs.Substitution as s
use Rattle.fluent_bundle.proofs.Scopes.{put-tells, put-writes}
use Rattle.fluent_bundle.proofs.resolver.scope.Scope.write_referred.Goals as goal

pub returns-clause-wrote : goal.returns-clause-wrote
returns-clause-wrote g c =
    on_ok_weaker c.write_referred-written.result (λ h. put-writes g.T.TextTransform.transformed c.args.self.now c.progress-progress.new.self c.put_back.new.self c.progress-progress.ensures.kept c.lent-lent.result c.lent-lent.ensures c.progress-progress.result c.write_referred-written.new.progress c.progress-progress.ensures.path c.progress-progress.ensures.state c.put_back.ensures.state (λ env place. s.reference_written env (inline_view (Bor (List ℕ)) (λ s. s.now) c.args.inline.now) (pattern_view (Bor (List ℕ)) (λ s. s.now) c.args.pattern.now) place) h) c.write_referred-written.ensures.wrote

pub returns-clause-refused : goal.returns-clause-refused
returns-clause-refused g c =
    on_err_weaker c.write_referred-written.result (λ h. put-tells g.T.TextTransform.transformed c.args.self.now c.progress-progress.new.self c.put_back.new.self c.progress-progress.ensures.kept c.lent-lent.result c.lent-lent.ensures c.progress-progress.result c.write_referred-written.new.progress c.progress-progress.ensures.path c.progress-progress.ensures.state c.put_back.ensures.state (λ env place. s.reference_written env (inline_view (Bor (List ℕ)) (λ s. s.now) c.args.inline.now) (pattern_view (Bor (List ℕ)) (λ s. s.now) c.args.pattern.now) place) h) c.write_referred-written.ensures.refused
