use Rattle.std.proofs.Common.{◌≡◌, ◌≤◌, ℕ, List, Bor, length, map, sym, ◌∙◌, Decides, rules}
use Rattle.std.proofs.lemmas.List.{at_drop_all}
use Rattle.fluent_grammar.specs.Tree.{Elements}
use Rattle.fluent_ast.specs.declared.Pattern.{Pattern}
use Rattle.fluent_ast.specs.View.{pattern_view}
use Rattle.fluent_meaning.proofs.Looking.{path-found, path-passed}
use Rattle.fluent_meaning.specs.Substitution.{is_on_path}
use Rattle.fluent_progress.proofs.Entered.{is-first, not-first}
use Rattle.fluent_progress.proofs.progress.Progress.is_entered.Goals as goal

pub returns-then-begins_with : goal.returns-then-begins_with
returns-then-begins_with c =
    let view : Bor (Pattern (Bor (List ℕ))) → Elements = λ x. pattern_view (Bor (List ℕ)) (λ s. s.now) x.now in
    let path = c.args.self.now.path in
    sym (is-first view (pattern_view _ (λ s. s.now) c.args.pattern.now) path.first path.rest.items (sym c.begins_with.ensures ∙ c.if-begins_with.true))

pub returns-then-eq : goal.returns-then-eq
returns-then-eq c =
    let view : Bor (Pattern (Bor (List ℕ))) → Elements = λ x. pattern_view (Bor (List ℕ)) (λ s. s.now) x.now in
    let pattern = pattern_view (Bor (List ℕ)) (λ s. s.now) c.args.pattern.now in
    let path = c.args.self.now.path in
    let same : Decides c.eq.result (view c.index-entered.result.now ≡ pattern) = rw c.eq.ensures (c.equal_nodes.ensures.patterns.plain c.index-entered.result.now.now c.args.pattern.now) in
    sym (path-found view path.rest.items c.loop-index.index c.index-entered.result.now pattern (search rules) c.index-entered.ensures c.eq.result same c.if-eq.true)
    ∙ c.loop-index.invariant
    ∙ sym (not-first view pattern path.first path.rest.items (sym c.begins_with.ensures ∙ c.if-begins_with.false))

pub loop-index-preserved : goal.loop-index-preserved
loop-index-preserved c =
    let view : Bor (Pattern (Bor (List ℕ))) → Elements = λ x. pattern_view (Bor (List ℕ)) (λ s. s.now) x.now in
    let pattern = pattern_view (Bor (List ℕ)) (λ s. s.now) c.args.pattern.now in
    let same : Decides c.eq.result (view c.index-entered.result.now ≡ pattern) = rw c.eq.ensures (c.equal_nodes.ensures.patterns.plain c.index-entered.result.now.now c.args.pattern.now) in
    sym (path-passed view c.args.self.now.path.rest.items c.loop-index.index c.index-entered.result.now pattern (search rules) c.index-entered.ensures c.eq.result same c.if-eq.false) ∙ c.loop-index.invariant

pub returns : goal.returns
returns c =
    let view : Bor (Pattern (Bor (List ℕ))) → Elements = λ x. pattern_view (Bor (List ℕ)) (λ s. s.now) x.now in
    let pattern = pattern_view (Bor (List ℕ)) (λ s. s.now) c.args.pattern.now in
    let path = c.args.self.now.path in
    let past : length path.rest.items ≤ c.loop-index.index = search rules in
    sym (at_drop_all (λ xs. is_on_path pattern (map view xs)) path.rest.items c.loop-index.index past)
    ∙ c.loop-index.invariant
    ∙ sym (not-first view pattern path.first path.rest.items (sym c.begins_with.ensures ∙ c.if-begins_with.false))
