use Rattle.std.proofs.Common.{◌≡◌, ℕ, List, [], Bor, Decides, sym, ap, map, ◌∙◌}
use Rattle.fluent_ast.specs.View.{pattern_view}
use Rattle.fluent_ast.specs.declared.Pattern.{Pattern}
use Rattle.fluent_grammar.specs.Tree.{Elements}
use Rattle.fluent_meaning.specs.Substitution.{is_on_path}
use Rattle.fluent_progress.specs.Views.{with_first}
use Rattle.fluent_progress.proofs.Entered.{alone-first}
use Rattle.fluent_progress.proofs.path.Path.begins_with.Goals as goal

pub returns-in-Some : goal.returns-in-Some
returns-in-Some c =
    let view : Bor (Pattern (Bor (List ℕ))) → Elements = λ x. pattern_view (Bor (List ℕ)) (λ s. s.now) x.now in
    let pattern = pattern_view (Bor (List ℕ)) (λ s. s.now) c.args.pattern.now in
    let same : Decides c.eq.result (view c.in-Some.first ≡ pattern) = rw c.eq.ensures (c.equal_nodes.ensures.patterns.plain c.in-Some.first.now c.args.pattern.now) in
    alone-first view pattern c.in-Some.first c.eq.result same ∙ ap (λ o. is_on_path pattern (map view (with_first o []))) (sym c.in-Some.is)
