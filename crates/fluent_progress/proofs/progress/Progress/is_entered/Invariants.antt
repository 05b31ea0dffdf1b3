use Rattle.std.proofs.Common.{◌≡◌, map, drop, ℕ, List, Bor}
use Rattle.fluent_grammar.specs.Tree.{Elements}
use Rattle.fluent_ast.specs.declared.Pattern.{Pattern}
use Rattle.fluent_ast.specs.View.{pattern_view}
use Rattle.fluent_meaning.specs.Substitution.{is_on_path}
use Rattle.fluent_progress.proofs.progress.Progress.is_entered.Given as goal

-- the pattern is none of the others so far
abbrev pub invariant-loop-index : goal.invariant-loop-index
invariant-loop-index l =
    let view : Bor (Pattern (Bor (List ℕ))) → Elements = λ x. pattern_view (Bor (List ℕ)) (λ s. s.now) x.now in
    is_on_path (pattern_view _ (λ s. s.now) l.pattern) (map view (drop l.index l.self.path.rest.items)) ≡ is_on_path (pattern_view _ (λ s. s.now) l.pattern) (map view l.self.path.rest.items)
