-- Where resolving is, by the patterns that are being written.
use Rattle.std.proofs.Common.{◌≡◌, ◌∙◌, ◌-◌, ◌++◌, ◌∷◌, [], List, Bor, ℕ, ap, arith, length, length-append, map, take}
use Rattle.std.proofs.lemmas.List.{map-append, take_at}
use Rattle.fluent_ast.specs.View.{pattern_view}
use Rattle.fluent_ast.specs.declared.Pattern.{Pattern}
use Rattle.fluent_grammar.specs.Tree.{Elements}
use Rattle.fluent_meaning.specs.Substitution as s
use Rattle.fluent_progress.specs.Views.{patterns_on, start_of}
use Rattle.fluent_progress.specs.declared.context.Context.{Ghosts as Context}
use Rattle.fluent_progress.specs.declared.path.Path.{Path}
use Rattle.fluent_progress.specs.declared.place.Surroundings.{Surroundings}
use Rattle.fluent_value.specs.declared.custom.FluentType.{Ghosts as Custom}
use Rattle.fluent_value.specs.declared.scope.ValueScope.{Ghosts as Scope}

-- the elements of a pattern that is being written
abbrev pub entered : Bor (Pattern (Bor (List ℕ))) → Elements
entered x = pattern_view (Bor (List ℕ)) (λ s. s.now) x.now

-- one went on the path
pub entered-path : {ps qs rs : List (Bor (Pattern (Bor (List ℕ))))} (p : Bor (Pattern (Bor (List ℕ)))) → ps ≡ qs ++ p ∷ [] → qs ≡ rs → map entered ps ≡ map entered rs ++ entered p ∷ []
entered-path {rs = rs} p put h = ap (map entered) (put ∙ ap (λ v. v ++ p ∷ []) h) ∙ map-append entered rs (p ∷ [])

-- it went off again
pub left-path : {ps qs : List (Bor (Pattern (Bor (List ℕ))))} (p : Bor (Pattern (Bor (List ℕ)))) → qs ≡ ps ++ p ∷ [] → take (length qs - 1) qs ≡ ps
left-path {ps = ps} p h = ap (λ xs. take (length xs - 1) xs) h ∙ take_at ps (p ∷ []) (length (ps ++ p ∷ []) - 1) (omega (arith, length-append ps (p ∷ [])))

module _ {C F E S : Type 0} {c : Custom C S} {e : Context E C F S} {v : Scope E C S} (place : Surroundings C F E S c e v) where
  -- with these patterns on the path
  abbrev pub place_on : List Elements → s.Surroundings S
  place_on path = let start = start_of place in record { arguments = start.arguments; locals = start.locals; path = path }

  pub place-on : {ps qs : List Elements} → ps ≡ qs → place_on ps ≡ place_on qs
  place-on h = ap place_on h

  -- nothing was put on the path and taken off it
  pub same-place : {ps qs : List (Bor (Pattern (Bor (List ℕ))))} → ps ≡ qs → place_on (map entered ps) ≡ place_on (map entered qs)
  same-place h = place-on (ap (map entered) h)

  pub kept-place : {p q : Path} → p ≡ q → place_on (map entered (patterns_on p)) ≡ place_on (map entered (patterns_on q))
  kept-place h = same-place (ap patterns_on h)
