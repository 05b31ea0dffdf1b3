-- When all nodes are known, the endless ones lead into circles.
use Rattle.std.proofs.Common.{◌≡◌, ◌∙◌, ℕ, zero, suc, ◌<◌, Bool, false, List, [], ◌∷◌, length, map, refl, ap, sym, arith}
use Rattle.lint_nodes.specs.Graph.{edge, GoesOn, AreEndless, mark_at}
use Rattle.lint_nodes.specs.declared.states.State.{State}
use Rattle.lint_nodes.specs.declared.states.State.TheVariants as of
use Rattle.lint_nodes.specs.Path.{state_at, is_new, is_endless, open_count, endless_at, IsSettled}

marks_same : (ss : List State) (v : ℕ) → mark_at (map is_endless ss) v ≡ endless_at ss v
marks_same [] zero = refl
marks_same [] (suc v) = refl
marks_same (s ∷ ss) zero = refl
marks_same (s ∷ ss) (suc v) = marks_same ss v

as_long : (ss : List State) → length (map is_endless ss) ≡ length ss
as_long [] = refl
as_long (s ∷ ss) = ap suc (as_long ss)

ends_from : (s : State) → is_new s ≡ false → open_count s ≡ 0 → is_endless s ≡ false → s ≡ of.Ends
ends_from of.New n o e = absurd cc
ends_from of.Open n o e = absurd (omega arith)
ends_from of.Ends n o e = refl
ends_from of.Endless n o e = absurd cc

module _ (g : List (List ℕ)) (ss : List State) (settled : IsSettled g ss) (known : (v : ℕ) → v < length g → is_new (state_at ss v) ≡ false) where
  abbrev marks : List Bool
  marks = map is_endless ss

  goes : (v : ℕ) → GoesOn g (endless_at ss) v → GoesOn g (mark_at marks) v
  goes v on = (on.0, on.1, marks_same ss (edge g v on.0) ∙ on.2)

  pub are_endless : AreEndless g marks
  are_endless = record {
    long = as_long ss ∙ settled.right.long;
    endless = λ v h. goes v (settled.right.endless v (sym (marks_same ss v) ∙ h));
    ending = λ v within h. settled.right.ends v (ends_from (state_at ss v) (known v within) (settled.closed v) (sym (marks_same ss v) ∙ h));
  }
