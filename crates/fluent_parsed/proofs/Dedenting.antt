-- The common indent taken off one element after the other.
use Rattle.std.proofs.Common.{◌≡◌, ℕ, ◌+◌, ◌-◌, ◌<◌, ◌≤◌, Bool, List, [], ◌∷◌, ◌++◌, length, take, drop, set, get_or, sym, ap, ◌∙◌, arith, Option, Some, None}
use Rattle.std.specs.Prelude.{◌==◌}
use Rattle.std.proofs.lemmas.List.{take_more_set, drop-set-lt, drop_more, append_assoc}
use Rattle.std.proofs.lemmas.List.Sums.{prefix_len_passes, prefix_len-le-length}
use Rattle.fluent_grammar.specs.Words.{Text, space, spaces}
use Rattle.fluent_tokens.specs.Counted.{Cuts}
use Rattle.fluent_tokens.proofs.Counted.{cut_by_ascii}
use Rattle.fluent_tokens.proofs.Scanned.{test_of}
use Rattle.fluent_ast.specs.View.{Element}
use Rattle.fluent_parsed.specs.Elements.{cut_len, line_behind, dedented_by, dedented_from}

pub cut_le : (common : Option ℕ) (n : ℕ) → cut_len common n ≤ n
cut_le None n = omega arith
cut_le (Some common) n = omega arith

-- a text may be cut among its leading spaces
pub cut_among_spaces : (x : Text) (n : ℕ) → n ≤ spaces x → Cuts x n
cut_among_spaces x n h =
    let l = prefix_len-le-length (λ c. c == space) x in
    cut_by_ascii x n (omega (arith, l)) (λ z.
    let s : get_or x (n - 1) 0 ≡ space = test_of (get_or x (n - 1) 0) space (prefix_len_passes (λ c. c == space) x (n - 1) 0 (omega arith)) in
    rw s (omega arith))

-- one more element done
pub dedent_step : (xs : List Element) (i : ℕ) (d y : Element) (line : Bool) (common : Option ℕ) → i < length xs → y ≡ dedented_by line common (get_or xs i d) →
    take (i + 1) (set xs i y) ++ dedented_from (line_behind (get_or xs i d)) common (drop (i + 1) (set xs i y)) ≡ take i xs ++ dedented_from line common (drop i xs)
dedent_step xs i d y line common h e =
    let next = line_behind (get_or xs i d) in
    let rest = dedented_from next common (drop (i + 1) xs) in
    ap (λ (z : List Element). take (i + 1) (set xs i y) ++ dedented_from next common z) (drop-set-lt (i + 1) xs i y (omega arith))
    ∙ ap (λ (z : List Element). z ++ rest) (take_more_set xs i y h)
    ∙ append_assoc (take i xs) (y ∷ []) rest
    ∙ ap (λ (z : Element). take i xs ++ z ∷ rest) e
    ∙ ap (λ (z : List Element). take i xs ++ dedented_from line common z) (sym (drop_more xs i d h))
