-- The ids of functions that are added one after the other.
use Rattle.std.proofs.Common.{◌≡◌, ℕ, zero, suc, ◌+◌, ◌<◌, false, List, [], ◌∷◌, ◌++◌, String, Global, length, get_or, take, map, string_bytes, refl, sym, ap, ◌∙◌, arith}
use Rattle.std.proofs.lemmas.List.{take_more, map-append}
use Rattle.fluent_grammar.specs.Words.{Text}
use Rattle.fluent_meaning.specs.Ids.{Ids, function, with_id, with_ids}
use Rattle.fluent_meaning.proofs.InTurn.{with_ids-++}
use Rattle.fluent_calls.specs.Functions.{placed, with_names}
use Rattle.fluent_calls.specs.declared.callee.Callee.{Callee}
use Rattle.fluent_calls.specs.declared.callee.Callee.TheVariants as callee

-- one name more
placed-more : (place : ℕ) (names : List Text) (name : Text) → placed place (names ++ name ∷ []) ≡ placed place names ++ (name, function (callee.Program (place + length names))) ∷ []
placed-more place [] name = ap (λ p. (name, function (callee.Program p)) ∷ []) (omega arith)
placed-more place (n ∷ names) name =
    ap (λ ps. (n, function (callee.Program place)) ∷ ps)
    (placed-more (suc place) names name ∙ ap (λ p. placed (suc place) names ++ (name, function (callee.Program p)) ∷ []) (omega arith))

length-take : (names : List (String Global)) (k : ℕ) → k < length names → length (map string_bytes (take k names)) ≡ k
length-take [] k inside = absurd omega arith
length-take (n ∷ names) zero inside = refl
length-take (n ∷ names) (suc k) inside = ap suc (length-take names k (omega arith))

map-more : (names : List (String Global)) (k : ℕ) (name : String Global) → k < length names → map string_bytes (take (k + 1) names) ≡ map string_bytes (take k names) ++ string_bytes (get_or names k name) ∷ []
map-more names k name inside = ap (map string_bytes) (take_more names k name inside) ∙ map-append string_bytes (take k names) (get_or names k name ∷ [])

-- one function more
pub functions-next : (ids : Ids Callee) (names : List (String Global)) (k : ℕ) (name : String Global) → k < length names → name ≡ get_or names k name →
    with_names (map string_bytes (take (k + 1) names)) ids ≡ with_id false (with_names (map string_bytes (take k names)) ids) (string_bytes name, function (callee.Program k))
functions-next ids names k name inside is =
    let before = map string_bytes (take k names) in
    let counted : length before ≡ k = length-take names k inside in
    let at : 0 + length before ≡ k = omega arith in
    ap (λ ns. with_ids false ids (placed 0 ns)) (map-more names k name inside ∙ ap (λ n. before ++ string_bytes n ∷ []) (sym is))
    ∙ ap (with_ids false ids) (placed-more 0 before (string_bytes name) ∙ ap (λ p. placed 0 before ++ (string_bytes name, function (callee.Program p)) ∷ []) at)
    ∙ with_ids-++ false ids (placed 0 before) ((string_bytes name, function (callee.Program k)) ∷ [])
