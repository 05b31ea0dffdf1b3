-- The named arguments of a call, one after the other.
use Rattle.std.proofs.Common.{◌≡◌, ◌∙◌, ℕ, ◌+◌, ◌<◌, List, ◌++◌, length, map, drop, get_or, Option, Some, option_to_list, refl, sym, ap, append_assoc, add-one, drop-cons}
use Rattle.std.proofs.lemmas.List.{map-append}
use Rattle.fluent_ast.specs.View.{Named, nameds_of}
use Rattle.fluent_grammar.specs.Tree.{Inline, Nameds}
use Rattle.fluent_grammar.specs.Words.{Text}
use Rattle.lint_findings.specs.View.{remark_view}
use Rattle.lint_findings.specs.declared.remark.Remark.{Remark}
use Rattle.lint_findings.specs.Builtins.{Builtin, builtin_named}
use Rattle.lint_findings.specs.Misuses.{Misuse, call_misuses, misuse_remark, misuses_by, misuses_of, named_misuses, overruled_misuses}

-- what is said of the next argument is added
pub one_argument : {X : Type 0} (misuse : Text → Inline → Option Misuse) (view : X → Named) (xs : List X) (i : ℕ) (default x : X) (name : Text) (value : Inline) (old new : List Remark)
    → i < length xs → x ≡ get_or xs i default → view x ≡ record { name = name; value = value }
    → map remark_view new ≡ map remark_view old ++ map misuse_remark (option_to_list (misuse name value))
    → map remark_view new ++ map misuse_remark (misuses_of misuse (nameds_of (map view (drop (i + 1) xs))))
    ≡ map remark_view old ++ map misuse_remark (misuses_of misuse (nameds_of (map view (drop i xs))))
one_argument misuse view xs i default x name value old new inside is viewed added =
    let here = option_to_list (misuse name value) in
    let rest = misuses_of misuse (nameds_of (map view (drop (i + 1) xs))) in
    let found = λ (n : Named). option_to_list (misuse n.name n.value) ++ rest in
    let front : misuses_of misuse (nameds_of (map view (drop i xs))) ≡ found (view x) =
    ap (λ ys. misuses_of misuse (nameds_of (map view ys))) (drop-cons xs i default inside) ∙ rw (← is, add-one) refl in
    let first : misuses_of misuse (nameds_of (map view (drop i xs))) ≡ here ++ rest = front ∙ ap found viewed in
    ap (λ z. z ++ map misuse_remark rest) added ∙ append_assoc (map remark_view old) (map misuse_remark here) (map misuse_remark rest)
    ∙ ap (λ z. map remark_view old ++ z) (sym (ap (map misuse_remark) first ∙ map-append misuse_remark here rest))

-- what is said of misuses is added after what is said of others
both_added : (old mid new : List Remark) (a b : List Misuse) → map remark_view mid ≡ map remark_view old ++ map misuse_remark a → map remark_view new ≡ map remark_view mid ++ map misuse_remark b
    → map remark_view new ≡ map remark_view old ++ map misuse_remark (a ++ b)
both_added old mid new a b first second =
    second ∙ ap (λ z. z ++ map misuse_remark b) first ∙ append_assoc (map remark_view old) (map misuse_remark a) (map misuse_remark b)
    ∙ ap (λ z. map remark_view old ++ z) (sym (map-append misuse_remark a b))

-- what is said of a call of the function of this row is added: of its arguments by themselves, and of those that don't count next to others
pub call_added : (id : Text) (ns : Nameds) (row : Builtin) (old mid new : List Remark) → builtin_named id ≡ Some row
    → map remark_view mid ≡ map remark_view old ++ map misuse_remark (named_misuses row ns)
    → map remark_view new ≡ map remark_view mid ++ map misuse_remark (overruled_misuses row ns)
    → map remark_view new ≡ map remark_view old ++ map misuse_remark (call_misuses id ns)
call_added id ns row old mid new known first second =
    both_added old mid new (named_misuses row ns) (overruled_misuses row ns) first second
    ∙ ap (λ found. map remark_view old ++ map misuse_remark (misuses_by found ns)) (sym known)
