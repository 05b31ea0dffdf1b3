-- Names among others.
use Rattle.std.proofs.Common.{◌≡◌, Bool, true, false, ◌||◌, List, [], ◌∷◌, map, refl, ap, ◌∙◌}
use Rattle.std.specs.List.{list_any}
use Rattle.std.specs.Str.{bytes_eq}
use mathlib.Core.List.{reverse_aux}
use Rattle.fluent_grammar.specs.Words as w
use Rattle.fluent_grammar.specs.Words.{Text}
use Rattle.fluent_ast.specs.View.{Named}
use Rattle.fluent_parser.specs.Steps.{names_of}

moved : (a b c : Bool) → (b || (a || c)) ≡ ((a || b) || c)
moved true true c = refl
moved true false c = refl
moved false true c = refl
moved false false c = refl

any_aux : (p : Text → Bool) (xs acc : List Text) → list_any p (reverse_aux xs acc) ≡ (list_any p xs || list_any p acc)
any_aux p [] acc = refl
any_aux p (x ∷ xs) acc = any_aux p xs (x ∷ acc) ∙ moved (p x) (list_any p xs) (list_any p acc)

abbrev name_in : Named → Text
name_in n = n.name

any_map : {X Y : Type 0} (name : X → Y) (p : Y → Bool) (xs : List X) → list_any p (map name xs) ≡ list_any (λ x. p (name x)) xs
any_map name p [] = refl
any_map name p (x ∷ xs) = ap (λ b. p (name x) || b) (any_map name p xs)

or_false : (b : Bool) → (b || false) ≡ b
or_false true = refl
or_false false = refl

pub among_is : {X : Type 0} (view : X → Named) (name : Text) (xs : List X) → w.is_among name (names_of (map view xs)) ≡ list_any (λ x. bytes_eq (view x).name name) xs
among_is view name xs =
    any_aux (λ other. bytes_eq other name) (map (λ n. n.name) (map view xs)) [] ∙ or_false _
    ∙ any_map name_in (λ other. bytes_eq other name) (map view xs)
    ∙ any_map view (λ n. bytes_eq n.name name) xs
