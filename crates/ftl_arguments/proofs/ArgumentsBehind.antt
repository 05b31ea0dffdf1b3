-- Arguments that are read one after the other.
use Rattle.std.proofs.Common.{◌≡◌, List, [], ◌∷◌, ◌++◌, Option, Some, None, refl, sym, ap, ◌∙◌, append_assoc, append-nil}
use Rattle.std.proofs.lemmas.List.{map-append}
use Rattle.fluent_serve.specs.Text.{Text, equals, cut_at}
use Rattle.fluent_serve.specs.Requests.{argument_of, arguments_of, and_argument}
use denote.Ref.{Bor}
use Rattle.fluent_serve.specs.RequestView.{argument_view, arguments_view}

-- arguments that were read, before those that are left
abbrev pub behind_arguments : {V : Type 0} → List (Text × V) → Option (List (Text × V)) → Option (List (Text × V))
behind_arguments front None = None
behind_arguments front (Some rest) = Some (front ++ rest)

-- one more argument that was read
behind_argument-some : {V : Type 0} (front : List (Text × V)) (a : Text × V) (o : Option (List (Text × V))) →
    behind_arguments front (and_argument (Some a) o) ≡ behind_arguments (front ++ a ∷ []) o
behind_argument-some front a None = refl
behind_argument-some front a (Some more) = ap Some (sym (append_assoc front (a ∷ []) more))

pub behind_argument : (front : List (Bor Text × Bor Text)) (a : Bor Text × Bor Text) (part : Text) (rest : List Text) →
    Some (argument_view a) ≡ argument_of (λ s. s) (cut_at equals part) →
    behind_arguments (arguments_view front) (arguments_of (λ s. s) (part ∷ rest)) ≡ behind_arguments (arguments_view (front ++ a ∷ [])) (arguments_of (λ s. s) rest)
behind_argument front a part rest is =
    ap (λ o. behind_arguments (arguments_view front) (and_argument o (arguments_of (λ s. s) rest))) (sym is)
    ∙ (behind_argument-some (arguments_view front) (argument_view a) (arguments_of (λ s. s) rest)
    ∙ ap (λ xs. behind_arguments xs (arguments_of (λ s. s) rest)) (sym (map-append argument_view front (a ∷ []))))

-- a part without equals sign is no argument, so there are none
pub behind_no_argument : (front : List (Text × Text)) (part : Text) (rest : List Text) →
    None ≡ argument_of (λ s. s) (cut_at equals part) → behind_arguments front (arguments_of (λ s. s) (part ∷ rest)) ≡ None
behind_no_argument front part rest is = ap (λ o. behind_arguments front (and_argument o (arguments_of (λ s. s) rest))) (sym is)

-- with no part left, the arguments that were read are all
pub behind_all : (front : List (Text × Text)) → behind_arguments front (Some []) ≡ Some front
behind_all front = ap Some (append-nil front)
