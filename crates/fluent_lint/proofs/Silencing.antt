-- What lines leave out, as the code finds it.
use Rattle.std.proofs.Common.{◌≡◌, ◌∙◌, ℕ, ◌+◌, ◌<◌, ◌||◌, Bool, false, true, List, [], ◌∷◌, ◌++◌, Option, Some, None, if◌then◌else◌, length, drop, get_or, map, refl, ap, sym, add-one, drop-cons}
use Rattle.std.proofs.lemmas.Str.Pattern.{starts_text}
use Rattle.std.specs.List.{list_any}
use Rattle.std.specs.Prelude.{codes}
use denote.Ref.{Bor}
use Rattle.fluent_grammar.specs.Words.{Text, begins_with, number_sign}
use Rattle.fluent_resource.specs.Sources.{texts}
use Rattle.fluent_lint.specs.Silence.{after_front, in_scope, or_else, silencing}
use Rattle.fluent_lint.specs.declared.scopes.Scope.TheVariants as of

-- a text that doesn't begin with a front
pub without_front : (front line : Text) → ((rest : Text) → line ≡ front ++ rest → ⊥) → None ≡ after_front front line
without_front front line lacks =
    ap (λ b. if b then Some (drop (length front) line) else None) (starts_text false front line lacks)

-- what a line leaves out, by the three fronts
pub by_fronts : (line : Text) (a b c : Option Text) →
    a ≡ after_front (codes "# lint-ignore:") line → b ≡ after_front (codes "## lint-ignore:") line → c ≡ after_front (codes "### lint-ignore:") line →
    or_else (in_scope of.Entry a) (or_else (in_scope of.Section b) (in_scope of.File c)) ≡ silencing line
by_fronts line a b c first second third =
    ap (λ x. or_else (in_scope of.Entry x) (or_else (in_scope of.Section b) (in_scope of.File c))) first
    ∙ ap (λ x. or_else (in_scope of.Entry (after_front (codes "# lint-ignore:") line)) (or_else (in_scope of.Section x) (in_scope of.File c))) second
    ∙ ap (λ x. or_else (in_scope of.Entry (after_front (codes "# lint-ignore:") line)) (or_else (in_scope of.Section (after_front (codes "## lint-ignore:") line)) (in_scope of.File x))) third

-- a line that is no comment
no_front : (line : Text) → begins_with number_sign line ≡ false → (front rest : Text) → line ≡ (number_sign ∷ front) ++ rest → ⊥
no_front line h front rest is = let clash : false ≡ true = sym h ∙ ap (begins_with number_sign) is in absurd cc

pub no_comment : (line : Text) → begins_with number_sign line ≡ false → None ≡ silencing line
no_comment line h =
    by_fronts line None None None
    (without_front (codes "# lint-ignore:") line (no_front line h (codes " lint-ignore:")))
    (without_front (codes "## lint-ignore:") line (no_front line h (codes "# lint-ignore:")))
    (without_front (codes "### lint-ignore:") line (no_front line h (codes "## lint-ignore:")))

-- one more line is left
pub next_text : (ls : List (Bor Text)) (i : ℕ) (l : Bor Text) → i < length ls → l ≡ get_or ls i l → texts (drop i ls) ≡ l.now ∷ texts (drop (i + 1) ls)
next_text ls i l inside is = ap texts (drop-cons ls i l inside) ∙ rw (← is, add-one) refl

-- a test of what is viewed
pub any_viewed : {X Y : Type 0} (view : X → Y) (test : Y → Bool) (xs : List X) → list_any (λ x. test (view x)) xs ≡ list_any test (map view xs)
any_viewed view test [] = refl
any_viewed view test (x ∷ xs) = ap (λ b. test (view x) || b) (any_viewed view test xs)
