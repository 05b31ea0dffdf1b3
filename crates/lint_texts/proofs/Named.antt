-- Names of what a text has, each once, and what is said of one after the other.
use Rattle.std.proofs.Common.{◌≡◌, ◌∙◌, ℕ, ◌+◌, ◌<◌, Bool, true, false, not, ◌||◌, if◌then◌else◌, List, [], ◌∷◌, ◌++◌, length, map, drop, take, get_or, refl, ap, sym, add-one, drop-cons, append_assoc, Bor}
use Rattle.std.specs.List.{flat_map}
use Rattle.std.specs.Str.{bytes_eq}
use Rattle.std.proofs.lemmas.List.{get_or_default, map-append}
use Rattle.fluent_ast.proofs.Copied.{map-take_more}
use Rattle.fluent_grammar.specs.Words.{Text, is_among}
use Rattle.lint_nodes.specs.HasNames.{texts}
use Rattle.lint_nodes.proofs.Unions.{among-append, union-append}
use Rattle.lint_findings.specs.Comparison.{union, without}
use Rattle.lint_findings.specs.Doubts as d
use Rattle.lint_markup.specs.InCode.{said, spotted_views}
use Rattle.lint_markup.specs.declared.spotted.Spotted.{Spotted}

-- ---- names, each once

-- one more of some things, by its name
pub one_named : {A P : Type 0} (view : A → P) (name : P → Text) (xs : List A) (i : ℕ) (default : A) → i < length xs →
    union [] (map name (map view (take (i + 1) xs))) ≡ union (union [] (map name (map view (take i xs)))) (name (view (get_or xs i default)) ∷ [])
one_named view name xs i default inside =
    let item = get_or xs i default in
    ap (λ ys. union [] (map name ys)) (map-take_more view xs i item inside (get_or_default xs i default item inside))
    ∙ ap (union []) (map-append name (map view (take i xs)) (view item ∷ []))
    ∙ union-append [] (map name (map view (take i xs))) (name (view item) ∷ [])

-- the same names are among both
abbrev pub Same : List Text → List Text → Type 0
Same xs ys = (x : Text) → is_among x xs ≡ is_among x ys

pub same_more : (y : Text) (xs ys : List Text) → Same xs ys → Same (y ∷ xs) (y ∷ ys)
same_more y xs ys same x = ap (λ b. bytes_eq y x || b) (same x)

or_nil : (a : Bool) → (a || false) ≡ a
or_nil true = refl
or_nil false = refl

or_comm : (a b : Bool) → (a || b) ≡ (b || a)
or_comm true true = refl
or_comm true false = refl
or_comm false true = refl
or_comm false false = refl

-- a name that is added at the end, if it is new
pub same_added : (known : List Text) (y : Text) → is_among y known ≡ false → Same (union known (y ∷ [])) (y ∷ known)
same_added known y new x =
    ap (λ b. is_among x (if b then known else known ++ y ∷ [])) new
    ∙ among-append x known (y ∷ [])
    ∙ ap (λ b. is_among x known || b) (or_nil (bytes_eq y x))
    ∙ or_comm (is_among x known) (bytes_eq y x)

-- those of some names that aren't among others, one after the other
each_by : {A : Type 0} (f : Text → A) (x : Text) (xs ys : List Text) (b : Bool) → map f (without xs ys) ≡ flat_map (λ x. if is_among x ys then [] else f x ∷ []) xs →
    map f (if not b then x ∷ without xs ys else without xs ys) ≡ (if b then [] else f x ∷ []) ++ flat_map (λ x. if is_among x ys then [] else f x ∷ []) xs
each_by f x xs ys true later = later
each_by f x xs ys false later = ap (λ zs. f x ∷ zs) later

pub without_each : {A : Type 0} (f : Text → A) (xs ys : List Text) → map f (without xs ys) ≡ flat_map (λ x. if is_among x ys then [] else f x ∷ []) xs
without_each f [] ys = refl
without_each f (x ∷ xs) ys = each_by f x xs ys (is_among x ys) (without_each f xs ys)

-- ---- what is said of one thing after the other

-- what was added first, and then the rest
pub adds_both : (xs ys : List d.Spotted) (old mid new : List Spotted) → spotted_views mid ≡ spotted_views old ++ map said xs → spotted_views new ≡ spotted_views mid ++ map said ys →
    spotted_views new ≡ spotted_views old ++ map said (xs ++ ys)
adds_both xs ys old mid new first second =
    second
    ∙ ap (λ z. z ++ map said ys) first
    ∙ append_assoc (spotted_views old) (map said xs) (map said ys)
    ∙ ap (λ z. spotted_views old ++ z) (sym (map-append said xs ys))

-- what was added, then what is left
pub first_said : (here rest all : List d.Spotted) (old new : List Spotted) → all ≡ here ++ rest → spotted_views new ≡ spotted_views old ++ map said here →
    spotted_views new ++ map said rest ≡ spotted_views old ++ map said all
first_said here rest all old new is added =
    ap (λ xs. xs ++ map said rest) added
    ∙ append_assoc (spotted_views old) (map said here) (map said rest)
    ∙ ap (λ xs. spotted_views old ++ xs) (sym (map-append said here rest) ∙ sym (ap (map said) is))

-- of the next name
pub one_said : (rule : Text → List d.Spotted) (names : List (Bor Text)) (i : ℕ) (default : Bor Text) (old new : List Spotted) →
    i < length names → spotted_views new ≡ spotted_views old ++ map said (rule (get_or names i default).now) →
    spotted_views new ++ map said (flat_map rule (texts (drop (i + 1) names))) ≡ spotted_views old ++ map said (flat_map rule (texts (drop i names)))
one_said rule names i default old new inside added =
    let here = rule (get_or names i default).now in
    let rest = flat_map rule (texts (drop (i + 1) names)) in
    let all : flat_map rule (texts (drop i names)) ≡ here ++ rest = ap (λ xs. flat_map rule (texts xs)) (drop-cons names i default inside) ∙ rw (add-one) refl in
    first_said here rest (flat_map rule (texts (drop i names))) old new all added
