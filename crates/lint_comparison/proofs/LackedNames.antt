-- The differences of names that one of two messages lacks, one after the other.
use Rattle.std.proofs.Common.{◌≡◌, ◌∙◌, ℕ, zero, suc, ◌+◌, ◌<◌, Bool, true, false, not, cond, ◌||◌, if◌then◌else◌, List, [], ◌∷◌, ◌++◌, length, map, take, get_or, refl, ap, sym, append_assoc, arith, Bor}
use Rattle.std.specs.Str.{bytes_eq}
use Rattle.std.specs.Cmp.Lexicographic.{same_text}
use Rattle.std.proofs.lemmas.List.{map-append}
use Rattle.std.proofs.lemmas.List.Elements.{filter-append}
use Rattle.fluent_ast.proofs.Copied.{map-take_more}
use Rattle.fluent_ast.specs.Borrowed.{attribute_of, attributes_of}
use Rattle.fluent_ast.specs.declared.Attribute.{Attribute}
use Rattle.lint_findings.specs.Comparison as c
use Rattle.lint_findings.specs.Comparison.{union, without}
use Rattle.fluent_grammar.specs.Tree as t
use Rattle.fluent_grammar.specs.Words.{Text, is_among}
use Rattle.lint_nodes.specs.HasNames.{texts}
use Rattle.lint_comparison.specs.Lacks.{lack_of, lacking}
use Rattle.lint_comparison.specs.LackingAttributes.{names_of}
use Rattle.lint_comparison.specs.declared.lack.Lack.{Lack}
use Rattle.lint_nodes.proofs.Unions.{among-append}

-- two lists that were added, one after the other
pub both_added : {A : Type 0} (a l n : List A) {b d : List A} → b ≡ a ++ l → d ≡ b ++ n → d ≡ a ++ (l ++ n)
both_added a l n p q = q ∙ ap (λ z. z ++ n) p ∙ append_assoc a l n

lacking-append : (kind : Lack) (xs zs ys : List Text) → lacking kind (xs ++ zs) ys ≡ lacking kind xs ys ++ lacking kind zs ys
lacking-append kind xs zs ys =
    ap (map (lack_of kind)) (filter-append (λ x. not (is_among x ys)) xs zs)
    ∙ map-append (lack_of kind) (without xs ys) (without zs ys)

-- what is read at a place in a list doesn't depend on what is read past its end
pub any_default : {A : Type 0} (xs : List A) (i : ℕ) (d e : A) → i < length xs → get_or xs i d ≡ get_or xs i e
any_default [] i d e inside = absurd (omega arith)
any_default (x ∷ xs) zero d e inside = refl
any_default (x ∷ xs) (suc i) d e inside = any_default xs i d e (omega arith)

module _ (kind : Lack) (ys : List Text) (a : List c.Difference) {b d : List c.Difference} where
  -- the difference of the next name was added
  pub next_name : (names : List (Bor Text)) (i : ℕ) (default : Bor Text) → i < length names → b ≡ a ++ lacking kind (texts (take i names)) ys → d ≡ b ++ lacking kind ((get_or names i default).now ∷ []) ys →
      d ≡ a ++ lacking kind (texts (take (i + 1) names)) ys
  next_name names i default inside before here =
      let item = get_or names i default in
      both_added a (lacking kind (texts (take i names)) ys) (lacking kind (item.now ∷ []) ys) before here
      ∙ ap (λ l. a ++ l) (sym (lacking-append kind (texts (take i names)) (item.now ∷ []) ys) ∙ ap (λ xs. lacking kind xs ys) (sym (map-take_more (λ (s : Bor Text). s.now) names i item inside (any_default names i default item inside))))

pub more_names : (xs : List (Attribute (Bor Text))) (i : ℕ) (item : Attribute (Bor Text)) → i < length xs → item ≡ get_or xs i item →
    names_of (attributes_of (take (i + 1) xs)) ≡ names_of (attributes_of (take i xs)) ++ item.id.name.now ∷ []
more_names xs i item inside is =
    ap names_of (map-take_more attribute_of xs i item inside is) ∙ map-append (λ (a : t.Attribute). a.id) (attributes_of (take i xs)) (attribute_of item ∷ [])

module _ (kind : Lack) (ys : List Text) (a : List c.Difference) {b d : List c.Difference} where
  -- that of the name of the next attribute
  pub next_attribute : (xs : List (Attribute (Bor Text))) (i : ℕ) (item : Attribute (Bor Text)) → i < length xs → item ≡ get_or xs i item →
      b ≡ a ++ lacking kind (names_of (attributes_of (take i xs))) ys → d ≡ b ++ lacking kind (item.id.name.now ∷ []) ys → d ≡ a ++ lacking kind (names_of (attributes_of (take (i + 1) xs))) ys
  next_attribute xs i item inside is before here =
      let names = names_of (attributes_of (take i xs)) in
      both_added a (lacking kind names ys) (lacking kind (item.id.name.now ∷ []) ys) before here
      ∙ ap (λ l. a ++ l) (sym (lacking-append kind names (item.id.name.now ∷ []) ys) ∙ ap (λ xs'. lacking kind xs' ys) (sym (more_names xs i item inside is)))

-- ---- each name once

or_last : (a b : Bool) → (a || false) ≡ a
or_last true b = refl
or_last false b = refl

old_name : (a c d : Bool) → (d ≡ true → a ≡ true) → (a || c) ≡ (a || (d || c))
old_name true c d known = refl
old_name false c true known = absurd (let bad = known refl in cc)
old_name false c false known = refl

new_name : (a c d : Bool) → ((a || (d || false)) || c) ≡ (a || (d || c))
new_name true c d = refl
new_name false c true = refl
new_name false c false = refl

among_union : (x : Text) (ys xs : List Text) → is_among x (union xs ys) ≡ (is_among x xs || is_among x ys)
among_union x [] xs = sym (or_last (is_among x xs) true)
among_union x (y ∷ ys) xs = by (is_among y xs) refl (among_union x ys xs) (among_union x ys (xs ++ y ∷ []))
  where
    by : (b : Bool) → is_among y xs ≡ b → is_among x (union xs ys) ≡ (is_among x xs || is_among x ys) → is_among x (union (xs ++ y ∷ []) ys) ≡ (is_among x (xs ++ y ∷ []) || is_among x ys) →
        is_among x (if b then union xs ys else union (xs ++ y ∷ []) ys) ≡ (is_among x xs || (bytes_eq y x || is_among x ys))
    by true known old new = old ∙ old_name (is_among x xs) (is_among x ys) (bytes_eq y x) (λ same. ap (λ z. is_among z xs) (sym (same_text y x (sym same))) ∙ known)
    by false known old new = new ∙ ap (λ b. b || is_among x ys) (among-append x xs (y ∷ [])) ∙ new_name (is_among x xs) (is_among x ys) (bytes_eq y x)

without_by : (x : Text) (rest others : List Text) (b d : Bool) → b ≡ d → rest ≡ others → cond (not b) (x ∷ rest) rest ≡ cond (not d) (x ∷ others) others
without_by x rest others b d same later = ap (λ e. cond (not e) (x ∷ rest) rest) same ∙ ap (λ l. cond (not d) (x ∷ l) l) later

pub without_each : (xs ys : List Text) → without xs (union [] ys) ≡ without xs ys
without_each [] ys = refl
without_each (x ∷ xs) ys = without_by x (without xs (union [] ys)) (without xs ys) (is_among x (union [] ys)) (is_among x ys) (among_union x ys []) (without_each xs ys)
