-- Attributes with the same names.
use Rattle.std.proofs.Common.{◌≡◌, ◌∙◌, suc, Bool, true, false, cond, not, List, [], ◌∷◌, length, map, refl, sym, ap}
use Rattle.std.specs.Cmp.Lexicographic.{same_text}
use Rattle.std.specs.Str.{bytes_eq}
use Rattle.std.proofs.lemmas.Bool.{and_parts, and_right}
use Rattle.fluent_grammar.specs.Tree as t
use Rattle.fluent_grammar.specs.Words.{Text, is_among}
use Rattle.lint_findings.specs.Comparison.{without}
use Rattle.lint_nodes.proofs.Unions.{AreAmong, among_here, among_second}
use Rattle.lint_comparison.specs.Lacks.{lack_of, lacking}
use Rattle.lint_comparison.specs.LackingAttributes.{have_same_names, names_of}
use Rattle.lint_comparison.specs.declared.lack.Lack.{Lack}

-- lists of different length
pub differ_in_length : (as' bs : List t.Attribute) → (length as' ≡ length bs → ⊥) → have_same_names as' bs ≡ false
differ_in_length [] [] h = absurd (h refl)
differ_in_length [] (b ∷ bs) h = refl
differ_in_length (a ∷ as') [] h = refl
differ_in_length (a ∷ as') (b ∷ bs) h = and_right (bytes_eq a.id b.id) (have_same_names as' bs) (differ_in_length as' bs (λ e. h (ap suc e)))

the_same : (as' bs : List t.Attribute) → have_same_names as' bs ≡ true → names_of as' ≡ names_of bs
the_same [] [] h = refl
the_same [] (b ∷ bs) h = absurd cc
the_same (a ∷ as') [] h = absurd cc
the_same (a ∷ as') (b ∷ bs) h =
    let both = and_parts (bytes_eq a.id b.id) (have_same_names as' bs) h in
    ap (λ x. x ∷ names_of as') (same_text a.id b.id (sym both.0)) ∙ ap (λ xs. b.id ∷ xs) (the_same as' bs both.1)

without_none : (xs ys : List Text) → AreAmong xs ys → without xs ys ≡ []
without_none [] ys h = refl
without_none (x ∷ xs) ys h =
    ap (λ b. cond (not b) (x ∷ without xs ys) (without xs ys)) (h x (among_here x xs)) ∙ without_none xs ys (λ y e. h y (among_second y (x ∷ []) xs e))

-- none is lacking
pub none_lacking : (kind : Lack) (as' bs : List t.Attribute) → have_same_names as' bs ≡ true → lacking kind (names_of as') (names_of bs) ≡ []
none_lacking kind as' bs h =
    ap (λ xs. lacking kind xs (names_of bs)) (the_same as' bs h) ∙ ap (map (lack_of kind)) (without_none (names_of bs) (names_of bs) (λ y e. e))
