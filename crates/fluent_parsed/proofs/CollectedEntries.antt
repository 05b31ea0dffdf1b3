-- What the parts of a source make.
use Rattle.std.proofs.Common.{◌≡◌, ◌≢◌, ℕ, ◌<◌, Bool, List, [], ◌∷◌, ◌++◌, Option, None, length, map, false, true, refl, sym, ap, ◌∙◌, arith, append_assoc}
use Rattle.std.specs.Prelude.{◌==◌}
use Rattle.std.proofs.lemmas.Bool.Decides.{nat_tests}
use Rattle.std.proofs.lemmas.List.{map-append}
use Rattle.fluent_grammar.specs.Words.{Text}
use Rattle.fluent_grammar.specs.Tiling.{Piece, entries_of, entry, waiting}
use Rattle.fluent_ast.specs.declared.Entry.{Entry}
use Rattle.fluent_ast.specs.declared.Entry.TheVariants as of
use Rattle.fluent_ast.specs.View.{entry_view}

-- one more error
pub told_more : {A B : Type 0} (f : A → B) (old new : List A) (e : A) (rest : List B) → new ≡ old ++ e ∷ [] → map f new ++ rest ≡ map f old ++ f e ∷ rest
told_more f old new e rest is = ap (λ l. map f l ++ rest) is ∙ ap (λ l. l ++ rest) (map-append f old (e ∷ [])) ∙ append_assoc (map f old) (f e ∷ []) rest

nothing_more : {A : Type 0} (l : List A) → l ++ [] ≡ l
nothing_more [] = refl
nothing_more (x ∷ xs) = ap (λ ys. x ∷ ys) (nothing_more xs)

pub mapped_none : {A B : Type 0} (f : A → B) (new old : List A) → new ≡ old → length new ≡ 0 → map f old ++ [] ≡ []
mapped_none f [] old e z = ap (λ l. map f l ++ []) (sym e)
mapped_none f (x ∷ xs) old e z = absurd (omega arith)

not_none : {A B : Type 0} (f : A → B) (l : List A) → 0 < length l → map f l ++ [] ≢ []
not_none f [] h = absurd (omega arith)
not_none f (x ∷ xs) h = λ e. absurd cc

pub mapped_some : {A B : Type 0} (f : A → B) (new old : List A) → new ≡ old → 0 < length new → (map f new ≡ map f old ++ []) × (map f old ++ [] ≢ [])
mapped_some f new old e z = (ap (map f) e ∙ sym (nothing_more (map f old)), not_none f old (omega (arith, ap length e)))

pub test_some : (n : ℕ) → (n == 0) ≡ false → 0 < n
test_some n h = grind (arith, nat_tests)

pub test_none : (n : ℕ) → (n == 0) ≡ true → n ≡ 0
test_none n h = grind (arith, nat_tests)

-- what an entry makes that is no message, no term and no comment of one sign: the comment that waits stands before it
pub entries-other : (S : Type 0) (text_of : S → Text) (held : Option (List Text)) (apart : Bool) (added : Entry S) (ps : List Piece)
    → ((m : _) → added ≡ of.Message m → ⊥) → ((m : _) → added ≡ of.Term m → ⊥) → ((c : _) → added ≡ of.Comment c → ⊥)
    → entries_of held (entry apart (entry_view S text_of added) ∷ ps) ≡ waiting held ++ entry_view S text_of added ∷ entries_of None ps
entries-other S text_of held apart (of.Message m) ps message term comment = absurd (message m refl)
entries-other S text_of held apart (of.Term m) ps message term comment = absurd (term m refl)
entries-other S text_of held apart (of.Comment c) ps message term comment = absurd (comment c refl)
entries-other S text_of held apart (of.GroupComment c) ps message term comment = refl
entries-other S text_of held apart (of.ResourceComment c) ps message term comment = refl
entries-other S text_of held apart (of.Junk s) ps message term comment = refl

-- items after two lists, and one more after them
pub appended_twice : {A : Type 0} (new body waits : List A) (e : A) (rest whole : List A) → new ≡ (body ++ waits) ++ e ∷ [] → whole ≡ waits ++ e ∷ rest → new ++ rest ≡ body ++ whole
appended_twice new body waits e rest whole is more =
    ap (λ l. l ++ rest) is ∙ append_assoc (body ++ waits) (e ∷ []) rest ∙ append_assoc body waits (e ∷ rest) ∙ ap (λ l. body ++ l) (sym more)
