-- Lists of names to which others are added, each once.
use Rattle.std.proofs.Common.{◌≡◌, ◌∙◌, Bool, true, false, ◌||◌, if◌then◌else◌, List, [], ◌∷◌, ◌++◌, refl, ap, sym, append_assoc, append-nil, arith}
use Rattle.std.specs.Str.{bytes_eq}
use Rattle.std.specs.Cmp.Lexicographic.{same_text}
use Rattle.std.proofs.lemmas.List.{append_cancel_left}
use Rattle.std.proofs.lemmas.List.Folds.{list_any-append}
use Rattle.std.proofs.lemmas.Slice.Eq.{bytes_eq-Decides}
use Rattle.fluent_grammar.specs.Words.{Text, is_among}
use Rattle.lint_findings.specs.Comparison.{union}

-- ---- which names are among others

-- each of some names is one of others
abbrev pub AreAmong : List Text → List Text → Type 0
AreAmong ys xs = (y : Text) → is_among y ys ≡ true → is_among y xs ≡ true

or_true : (b : Bool) → (b || true) ≡ true
or_true true = refl
or_true false = refl

pub among-append : (y : Text) (xs ys : List Text) → is_among y (xs ++ ys) ≡ (is_among y xs || is_among y ys)
among-append y xs ys = list_any-append (λ other. bytes_eq other y) xs ys

pub among_first : (y : Text) (xs ys : List Text) → is_among y xs ≡ true → is_among y (xs ++ ys) ≡ true
among_first y xs ys h = among-append y xs ys ∙ ap (λ b. b || is_among y ys) h

pub among_second : (y : Text) (xs ys : List Text) → is_among y ys ≡ true → is_among y (xs ++ ys) ≡ true
among_second y xs ys h = among-append y xs ys ∙ ap (λ b. is_among y xs || b) h ∙ or_true (is_among y xs)

same_bytes : (s : Text) → bytes_eq s s ≡ true
same_bytes s = grind (arith, bytes_eq-Decides)

pub among_here : (y : Text) (ys : List Text) → is_among y (y ∷ ys) ≡ true
among_here y ys = ap (λ b. b || is_among y ys) (same_bytes y)

here_or_later : (x y : Text) (xs : List Text) (b : Bool) → bytes_eq x y ≡ b → (b || is_among y xs) ≡ true → (Goal : Type 0) → (x ≡ y → Goal) → (is_among y xs ≡ true → Goal) → Goal
here_or_later x y xs true e h Goal here later = here (same_text x y (sym e))
here_or_later x y xs false e h Goal here later = later h

-- what is among some names is the first of them or one of the others
pub among_cons : (x y : Text) (xs : List Text) → is_among y (x ∷ xs) ≡ true → (Goal : Type 0) → (x ≡ y → Goal) → (is_among y xs ≡ true → Goal) → Goal
among_cons x y xs h Goal here later = here_or_later x y xs (bytes_eq x y) refl h Goal here later

-- ---- lists that begin alike

-- the second list begins with the first
abbrev pub Begins : List Text → List Text → Type 0
Begins xs ys = (more : List Text) × (ys ≡ xs ++ more)

pub begins_itself : (xs : List Text) → Begins xs xs
begins_itself xs = ([], sym (append-nil xs))

nil_left : (xs ys : List Text) → xs ++ ys ≡ [] → xs ≡ []
nil_left [] ys e = refl
nil_left (x ∷ xs) ys e = absurd cc

no_more : (xs more : List Text) → xs ≡ xs ++ more → more ≡ []
no_more xs more e = sym (append_cancel_left xs [] more (append-nil xs ∙ e))

-- two lists that begin with each other are the same
pub begin_each_other : (xs ys : List Text) → Begins xs ys → Begins ys xs → xs ≡ ys
begin_each_other xs ys h k =
    let none : h.0 ++ k.0 ≡ [] = no_more xs (h.0 ++ k.0) (k.1 ∙ ap (λ zs. zs ++ k.0) h.1 ∙ append_assoc xs h.0 k.0) in
    sym (h.1 ∙ ap (λ zs. xs ++ zs) (nil_left h.0 k.0 none) ∙ append-nil xs)

-- ---- unions

pub union-append : (xs ys zs : List Text) → union xs (ys ++ zs) ≡ union (union xs ys) zs
union-append xs [] zs = refl
union-append xs (y ∷ ys) zs = by (is_among y xs) (union-append xs ys zs) (union-append (xs ++ y ∷ []) ys zs)
  where
    by : (b : Bool) → union xs (ys ++ zs) ≡ union (union xs ys) zs → union (xs ++ y ∷ []) (ys ++ zs) ≡ union (union (xs ++ y ∷ []) ys) zs →
        (if b then union xs (ys ++ zs) else union (xs ++ y ∷ []) (ys ++ zs)) ≡ union (if b then union xs ys else union (xs ++ y ∷ []) ys) zs
    by true old new = old
    by false old new = new

pub union_begins : (xs ys : List Text) → Begins xs (union xs ys)
union_begins xs [] = begins_itself xs
union_begins xs (y ∷ ys) = by (is_among y xs) (union_begins xs ys) (union_begins (xs ++ y ∷ []) ys)
  where
    by : (b : Bool) → Begins xs (union xs ys) → Begins (xs ++ y ∷ []) (union (xs ++ y ∷ []) ys) → Begins xs (if b then union xs ys else union (xs ++ y ∷ []) ys)
    by true old new = old
    by false old new = (y ∷ new.0, new.1 ∙ append_assoc xs (y ∷ []) new.0)

pub among_union : (x : Text) (xs ys : List Text) → is_among x xs ≡ true → is_among x (union xs ys) ≡ true
among_union x xs ys h = let more = union_begins xs ys in ap (is_among x) more.1 ∙ among_first x xs more.0 h

-- what is added to a list is in it
pub are_in_union : (xs ys : List Text) → AreAmong ys (union xs ys)
are_in_union xs [] = λ x h. absurd cc
are_in_union xs (y ∷ ys) = λ x h. by (is_among y xs) refl (are_in_union xs ys) (are_in_union (xs ++ y ∷ []) ys) x h
  where
    by : (b : Bool) → is_among y xs ≡ b → AreAmong ys (union xs ys) → AreAmong ys (union (xs ++ y ∷ []) ys) → (x : Text) → is_among x (y ∷ ys) ≡ true →
        is_among x (if b then union xs ys else union (xs ++ y ∷ []) ys) ≡ true
    by true e old new x h = among_cons y x ys h (is_among x (union xs ys) ≡ true) (λ same. ap (λ z. is_among z (union xs ys)) (sym same) ∙ among_union y xs ys e) (old x)
    by false e old new x h =
        among_cons y x ys h (is_among x (union (xs ++ y ∷ []) ys) ≡ true)
        (λ same. ap (λ z. is_among z (union (xs ++ y ∷ []) ys)) (sym same) ∙ among_union y (xs ++ y ∷ []) ys (among_second y xs (y ∷ []) (among_here y [])))
        (new x)

-- a list stays as it is if it has all that is added
pub adds_nothing : (xs ys : List Text) → AreAmong ys xs → union xs ys ≡ xs
adds_nothing xs [] h = refl
adds_nothing xs (y ∷ ys) h = ap (λ b. if b then union xs ys else union (xs ++ y ∷ []) ys) (h y (among_here y ys)) ∙ adds_nothing xs ys (λ x e. h x (among_second x (y ∷ []) ys e))

pub has_all : (xs ys : List Text) → union xs ys ≡ xs → AreAmong ys xs
has_all xs ys e x h = ap (is_among x) (sym e) ∙ are_in_union xs ys x h

-- What is added after some of it is what is added at once.
abbrev AddedAfter : List Text → List Text → Type 0
AddedAfter ys xs = (c d : List Text) → union xs ys ≡ xs ++ (c ++ d) → union (xs ++ c) ys ≡ xs ++ (c ++ d)

module _ (y : Text) (ys xs d : List Text) where
  known : (zs : List Text) → is_among y zs ≡ true → union zs (y ∷ ys) ≡ union zs ys
  known zs h = ap (λ b. if b then union zs ys else union (zs ++ y ∷ []) ys) h

  first_new : AddedAfter ys (xs ++ y ∷ []) → (n c : List Text) → y ∷ n ≡ c ++ d → is_among y xs ≡ false → union (xs ++ y ∷ []) ys ≡ xs ++ (c ++ d) → union (xs ++ c) (y ∷ ys) ≡ xs ++ (c ++ d)
  first_new later n [] is new h = ap (λ zs. union zs (y ∷ ys)) (append-nil xs) ∙ ap (λ b. if b then union xs ys else union (xs ++ y ∷ []) ys) new ∙ h
  first_new later n (z ∷ c) is new h =
      let same : y ≡ z = cc in
      let there : is_among y (xs ++ (z ∷ c)) ≡ true = among_second y xs (z ∷ c) (ap (λ w. is_among y (w ∷ c)) (sym same) ∙ among_here y c) in
      let front : xs ++ (z ∷ c) ≡ (xs ++ y ∷ []) ++ c = ap (λ w. xs ++ (w ∷ c)) (sym same) ∙ sym (append_assoc xs (y ∷ []) c) in
      let goal : xs ++ ((z ∷ c) ++ d) ≡ (xs ++ y ∷ []) ++ (c ++ d) = ap (λ w. xs ++ (w ∷ (c ++ d))) (sym same) ∙ sym (append_assoc xs (y ∷ []) (c ++ d)) in
      known (xs ++ (z ∷ c)) there ∙ ap (λ zs. union zs ys) front ∙ later c d (h ∙ goal) ∙ sym goal

  after_first : (c : List Text) → AddedAfter ys xs → AddedAfter ys (xs ++ y ∷ []) → (b : Bool) → is_among y xs ≡ b → (if b then union xs ys else union (xs ++ y ∷ []) ys) ≡ xs ++ (c ++ d) →
      union (xs ++ c) (y ∷ ys) ≡ xs ++ (c ++ d)
  after_first c same later true old h = known (xs ++ c) (among_first y xs c old) ∙ same c d h
  after_first c same later false new h =
      let more = union_begins (xs ++ y ∷ []) ys in
      let is : y ∷ more.0 ≡ c ++ d = append_cancel_left xs (y ∷ more.0) (c ++ d) (sym (append_assoc xs (y ∷ []) more.0) ∙ sym more.1 ∙ h) in
      first_new later more.0 c is new h

pub added_after : (ys xs : List Text) → AddedAfter ys xs
added_after [] xs = λ c d e.
    let none : c ++ d ≡ [] = no_more xs (c ++ d) e in
    ap (λ zs. xs ++ zs) (nil_left c d none ∙ sym none)
added_after (y ∷ ys) xs = λ c d e. after_first y ys xs d c (added_after ys xs) (added_after ys (xs ++ y ∷ [])) (is_among y xs) refl e
