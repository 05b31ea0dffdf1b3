-- Pieces gathered one after the other give the pattern of the grammar.
use Rattle.std.proofs.Common.{◌≡◌, ℕ, zero, suc, ◌+◌, ◌-◌, Bool, true, false, cond, ◌&&◌, ◌||◌, List, [], ◌∷◌, ◌++◌, length, drop, map, replicate, min, refl, sym, ap, ◌∙◌, arith, Option, Some, None}
use Rattle.std.specs.Prelude.{◌==◌}
use Rattle.std.specs.List.{list_all}
use Rattle.std.proofs.lemmas.List.{drop-append-le, drop-replicate, length-replicate, length-map}
use Rattle.std.proofs.lemmas.Bool.{false≢true}
use Rattle.std.proofs.lemmas.List.Folds.{list_all-append}
use Rattle.fluent_grammar.specs.Words.{Text, space, spaces}
use Rattle.fluent_grammar.specs.Lines as l
use Rattle.fluent_grammar.specs.Lines.{Piece, dedented, kept_spaces, is_blank_text, ends_line, lesser}
use Rattle.fluent_grammar.specs.Tree as t
use Rattle.fluent_ast.specs.View as v
use Rattle.fluent_ast.specs.View.{Element}
use Rattle.fluent_parsed.specs.Elements.{cut_len, line_behind, dedented_by, dedented_from, is_blank, kept_of, trimmed, last_trimmed, value_by, dedented_value}
use Rattle.fluent_parsed.specs.Pieces.{undented, dedented_piece, line_after, Fits, IsLined, line_behind_all}
use Rattle.fluent_parsed.proofs.Dedenting.{cut_le}

-- ---- one more piece

lesser_assoc : (a b c : Option ℕ) → lesser (lesser a b) c ≡ lesser a (lesser b c)
lesser_assoc None b c = refl
lesser_assoc (Some a) None c = refl
lesser_assoc (Some a) (Some b) None = refl
lesser_assoc (Some a) (Some b) (Some c) = ap Some (omega arith)

lesser_none : (a : Option ℕ) → lesser a None ≡ a
lesser_none None = refl
lesser_none (Some a) = refl

pub common_more : (ps : List Piece) (p : Piece) → l.common_indent (ps ++ p ∷ []) ≡ lesser (l.common_indent ps) (l.indent_of p)
common_more [] p = lesser_none (l.indent_of p)
common_more (q ∷ ps) p = ap (lesser (l.indent_of q)) (common_more ps p) ∙ sym (lesser_assoc (l.indent_of q) (l.common_indent ps) (l.indent_of p))

pub lined_more : (line : Bool) (ps : List Piece) (p : Piece) → IsLined line ps → Fits (line_behind_all line ps) p → IsLined line (ps ++ p ∷ [])
lined_more line [] p h f = (f, tt)
lined_more line (q ∷ ps) p h f = (h.0, lined_more (line_after q) ps p h.1 f)

pub behind_more : (line : Bool) (ps : List Piece) (p : Piece) → line_behind_all line (ps ++ p ∷ []) ≡ line_after p
behind_more line [] p = refl
behind_more line (q ∷ ps) p = behind_more (line_after q) ps p

-- ---- leading spaces

blank_spaces : (n : ℕ) → list_all (λ c. c == space || c == 10) (replicate n space) ≡ true
blank_spaces zero = refl
blank_spaces (suc n) = blank_spaces n

blank_indented : (n : ℕ) (s : Text) → is_blank_text (replicate n space ++ s) ≡ is_blank_text s
blank_indented n s =
    list_all-append (λ c. c == space || c == 10) (replicate n space) s
    ∙ ap (λ (b : Bool). b && is_blank_text s) (blank_spaces n)

spaces_indented : (n : ℕ) (s : Text) → spaces s ≡ 0 → spaces (replicate n space ++ s) ≡ n
spaces_indented zero s h = h
spaces_indented (suc n) s h = ap (λ (k : ℕ). 1 + k) (spaces_indented n s h) ∙ omega arith

ends_behind : (s : Text) → ends_line (space ∷ s) ≡ ends_line s
ends_behind [] = refl
ends_behind (c ∷ cs) = refl

ends_indented : (n : ℕ) (s : Text) → ends_line (replicate n space ++ s) ≡ ends_line s
ends_indented zero s = refl
ends_indented (suc n) s = ends_behind (replicate n space ++ s) ∙ ends_indented n s

kept_is : (common : Option ℕ) (n : ℕ) → replicate (n - cut_len common n) space ≡ kept_spaces common n
kept_is None n = let e : n - n ≡ 0 = omega arith in rw e refl
kept_is (Some common) n = let e : n - min n common ≡ n - common = omega arith in rw e refl

dedent_is : (common : Option ℕ) (n : ℕ) (s : Text) → spaces s ≡ 0 → drop (cut_len common (spaces (replicate n space ++ s))) (replicate n space ++ s) ≡ dedented common n s
dedent_is common n s h =
    ap (λ (k : ℕ). drop (cut_len common k) (replicate n space ++ s)) (spaces_indented n s h)
    ∙ drop-append-le (cut_len common n) (replicate n space) s (omega (arith, cut_le common n, length-replicate n space))
    ∙ ap (λ (z : Text). z ++ s) (drop-replicate (cut_len common n) n space ∙ kept_is common n)

cut_none : (common : Option ℕ) → cut_len common 0 ≡ 0
cut_none None = refl
cut_none (Some common) = omega arith

whole_line : (common : Option ℕ) (s : Text) → spaces s ≡ 0 → drop (cut_len common (spaces s)) s ≡ s
whole_line common s h = ap (λ (k : ℕ). drop k s) (ap (cut_len common) h ∙ cut_none common)

-- ---- one piece

blank_is : (p : Piece) → is_blank (undented p) ≡ l.is_blank p
blank_is (l.at_line_start n s) = blank_indented n s
blank_is (l.in_line s) = refl
blank_is (l.placed z e) = refl

behind_is : (p : Piece) → line_behind (undented p) ≡ line_after p
behind_is (l.at_line_start n s) = ends_indented n s
behind_is (l.in_line s) = refl
behind_is (l.placed z e) = refl

element_is : (line : Bool) (common : Option ℕ) (p : Piece) → Fits line p → dedented_by line common (undented p) ≡ dedented_piece common p
element_is true common (l.at_line_start n s) f = ap v.text (dedent_is common n s f.1)
element_is false common (l.at_line_start n s) f = absurd (false≢true f.0)
element_is true common (l.in_line s) f = ap v.text (whole_line common s f)
element_is false common (l.in_line s) f = refl
element_is line common (l.placed z e) f = refl

-- ---- all pieces

cond_front : (b : Bool) (p : Piece) (ps : List Piece) → cond b [] (undented p ∷ map undented ps) ≡ map undented (cond b [] (p ∷ ps))
cond_front true p ps = refl
cond_front false p ps = refl

kept_is_front : (ps : List Piece) → kept_of (map undented ps) ≡ map undented (l.without_blank_end ps)
kept_is_front [] = refl
kept_is_front (p ∷ ps) =
    ap (λ (z : List Element). cond (is_blank (undented p) && length z == 0) [] (undented p ∷ z)) (kept_is_front ps)
    ∙ ap (λ (b : Bool). cond (b && length (map undented (l.without_blank_end ps)) == 0) [] (undented p ∷ map undented (l.without_blank_end ps))) (blank_is p)
    ∙ ap (λ (k : ℕ). cond (l.is_blank p && k == 0) [] (undented p ∷ map undented (l.without_blank_end ps))) (length-map (l.without_blank_end ps) undented)
    ∙ cond_front (l.is_blank p && length (l.without_blank_end ps) == 0) p (l.without_blank_end ps)

lined_cond : (b line : Bool) (ps : List Piece) → IsLined line ps → IsLined line (cond b [] ps)
lined_cond true line ps h = tt
lined_cond false line ps h = h

lined_front : (line : Bool) (ps : List Piece) → IsLined line ps → IsLined line (l.without_blank_end ps)
lined_front line [] h = tt
lined_front line (p ∷ ps) h = lined_cond (l.is_blank p && length (l.without_blank_end ps) == 0) line (p ∷ l.without_blank_end ps) (h.0, lined_front (line_after p) ps h.1)

-- the elements of one piece, and of one before others
one_element : (common : Option ℕ) (p : Piece) → v.elements_of (trimmed (dedented_piece common p) ∷ []) ≡ l.elements_from common (p ∷ [])
one_element common (l.at_line_start n s) = refl
one_element common (l.in_line s) = refl
one_element common (l.placed z e) = refl

more_elements : (common : Option ℕ) (p q : Piece) (ps : List Piece) (es : List Element) → v.elements_of es ≡ l.elements_from common (q ∷ ps) →
    v.elements_of (dedented_piece common p ∷ es) ≡ l.elements_from common (p ∷ q ∷ ps)
more_elements common (l.at_line_start n s) q ps es h = ap (t.text (dedented common n s)) h
more_elements common (l.in_line s) q ps es h = ap (t.text s) h
more_elements common (l.placed z e) q ps es h = ap (t.placeable e) h

elements_are : (line : Bool) (common : Option ℕ) (ps : List Piece) → IsLined line ps →
    v.elements_of (last_trimmed (dedented_from line common (map undented ps))) ≡ l.elements_from common ps
elements_are line common [] h = refl
elements_are line common (p ∷ []) h = ap (λ (e : Element). v.elements_of (trimmed e ∷ [])) (element_is line common p h.0) ∙ one_element common p
elements_are line common (p ∷ q ∷ ps) h =
    ap (λ (e : Element). v.elements_of (e ∷ last_trimmed (dedented_from (line_behind (undented p)) common (map undented (q ∷ ps))))) (element_is line common p h.0)
    ∙ more_elements common p q ps (last_trimmed (dedented_from (line_behind (undented p)) common (map undented (q ∷ ps))))
    (ap (λ (b : Bool). v.elements_of (last_trimmed (dedented_from b common (map undented (q ∷ ps))))) (behind_is p) ∙ elements_are (line_after p) common (q ∷ ps) h.1)

pub gathered_value : (line : Bool) (ps : List Piece) → IsLined line ps → value_by line (l.common_indent ps) (map undented ps) ≡ l.value_of (l.elements_of ps)
gathered_value line ps h =
    let common = l.common_indent ps in
    ap (λ (es : List Element). l.value_of (v.elements_of (last_trimmed (dedented_from line common es)))) (kept_is_front ps)
    ∙ ap l.value_of (elements_are line common (l.without_blank_end ps) (lined_front line ps h))

-- ---- pieces put as elements without the common indent

blank_kept : (common : Option ℕ) (n : ℕ) (s : Text) → is_blank_text (dedented common n s) ≡ is_blank_text s
blank_kept None n s = refl
blank_kept (Some common) n s = blank_indented (n - common) s

blank_dedented : (common : Option ℕ) (p : Piece) → is_blank (dedented_piece common p) ≡ l.is_blank p
blank_dedented common (l.at_line_start n s) = blank_kept common n s
blank_dedented common (l.in_line s) = refl
blank_dedented common (l.placed z e) = refl

cond_dedented : (common : Option ℕ) (b : Bool) (p : Piece) (ps : List Piece) →
    cond b [] (dedented_piece common p ∷ map (dedented_piece common) ps) ≡ map (dedented_piece common) (cond b [] (p ∷ ps))
cond_dedented common true p ps = refl
cond_dedented common false p ps = refl

kept_dedented : (common : Option ℕ) (ps : List Piece) → kept_of (map (dedented_piece common) ps) ≡ map (dedented_piece common) (l.without_blank_end ps)
kept_dedented common [] = refl
kept_dedented common (p ∷ ps) =
    let put = dedented_piece common in
    let front = l.without_blank_end ps in
    ap (λ (z : List Element). cond (is_blank (put p) && length z == 0) [] (put p ∷ z)) (kept_dedented common ps)
    ∙ ap (λ (b : Bool). cond (b && length (map put front) == 0) [] (put p ∷ map put front)) (blank_dedented common p)
    ∙ ap (λ (k : ℕ). cond (l.is_blank p && k == 0) [] (put p ∷ map put front)) (length-map front put)
    ∙ cond_dedented common (l.is_blank p && length front == 0) p front

dedented_are : (common : Option ℕ) (ps : List Piece) → v.elements_of (last_trimmed (map (dedented_piece common) ps)) ≡ l.elements_from common ps
dedented_are common [] = refl
dedented_are common (p ∷ []) = one_element common p
dedented_are common (p ∷ q ∷ ps) = more_elements common p q ps (last_trimmed (map (dedented_piece common) (q ∷ ps))) (dedented_are common (q ∷ ps))

pub dedented_pieces : (ps : List Piece) → dedented_value (map (dedented_piece (l.common_indent ps)) ps) ≡ l.value_of (l.elements_of ps)
dedented_pieces ps =
    let common = l.common_indent ps in
    ap (λ (es : List Element). l.value_of (v.elements_of (last_trimmed es))) (kept_dedented common ps)
    ∙ ap l.value_of (dedented_are common (l.without_blank_end ps))
