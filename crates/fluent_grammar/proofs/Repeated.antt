-- Attributes and the lines of a comment: as many steps as a text has bytes are enough.
use Rattle.std.proofs.Common.{◌≡◌, ℕ, zero, suc, ◌<◌, ◌≤◌, Bool, true, false, cond, ◌&&◌, List, [], ◌∷◌, ◌++◌, length, drop, refl, sym, ap, ◌∙◌, arith}
use Rattle.std.specs.Prelude.{◌==◌}
use Rattle.fluent_grammar.specs.Words.{Text, dot, line_feed, carriage_return, begins_with, skip_spaces, comment_level, rest_of_line}
use Rattle.fluent_grammar.specs.Refusal.{Reading, got, refused}
use Rattle.fluent_grammar.specs.Tree as t
use Rattle.fluent_grammar.specs.Ends.{EndsIn}
use Rattle.fluent_grammar.specs.Reading.{attributes_at, more_attributes, comment_line_at, comment_lines, more_lines}
use Rattle.fluent_grammar.specs.TilingLaws.{AttributesNeedNoMoreSteps, CommentsNeedNoMoreSteps}
use Rattle.fluent_grammar.proofs.Within.{end-same, end-le, end-drop, end-drop_one, end-spaces, rest_of_line-end, end-if_pair}
use Rattle.fluent_grammar.proofs.Taken.{Leaves, leaves, attribute-leaves}

pub begins-some : (c : ℕ) (s : Text) → begins_with c s ≡ true → length (drop 1 s) < length s
begins-some c [] e = absurd cc
begins-some c (d ∷ ds) e = omega arith

pub nothing-left : (s : Text) → length s ≤ 0 → s ≡ []
nothing-left [] h = refl
nothing-left (c ∷ cs) h = absurd (omega arith)

more_attributes-same : (left other : Text → List t.Attribute × Text) (s : Text) (x : Reading t.Attribute) (w : Text) → Leaves x w →
    ((u : Text) → EndsIn u w → left u ≡ other u) → more_attributes left s x ≡ more_attributes other s x
more_attributes-same left other s (got a rest) w h same = ap (λ (o : List t.Attribute × Text). (a ∷ o.0, o.1)) (same rest h.parts)
more_attributes-same left other s (refused fault) w h same = refl

attributes-none : (n : ℕ) → attributes_at n [] ≡ ([], [])
unfolding attributes_at
attributes-none zero = refl
attributes-none (suc n) = refl

if-same : {A : Type 0} (b : Bool) (x x' y : A) → (b ≡ true → x ≡ x') → cond b x y ≡ cond b x' y
if-same true x x' y h = h refl
if-same false x x' y h = refl

pub attributes_need_no_more_steps : AttributesNeedNoMoreSteps
unfolding attributes_at
attributes_need_no_more_steps zero n s p q = rw (nothing-left s p) (sym (attributes-none n))
attributes_need_no_more_steps (suc m) zero s p q = rw (nothing-left s q) (attributes-none (suc m))
attributes_need_no_more_steps (suc m) (suc n) s p q = if-same (begins_with dot (skip_spaces s)) _ _ _ (λ e.
    more_attributes-same _ _ s _ (drop 1 (skip_spaces s)) (attribute-leaves s (end-same _)) (λ u h.
    attributes_need_no_more_steps m n u
    (omega (arith, end-le h, begins-some dot (skip_spaces s) e, end-le (end-spaces (end-same s))))
    (omega (arith, end-le h, begins-some dot (skip_spaces s) e, end-le (end-spaces (end-same s))))))

more_lines-same : (left other : Text → List Text × Text) (s : Text) (x : Reading (List Text)) (w : Text) → Leaves x w →
    ((u : Text) → EndsIn u w → left u ≡ other u) → more_lines left s x ≡ more_lines other s x
more_lines-same left other s (got line rest) w h same = ap (λ (o : List Text × Text). (line ++ o.0, o.1)) (same rest h.parts)
more_lines-same left other s (refused fault) w h same = refl

cond-same : {A : Type 0} (b : Bool) (x : A) → cond b x x ≡ x
cond-same true x = refl
cond-same false x = refl

comment_lines-none : (n level : ℕ) → comment_lines n level [] ≡ ([], [])
unfolding comment_lines comment_line_at
comment_lines-none zero level = refl
comment_lines-none (suc n) zero = rw (comment_lines-none n zero)
comment_lines-none (suc n) (suc level) = rw (comment_lines-none n (suc level)) (cond-same _ _)

pub rest_of_line-tail : (s : Text) {w : Text} → EndsIn (drop 1 s) w → EndsIn (rest_of_line s).1 w
rest_of_line-tail [] h = h
rest_of_line-tail (c ∷ cs) h =
    end-if_pair (c == line_feed) ([], cs) _ h
    (end-if_pair (c == carriage_return && begins_with line_feed cs) ([], drop 1 cs) (c ∷ (rest_of_line cs).0, (rest_of_line cs).1) (end-drop 1 h) (rest_of_line-end cs h))

comment_line-leaves : (s : Text) {w : Text} → EndsIn (drop 1 s) w → Leaves (comment_line_at s) w
unfolding comment_line_at
comment_line-leaves s h = search (leaves, rest_of_line-tail, rest_of_line-end) depth 9

pub comments_need_no_more_steps : CommentsNeedNoMoreSteps
unfolding comment_lines
comments_need_no_more_steps zero n level s p q = rw (nothing-left s p) (sym (comment_lines-none n level))
comments_need_no_more_steps (suc m) zero level s p q = rw (nothing-left s q) (comment_lines-none (suc m) level)
comments_need_no_more_steps (suc m) (suc n) level [] p q = comment_lines-none (suc m) level ∙ sym (comment_lines-none (suc n) level)
comments_need_no_more_steps (suc m) (suc n) level (c ∷ cs) p q = if-same (comment_level (c ∷ cs) == level) _ _ _ (λ e.
    more_lines-same _ _ (c ∷ cs) _ cs (comment_line-leaves (drop level (c ∷ cs)) (end-drop_one (end-drop level (end-same (c ∷ cs))))) (λ u h.
    comments_need_no_more_steps m n level u (omega (arith, end-le h, p)) (omega (arith, end-le h, q))))
