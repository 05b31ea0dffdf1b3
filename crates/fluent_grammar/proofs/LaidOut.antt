-- Signs laid out after a text, one list of them after another.
use Rattle.std.proofs.Common.{◌≡◌, ℕ, zero, suc, ◌+◌, ◌-◌, ◌*◌, Bool, true, false, cond, List, [], ◌∷◌, ◌++◌, replicate, refl, sym, ap, ◌∙◌, append_assoc, append-nil, ◌<◌, length, get_or, arith}
use Rattle.std.proofs.lemmas.List.{replicate-append-replicate}
use Rattle.std.specs.Prelude.{not, ◌&&◌, ◌==◌}
use Rattle.fluent_grammar.specs.Words.{Text, line_feed, space, asterisk}
use Rattle.fluent_grammar.specs.Written.{Sign, sign, default_mark, ends_line, indent, indent_before, laid_out, onto}

pub ends_line-append : (before : Bool) (s more : Text) → ends_line before (s ++ more) ≡ ends_line (ends_line before s) more
ends_line-append before [] more = refl
ends_line-append before (c ∷ cs) more = ends_line-append (c == line_feed) cs more

-- spaces end no line
ends_line-spaces : (n : ℕ) → ends_line false (replicate n space) ≡ false
ends_line-spaces zero = refl
ends_line-spaces (suc n) = ends_line-spaces n

-- an indent changes nothing of what ends a line after it
ends_line-behind_spaces : (before : Bool) (n c : ℕ) (cs : Text) → ends_line before (replicate n space ++ c ∷ cs) ≡ ends_line false (c ∷ cs)
ends_line-behind_spaces before zero c cs = refl
ends_line-behind_spaces before (suc n) c cs = ends_line-behind_spaces false n c cs

ends_line-cond : (before b : Bool) (n c : ℕ) (cs : Text) → ends_line before (cond b (replicate n space) [] ++ c ∷ cs) ≡ ends_line before (c ∷ cs)
ends_line-cond before true n c cs = ends_line-behind_spaces before n c cs
ends_line-cond before false n c cs = refl

ends_line-piece : (before at : Bool) (level : ℕ) (s more : Text) → ends_line before (indent_before at level s ++ (s ++ more)) ≡ ends_line (ends_line before s) more
ends_line-piece before at level [] more = elim at as (λ b. ends_line before (cond (b && false) (indent level) [] ++ more) ≡ ends_line before more) [ true ↦ refl | false ↦ refl ]
ends_line-piece before at level (c ∷ cs) more =
    ends_line-cond before (at && not (c == line_feed)) (4 * level) c (cs ++ more) ∙ ends_line-append (c == line_feed) cs more

ends_line-mark : (before : Bool) (n : ℕ) (more : Text) → ends_line before (replicate n space ++ (asterisk ∷ more)) ≡ ends_line false more
ends_line-mark before n more = ends_line-behind_spaces before n asterisk more

-- signs after signs
pub laid_out-append : (before : Bool) (first then : List Sign) → laid_out before (first ++ then) ≡ laid_out before first ++ laid_out (ends_line before (laid_out before first)) then
laid_out-append before [] then = refl
laid_out-append before (sign level s ∷ more) then =
    ap (λ x. indent_before before level s ++ (s ++ x)) (laid_out-append (ends_line before s) more then)
    ∙ ap (λ b. indent_before before level s ++ (s ++ (laid_out (ends_line before s) more ++ laid_out b then))) (sym (ends_line-piece before before level s (laid_out (ends_line before s) more)))
    ∙ ap (λ x. indent_before before level s ++ x) (sym (append_assoc s (laid_out (ends_line before s) more) _))
    ∙ sym (append_assoc (indent_before before level s) (s ++ laid_out (ends_line before s) more) _)
laid_out-append before (default_mark level ∷ more) then =
    ap (λ x. replicate (4 * level - 1) space ++ (asterisk ∷ x)) (laid_out-append false more then)
    ∙ ap (λ b. replicate (4 * level - 1) space ++ (asterisk ∷ (laid_out false more ++ laid_out b then))) (sym (ends_line-mark before (4 * level - 1) (laid_out false more)))
    ∙ sym (append_assoc (replicate (4 * level - 1) space) (asterisk ∷ laid_out false more) _)

-- a text with one list of signs after another
pub onto-append : (before : Text) (first then : List Sign) → onto before (first ++ then) ≡ onto (onto before first) then
unfolding onto
onto-append before first then =
    ap (λ x. before ++ x) (laid_out-append (ends_line false before) first then)
    ∙ sym (append_assoc before (laid_out (ends_line false before) first) _)
    ∙ ap (λ b. (before ++ laid_out (ends_line false before) first) ++ laid_out b then) (sym (ends_line-append false before (laid_out (ends_line false before) first)))

pub onto-nil : (before : Text) → onto before [] ≡ before
unfolding onto
onto-nil before = append-nil before

-- what is laid out after nothing
pub onto-empty : (signs : List Sign) → onto [] signs ≡ laid_out false signs
unfolding onto
onto-empty signs = refl

-- whether a text ends in a line feed is told by its last byte
ends_line-at : (before : Bool) (s : Text) (i last d : ℕ) → suc i ≡ length s → last ≡ get_or s i d → ends_line before s ≡ (last == line_feed)
ends_line-at before [] i last d long is = absurd (omega arith)
ends_line-at before (c ∷ []) zero last d long is = ap (λ x. x == line_feed) (sym is)
ends_line-at before (c ∷ []) (suc i) last d long is = absurd (omega arith)
ends_line-at before (c ∷ c' ∷ cs) zero last d long is = absurd (omega arith)
ends_line-at before (c ∷ c' ∷ cs) (suc i) last d long is = ends_line-at (c == line_feed) (c' ∷ cs) i last d (omega (arith, long)) is

pub ends_line-last : (before : Bool) (s : Text) (last d : ℕ) → 0 < length s → last ≡ get_or s (length s - 1) d → ends_line before s ≡ (last == line_feed)
ends_line-last before s last d some is = ends_line-at before s (length s - 1) last d (omega arith) is

-- one piece
pub onto-sign : (before : Text) (level : ℕ) (s : Text) → onto before (sign level s ∷ []) ≡ (before ++ indent_before (ends_line false before) level s) ++ s
unfolding onto
onto-sign before level s = ap (λ x. before ++ (indent_before (ends_line false before) level s ++ x)) (append-nil s) ∙ sym (append_assoc before _ s)

-- the mark of a default variant
pub onto-mark : (before : Text) (level : ℕ) → onto before (default_mark (level + 1) ∷ []) ≡ (before ++ indent level) ++ (space ∷ space ∷ space ∷ asterisk ∷ [])
unfolding onto
onto-mark before level =
    let three : 4 * (level + 1) - 1 ≡ 4 * level + 3 = omega arith in
    ap (λ n. before ++ (replicate n space ++ (asterisk ∷ []))) three
    ∙ ap (λ x. before ++ (x ++ (asterisk ∷ []))) (sym (replicate-append-replicate (4 * level) 3 space))
    ∙ ap (λ x. before ++ x) (append_assoc (indent level) (space ∷ space ∷ space ∷ []) (asterisk ∷ []))
    ∙ sym (append_assoc before (indent level) (space ∷ space ∷ space ∷ asterisk ∷ []))

-- two steps of writing, one after the other
pub onto-then : (before : Text) (first then : List Sign) {between after : Text} → between ≡ onto before first → after ≡ onto between then → after ≡ onto before (first ++ then)
onto-then before first then {between} {after} one two = two ∙ ap (λ t. onto t then) one ∙ sym (onto-append before first then)
