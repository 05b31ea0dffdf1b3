-- Where comment lines end.
use Rattle.std.proofs.Common.{◌≡◌, ℕ, suc, ◌+◌, ◌≤◌, Bool, true, false, not, List, [], ◌∷◌, map, length, drop, get_or, cond, refl, ap, ◌∙◌, arith, subst, sym}
use Rattle.std.specs.Prelude.{◌<◌, ◌==◌}
use Rattle.std.proofs.lemmas.List.{length-drop, drop_more}
use Rattle.std.proofs.Math.ListN.{drop_of_length-le}
use Rattle.fluent_grammar.specs.Words.{Text, line_feed, number_sign, begins_with}
use Rattle.fluent_tokens.specs.declared.row.Row.{Row}
use Rattle.fluent_tokens.specs.Table.{Line, line_at, later_lines, row_view}
use Rattle.fluent_tokens.specs.Lookup.{past_comments}
use Rattle.fluent_tokens.proofs.Stops.{Stop, stop_end, stop_feed, one_more}

-- where the first of some lines does that begins no comment, otherwise the end of the text
abbrev pub next_other : Text → List Line → ℕ
next_other text [] = length text
next_other text (l ∷ ls) = cond l.begins_comment (next_other text ls) l.start

goes_on : (cs : Text) → begins_with number_sign cs ≡ true → past_comments true cs ≡ past_comments false cs
goes_on [] h = refl
goes_on (c ∷ cs) h = rw h refl

stops : (cs : Text) → begins_with number_sign cs ≡ false → cs ≡ past_comments true cs
stops [] h = refl
stops (c ∷ cs) h = rw h refl

after_feed : (c : ℕ) (cs : Text) → (c == line_feed) ≡ true → past_comments false (c ∷ cs) ≡ past_comments true cs
after_feed c cs e = ap (λ (z : Bool). past_comments z cs) e

after_other : (c : ℕ) (cs : Text) → (c == line_feed) ≡ false → past_comments false (c ∷ cs) ≡ past_comments false cs
after_other c cs e = ap (λ (z : Bool). past_comments z cs) e

-- the end of the comment lines of a text that begins at this offset
abbrev Comments : ℕ → Text → ℕ → Type 0
Comments at s place = Stop at s (past_comments false s) place

past_feed : (b : Bool) (at c : ℕ) (cs : Text) (next : ℕ) → begins_with number_sign cs ≡ b → (c == line_feed) ≡ true → Comments (suc at) cs next → Comments at (c ∷ cs) (cond b next (suc at))
past_feed true at c cs next h e more = one_more at c cs _ _ _ (after_feed c cs e ∙ goes_on cs h) more
past_feed false at c cs next h e more = stop_feed at c cs _ (stops cs h ∙ sym (after_feed c cs e)) e

past_by : (b : Bool) (text : Text) (at c : ℕ) (cs : Text) → (c == line_feed) ≡ b → Comments (suc at) cs (next_other text (later_lines (suc at) cs))
    → Comments at (c ∷ cs) (next_other text (later_lines at (c ∷ cs)))
past_by true text at c cs e more =
    let n : later_lines at (c ∷ cs) ≡ line_at (suc at) cs ∷ later_lines (suc at) cs = rw e refl in
    let next = next_other text (later_lines (suc at) cs) in
    let there : next_other text (later_lines at (c ∷ cs)) ≡ cond (begins_with number_sign cs) next (suc at) = ap (next_other text) n in
    subst (Comments at (c ∷ cs)) (sym there) (past_feed (begins_with number_sign cs) at c cs next refl e more)
past_by false text at c cs e more =
    let n : later_lines at (c ∷ cs) ≡ later_lines (suc at) cs = rw e refl in
    subst (λ (ls : List Line). Comments at (c ∷ cs) (next_other text ls)) (sym n) (one_more at c cs _ _ _ (after_other c cs e) more)

past_is : (text : Text) (at : ℕ) (s : Text) → at + length s ≡ length text → Comments at s (next_other text (later_lines at s))
past_is text at [] n = stop_end at [] (length text) refl (omega (arith, n))
past_is text at (c ∷ cs) n = past_by (c == line_feed) text at c cs refl (past_is text (suc at) cs (omega (arith, n)))

-- after a place in a text
pub comments_after : (text : Text) (place n : ℕ) → place ≤ length text → n ≡ next_other text (later_lines place (drop place text)) → Stop place (drop place text) (past_comments false (drop place text)) n
comments_after text place n h e =
    subst (Comments place (drop place text)) (sym e) (past_is text place (drop place text) (omega (arith, h, length-drop place text)))

-- so far the search over rows passed over comment lines alone
abbrev pub PassedComments : Text → ℕ → List Row → Type 0
PassedComments text place rows = next_other text (map row_view rows) ≡ next_other text (later_lines place (drop place text))

pub of_not : (a b : Bool) → not a ≡ b → a ≡ not b
of_not true b h = ap not h
of_not false b h = ap not h

pub at_row : (text : Text) (place : ℕ) (rows : List Row) (i : ℕ) (d : Row) (b : Bool) → PassedComments text place (drop i rows) → i < length rows → (get_or rows i d).begins_comment ≡ b
    → cond b (next_other text (map row_view (drop (i + 1) rows))) (get_or rows i d).start ≡ next_other text (later_lines place (drop place text))
at_row text place rows i d b passed h e =
    let row = get_or rows i d in
    let more = next_other text (map row_view (drop (i + 1) rows)) in
    let here : next_other text (map row_view (drop i rows)) ≡ cond b more row.start =
    ap (λ (rs : List Row). next_other text (map row_view rs)) (drop_more rows i d h) ∙ ap (λ (z : Bool). cond z more row.start) e in
    sym here ∙ passed

pub at_end : (text : Text) (place : ℕ) (rows : List Row) (i : ℕ) → PassedComments text place (drop i rows) → length rows ≤ i → length text ≡ next_other text (later_lines place (drop place text))
at_end text place rows i passed h = sym (ap (λ (rs : List Row). next_other text (map row_view rs)) (drop_of_length-le rows h)) ∙ passed
