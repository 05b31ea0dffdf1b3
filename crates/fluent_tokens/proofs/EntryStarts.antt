-- Where the next entry may begin.
use Rattle.std.proofs.Common.{◌≡◌, ℕ, suc, ◌+◌, ◌<◌, ◌≤◌, Bool, true, false, List, [], ◌∷◌, map, length, drop, get_or, cond, refl, ap, ◌∙◌, arith, subst, sym}
use Rattle.std.specs.Prelude.{◌==◌}
use Rattle.std.proofs.lemmas.List.{length-drop, drop_more}
use Rattle.std.proofs.Math.ListN.{drop_of_length-le}
use Rattle.fluent_grammar.specs.Words.{Text, line_feed, begins, begins_entry}
use Rattle.fluent_grammar.specs.Tiling.{resume}
use Rattle.fluent_tokens.specs.declared.row.Row.{Row}
use Rattle.fluent_tokens.specs.Table.{Line, line_at, later_lines, row_view}
use Rattle.fluent_tokens.proofs.Stops.{Stop, stop_end, stop_feed, one_more}

-- where the first of some lines that begins an entry does, otherwise the end of the text
abbrev pub next_entry : ℕ → List Line → ℕ
next_entry end [] = end
next_entry end (l ∷ ls) = cond l.begins_entry l.start (next_entry end ls)

goes_on : (cs : Text) → begins begins_entry cs ≡ false → resume true cs ≡ resume false cs
goes_on [] h = refl
goes_on (c ∷ cs) h = rw h refl

stops : (cs : Text) → begins begins_entry cs ≡ true → cs ≡ resume true cs
stops [] h = absurd cc
stops (c ∷ cs) h = rw h refl

behind_feed : (c : ℕ) (cs : Text) → (c == line_feed) ≡ true → resume false (c ∷ cs) ≡ resume true cs
behind_feed c cs e = ap (λ (z : Bool). resume z cs) e

behind_other : (c : ℕ) (cs : Text) → (c == line_feed) ≡ false → resume false (c ∷ cs) ≡ resume false cs
behind_other c cs e = ap (λ (z : Bool). resume z cs) e

-- the next line that begins an entry, in a text that begins at this offset
abbrev Entry : ℕ → Text → ℕ → Type 0
Entry at s place = Stop at s (resume false s) place

entry_feed : (b : Bool) (at c : ℕ) (cs : Text) → begins begins_entry cs ≡ b → (c == line_feed) ≡ true → Entry (suc at) cs (next_entry (suc at + length cs) (later_lines (suc at) cs))
    → Entry at (c ∷ cs) (cond b (suc at) (next_entry (suc at + length cs) (later_lines (suc at) cs)))
entry_feed true at c cs h e more = stop_feed at c cs _ (stops cs h ∙ sym (behind_feed c cs e)) e
entry_feed false at c cs h e more = one_more at c cs _ _ _ (behind_feed c cs e ∙ goes_on cs h) more

entry_by : (b : Bool) (at c : ℕ) (cs : Text) → (c == line_feed) ≡ b → Entry (suc at) cs (next_entry (suc at + length cs) (later_lines (suc at) cs))
    → Entry at (c ∷ cs) (next_entry (suc at + length cs) (later_lines at (c ∷ cs)))
entry_by true at c cs e more =
    let n : later_lines at (c ∷ cs) ≡ line_at (suc at) cs ∷ later_lines (suc at) cs = rw e refl in
    subst (λ (ls : List Line). Entry at (c ∷ cs) (next_entry (suc at + length cs) ls)) (sym n) (entry_feed (begins begins_entry cs) at c cs refl e more)
entry_by false at c cs e more =
    let n : later_lines at (c ∷ cs) ≡ later_lines (suc at) cs = rw e refl in
    subst (λ (ls : List Line). Entry at (c ∷ cs) (next_entry (suc at + length cs) ls)) (sym n) (one_more at c cs _ _ _ (behind_other c cs e) more)

entry_is : (at : ℕ) (s : Text) → Entry at s (next_entry (at + length s) (later_lines at s))
entry_is at [] = stop_end at [] (at + 0) refl (omega arith)
entry_is at (c ∷ cs) =
    let n : suc at + length cs ≡ at + suc (length cs) = omega arith in
    subst (λ (m : ℕ). Entry at (c ∷ cs) (next_entry m (later_lines at (c ∷ cs)))) n (entry_by (c == line_feed) at c cs refl (entry_is (suc at) cs))

-- after a place in a text
pub entry_after : (text : Text) (place n : ℕ) → place ≤ length text → n ≡ next_entry (length text) (later_lines place (drop place text)) → Stop place (drop place text) (resume false (drop place text)) n
entry_after text place n h e =
    let all : place + length (drop place text) ≡ length text = omega (arith, h, length-drop place text) in
    subst (Entry place (drop place text)) (ap (λ (m : ℕ). next_entry m (later_lines place (drop place text))) all ∙ sym e) (entry_is place (drop place text))

-- the search over rows
abbrev pub entry_of_rows : ℕ → List Row → ℕ
entry_of_rows end rows = next_entry end (map row_view rows)

-- so far the search passed over no line that begins an entry
abbrev pub PassedNone : Text → ℕ → List Row → Type 0
PassedNone text place rows = entry_of_rows (length text) rows ≡ next_entry (length text) (later_lines place (drop place text))

pub at_row : (text : Text) (place : ℕ) (rows : List Row) (i : ℕ) (d : Row) → PassedNone text place (drop i rows) → i < length rows → (get_or rows i d).begins_entry ≡ true
    → (get_or rows i d).start ≡ next_entry (length text) (later_lines place (drop place text))
at_row text place rows i d passed h b =
    let row = get_or rows i d in
    let here : entry_of_rows (length text) (drop i rows) ≡ row.start =
    ap (entry_of_rows (length text)) (drop_more rows i d h) ∙ ap (λ (z : Bool). cond z row.start (entry_of_rows (length text) (drop (i + 1) rows))) b in
    sym here ∙ passed

pub at_end : (text : Text) (place : ℕ) (rows : List Row) (i : ℕ) → PassedNone text place (drop i rows) → length rows ≤ i → length text ≡ next_entry (length text) (later_lines place (drop place text))
at_end text place rows i passed h = sym (ap (entry_of_rows (length text)) (drop_of_length-le rows h)) ∙ passed
