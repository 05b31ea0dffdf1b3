-- Where junk ends: after its first byte.
use Rattle.std.proofs.Common.{◌≡◌, ℕ, ◌<◌, Bool, true, false, ◌&&◌, ◌||◌, [], ◌∷◌, ◌++◌, length, drop, refl, sym, inl, inr, arith}
use Rattle.std.specs.Prelude.{◌==◌, ◌⊎◌}
use Rattle.fluent_grammar.specs.Words.{Text, line_feed, hyphen, number_sign, begins, begins_with, begins_entry, is_letter}
use Rattle.fluent_grammar.specs.Refusal.{Refusal, got, refused}
use Rattle.fluent_grammar.specs.Tree as t
use Rattle.fluent_grammar.specs.Ends.{EndsIn}
use Rattle.fluent_grammar.specs.Reading as g
use Rattle.fluent_grammar.specs.Reading.{identifier_at, entry_at}
use Rattle.fluent_grammar.specs.Tiling.{resume, behind_junk}
use Rattle.fluent_grammar.proofs.Within.{Fair, fairs, fair-if, fair-got, end-same, end-le, end-tail, end-if, read_pattern-fair, head-fair, term_of-fair, message_of-fair, attributes-end, comment_line-fair, comment_lines-end, entry-fair}
use Rattle.fluent_grammar.proofs.LawsOfDepth.{entry-took}
use Rattle.fluent_grammar.proofs.Taken.{name-end, level-end}

identifier-inside : (s : Text) {w : Text} → begins is_letter s ≡ true → EndsIn (drop 1 s) w → Fair (identifier_at s) w
unfolding identifier_at
identifier-inside s letter h = fair-if (begins is_letter s) (λ e. fair-got _ (name-end s e h)) (λ (e : begins is_letter s ≡ false). absurd cc)

head-inside : (s : Text) {w : Text} → begins is_letter s ≡ true → EndsIn (drop 1 s) w → Fair (g.head_at s) w
unfolding g.head_at
head-inside s letter h = search (fairs, identifier-inside, read_pattern-fair) depth 12

message-inside : (s : Text) {w : Text} → begins is_letter s ≡ true → EndsIn (drop 1 s) w → Fair (g.message_at s) w
unfolding g.message_at
message-inside s letter h = search (fairs, head-inside, message_of-fair, attributes-end) depth 12

term-inside : (s : Text) {w : Text} → EndsIn (drop 1 s) w → Fair (g.term_entry_at s) w
unfolding g.term_entry_at
term-inside s h = search (fairs, head-fair, term_of-fair, attributes-end) depth 12

comment-inside : (s : Text) {w : Text} → begins_with number_sign s ≡ true → EndsIn (drop 1 s) w → Fair (g.comment_at s) w
unfolding g.comment_at
comment-inside s e h = search (fairs, level-end, comment_line-fair, comment_lines-end) depth 12

letter-left : (s : Text) → begins begins_entry s ≡ true → begins_with number_sign s ≡ false → begins_with hyphen s ≡ false → begins is_letter s ≡ true
letter-left [] e p q = absurd cc
letter-left (c ∷ cs) e p q = first (is_letter c) (c == hyphen) (c == number_sign) e p q
  where
    first : (a b c : Bool) → (a || (b || c)) ≡ true → c ≡ false → b ≡ false → a ≡ true
    first true b c e p q = refl
    first false b c e p q = absurd cc

-- an entry that begins as entries do stops after its first byte
entry-inside : (s : Text) {w : Text} → begins begins_entry s ≡ true → EndsIn (drop 1 s) w → Fair (entry_at s) w
unfolding entry_at
entry-inside s e h = fair-if (begins_with number_sign s) (λ p. comment-inside s p h) (λ p. fair-if (begins_with hyphen s) (λ q. term-inside s h) (λ q. message-inside s (letter-left s e p q) h))

pub resume-end : (b : Bool) (s : Text) {w : Text} → EndsIn s w → EndsIn (resume b s) w
resume-end b [] h = h
resume-end b (c ∷ cs) h = end-if (b && begins_entry c) h (resume-end (c == line_feed) cs (end-tail h))

resume-tail : (b : Bool) (c : ℕ) (cs : Text) {w : Text} → begins_entry c ≡ false → EndsIn cs w → EndsIn (resume b (c ∷ cs)) w
resume-tail true c cs e h = rw e (resume-end (c == line_feed) cs h)
resume-tail false c cs e h = resume-end (c == line_feed) cs h

pub end-cases : (a : Text) (c : ℕ) (cs : Text) → EndsIn a (c ∷ cs) → (a ≡ c ∷ cs) ⊎ EndsIn a cs
end-cases a c cs h = by_front h.front h.whole
  where
    by_front : (front : Text) → c ∷ cs ≡ front ++ a → (a ≡ c ∷ cs) ⊎ EndsIn a cs
    by_front [] e = inl (sym e)
    by_front (d ∷ ds) e = inr (record { front = ds; whole = cc })

-- junk is not empty
pub junk-end : (c : ℕ) (cs : Text) (fault : Refusal) → entry_at (c ∷ cs) ≡ refused fault → EndsIn (behind_junk (c ∷ cs) fault.at) cs
junk-end c cs fault e = by_first (begins_entry c) refl
  where
    by_first : (b : Bool) → begins_entry c ≡ b → EndsIn (behind_junk (c ∷ cs) fault.at) cs
    by_first true first = resume-end _ _ (rw e at (entry-inside (c ∷ cs) first (end-same cs))).parts.0
    by_first false first = elim (end-cases fault.at c cs (rw e at (entry-fair (end-same (c ∷ cs)))).parts.0) [
      | inl whole ↦ rw whole (resume-tail _ c cs first (end-same cs))
      | inr inside ↦ resume-end _ _ inside
    ]

-- the place of a refusal is an end of the text
pub place-end : (s : Text) (fault : Refusal) → entry_at s ≡ refused fault → EndsIn fault.at s
place-end s fault e = (rw e at (entry-fair (end-same s))).parts.0

-- what is left after an entry, and after junk, is shorter
pub entry_is_shorter : (s : Text) (e : t.Entry) (rest : Text) → entry_at s ≡ got e rest → length rest < length s
entry_is_shorter s e rest read = rw read at (entry-took s)

pub junk_is_shorter : (s : Text) (fault : Refusal) → 0 < length s → entry_at s ≡ refused fault → length (behind_junk s fault.at) < length s
junk_is_shorter [] fault some read = absurd (omega arith)
junk_is_shorter (c ∷ cs) fault some read = omega (arith, end-le (junk-end c cs fault read))
