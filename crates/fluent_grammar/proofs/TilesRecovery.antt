-- What is looked for after a refusal is the first place that an entry may begin at.
use Rattle.std.proofs.Common.{◌≡◌, ℕ, suc, ◌-◌, ◌≤◌, Bool, true, false, cond, ◌&&◌, [], ◌∷◌, ◌++◌, length, drop, get_or, refl, sym, ap, ◌∙◌, append_assoc, arith, inl, inr, eqb-true, eq-eqb}
use Rattle.std.specs.Prelude.{◌==◌, ◌⊎◌}
use Rattle.std.proofs.lemmas.List.{length-append, append_cancel_right, drop_at}
use Rattle.std.proofs.Math.Seq.{get_or-append_seam}
use Rattle.fluent_grammar.specs.Words.{Text, line_feed, begins_entry}
use Rattle.fluent_grammar.specs.Ends.{EndsIn}
use Rattle.fluent_grammar.specs.Recovery.{IsColumnZero, MayBegin, EndsJunk}
use Rattle.fluent_grammar.specs.Tiling.{resume, at_column_zero, behind_junk}
use Rattle.fluent_grammar.specs.TilingLaws.{RecoveryFindsTheEnd}
use Rattle.fluent_grammar.proofs.Cases.{and-left, and-right}
use Rattle.fluent_grammar.proofs.Within.{end-same, end-le, end-cons}
use Rattle.fluent_grammar.proofs.TilesJunk.{end-cases}

-- a test of column 0, by what stands before the place
Reflects : Bool → Text → Type 0
Reflects b front = (b ≡ true → IsColumnZero front) × (IsColumnZero front → b ≡ true)

last-byte : (front line : Text) (c d : ℕ) → front ++ (c ∷ []) ≡ line ++ (d ∷ []) → c ≡ d
last-byte front line c d e =
    let same : length front ≡ length line = omega (arith, ap length e, length-append front (c ∷ []), length-append line (d ∷ [])) in
    sym (get_or-append_seam front c [] 0) ∙ ap (λ z. get_or z (length front) 0) e ∙ ap (λ n. get_or (line ++ (d ∷ [])) n 0) same ∙ get_or-append_seam line d [] 0

snoc-reflects : (front : Text) (c : ℕ) → Reflects (c == line_feed) (front ++ (c ∷ []))
unfolding Reflects
snoc-reflects front c = (
  λ e. inr (front, ap (λ z. front ++ (z ∷ [])) (eqb-true c line_feed e)),
  elim [
    | inl e ↦ absurd (omega (arith, ap length e, length-append front (c ∷ [])))
    | inr e ↦ eq-eqb c line_feed (last-byte front e.0 c line_feed e.1)
  ],
)

both-and : (a b : Bool) → a ≡ true → b ≡ true → (a && b) ≡ false → ⊥
both-and true b e h k = absurd cc
both-and false b e h k = absurd cc

further : (b : Bool) (front : Text) (c : ℕ) (cs rest : Text) → Reflects b front → (b && begins_entry c) ≡ false → EndsJunk ((front ++ (c ∷ [])) ++ cs) cs rest → EndsJunk (front ++ (c ∷ cs)) (c ∷ cs) rest
unfolding Reflects
further b front c cs rest column e junk =
    let k = rw append_assoc at junk in
    record {
      behind = end-cons c k.behind;
      stops = k.stops;
      first = λ other h m. elim (end-cases other c cs h) [
        | inl same ↦ absurd (here other same m)
        | inr inside ↦ k.first other inside m
      ];
    }
  where
    here : (other : Text) → other ≡ c ∷ cs → MayBegin (front ++ (c ∷ cs)) other → ⊥
    here other same m =
        let before : m.front ≡ front = append_cancel_right m.front front (c ∷ cs) (ap (λ z. m.front ++ z) (sym same) ∙ sym m.whole) in
        both-and b (begins_entry c) (column.1 (rw before at m.column_zero)) (rw same at m.first_byte) e

resume-ends : (b : Bool) (front s : Text) → Reflects b front → EndsJunk (front ++ s) s (resume b s)
unfolding Reflects
resume-ends b front [] column = record { behind = end-same []; stops = inl refl; first = λ other h m. end-le h }
resume-ends b front (c ∷ cs) column = by_first (b && begins_entry c) refl (resume-ends (c == line_feed) (front ++ (c ∷ [])) cs (snoc-reflects front c))
  where
    by_first : (d : Bool) → (b && begins_entry c) ≡ d → EndsJunk ((front ++ (c ∷ [])) ++ cs) cs (resume (c == line_feed) cs) → EndsJunk (front ++ (c ∷ cs)) (c ∷ cs) (cond d (c ∷ cs) (resume (c == line_feed) cs))
    by_first true e junk = record {
      behind = end-same (c ∷ cs);
      stops = inr (record { front = front; whole = refl; column_zero = column.0 (and-left b _ e); first_byte = and-right b _ e });
      first = λ other h m. end-le h;
    }
    by_first false e junk = further b front c cs _ column e junk

snoc-view : (front : Text) → (front ≡ []) ⊎ ((init : Text) × (c : ℕ) × (front ≡ init ++ (c ∷ [])))
snoc-view [] = inl refl
snoc-view (d ∷ ds) = elim (snoc-view ds) [
  | inl e ↦ inr ([], d, ap (λ z. d ∷ z) e)
  | inr e ↦ inr (d ∷ e.0, e.1, ap (λ z. d ∷ z) e.2)
]

pub column-start : (place : Text) → at_column_zero place place ≡ true
column-start place = let none : length place - length place ≡ 0 = omega arith in rw none refl

pub column-snoc : (init : Text) (c : ℕ) (place : Text) → at_column_zero ((init ++ (c ∷ [])) ++ place) place ≡ (c == line_feed)
column-snoc init c place =
    let whole : (init ++ (c ∷ [])) ++ place ≡ init ++ (c ∷ place) = append_assoc init (c ∷ []) place in
    let p : length (init ++ (c ∷ place)) - length place ≡ suc (length init) = omega (arith, length-append init (c ∷ place)) in
    let some : (suc (length init) == 0) ≡ false = nonzero (length init) in
    let last : suc (length init) - 1 ≡ length init = omega arith in
    rw (whole, p, some, last, get_or-append_seam init c place 0) refl
  where
    nonzero : (n : ℕ) → (suc n == 0) ≡ false
    nonzero n = grind arith

reflects-start : Reflects true []
unfolding Reflects
reflects-start = ((λ e. inl refl), (λ e. refl))

start-reflects : (front place : Text) → Reflects (at_column_zero (front ++ place) place) front
start-reflects front place = elim (snoc-view front) [
  | inl e ↦ rw (e, column-start place) reflects-start
  | inr e ↦ rw (e.2, column-snoc e.0 e.1 place) (snoc-reflects e.0 e.1)
]

-- what is looked for is the end of the junk
pub junk-ended : (text place : Text) → EndsIn place text → EndsJunk text place (behind_junk text place)
junk-ended text place h = rw h.whole (resume-ends (at_column_zero (h.front ++ place) place) h.front place (start-reflects h.front place))

same-end : (a b whole : Text) → EndsIn a whole → EndsIn b whole → length a ≡ length b → a ≡ b
same-end a b whole h k e =
    let n : length h.front ≡ length k.front = omega (arith, e, ap length h.whole, ap length k.whole, length-append h.front a, length-append k.front b) in
    sym (ap (drop (length h.front)) h.whole ∙ drop_at h.front a _ refl) ∙ ap (λ z. drop z whole) n ∙ (ap (drop (length k.front)) k.whole ∙ drop_at k.front b _ refl)

no-later : (text place a b : Text) → EndsJunk text place a → EndsJunk text place b → length a ≤ length b
no-later text place a b h k = elim h.stops [ inl e ↦ rw e (omega arith) | inr m ↦ k.first a h.behind m ]

-- junk has one end
pub junk-end-once : (text place a b : Text) → EndsJunk text place a → EndsJunk text place b → a ≡ b
junk-end-once text place a b h k = same-end a b place h.behind k.behind (omega (arith, no-later text place a b h k, no-later text place b a k h))

pub recovery_finds_the_end : RecoveryFindsTheEnd
recovery_finds_the_end text place rest h = ((λ k. junk-end-once text place _ rest (junk-ended text place h) k), (λ e. rw (← e) (junk-ended text place h)))
