-- Each text has exactly one tiling, and its pieces are those that `Tiling` computes.
use Rattle.std.proofs.Common.{◌≡◌, ℕ, zero, suc, ◌+◌, ◌-◌, ◌<◌, ◌≤◌, Bool, true, false, cond, List, [], ◌∷◌, ◌++◌, length, refl, sym, ap, ◌∙◌, arith}
use Rattle.std.proofs.lemmas.List.{length-append}
use Rattle.std.proofs.Math.Seq.{take-append_seam}
use Rattle.fluent_grammar.specs.Words.{Text, skip_blank_block, rest_of_line}
use Rattle.fluent_grammar.specs.Refusal.{Refusal, Reading, got, refused}
use Rattle.fluent_grammar.specs.Tree as t
use Rattle.fluent_grammar.specs.Ends.{EndsIn}
use Rattle.fluent_grammar.specs.Reading.{entry_at, front}
use Rattle.fluent_grammar.specs.Tiling.{behind_junk}
use Rattle.fluent_grammar.specs.Blanks.{BlankBlock, Line}
use Rattle.fluent_grammar.specs.Recovery.{EndsJunk}
use Rattle.fluent_grammar.specs.Tiles.{Mode, full, runtime, passes_over, Part, blank_block, entry, junk, passed_over, Tiles, blank_first, TilesItems, source_ends, an_entry, some_junk, a_line}
use Rattle.fluent_grammar.proofs.Within.{end-same, end-le, end-cons, end-blank_block}
use Rattle.fluent_grammar.proofs.Blanks.{block-at, block-skipped, line-at, line-rest}
use Rattle.fluent_grammar.proofs.LawsOfDepth.{entry-took}
use Rattle.fluent_grammar.proofs.Taken.{entry-leaves}
use Rattle.fluent_grammar.proofs.Agreement.{entries_agree}
use Rattle.fluent_grammar.proofs.TilesRecovery.{junk-ended, junk-end-once}
use Rattle.fluent_grammar.proofs.TilesJunk.{junk-end, place-end}
use Rattle.fluent_grammar.proofs.Repeated.{rest_of_line-tail}

-- the tiling, computed: in this many steps
abbrev pub item : (Text → List Part) → Text → Reading t.Entry → List Part
item left s (got e rest) = entry (front s rest) e ∷ left rest
item left s (refused fault) = junk (front s (behind_junk s fault.at)) fault.kind (length s - length fault.at) ∷ left (behind_junk s fault.at)

abbrev pub line : (Text → List Part) → Text → List Part
line left s = passed_over (front s (rest_of_line s).1) ∷ left (rest_of_line s).1

abbrev pub items : Mode → (Text → List Part) → Text → List Part
items mode left [] = []
items mode left (c ∷ cs) = cond (passes_over mode (c ∷ cs)) (line left (c ∷ cs)) (item left (c ∷ cs) (entry_at (c ∷ cs)))

unfoldable pub parts : Mode → ℕ → Text → List Part
parts mode zero s = []
parts mode (suc n) s = blank_block (front s (skip_blank_block s)) ∷ items mode (parts mode n) (skip_blank_block s)

-- what stands before an end
pub front-append : (f a : Text) → front (f ++ a) a ≡ f
front-append f a =
    let k : length (f ++ a) - length a ≡ length f = omega (arith, length-append f a) in
    rw k (take-append_seam f a)

pub front-whole : {a b : Text} → EndsIn a b → b ≡ front b a ++ a
front-whole {a} {b} h = h.whole ∙ ap (λ f. f ++ a) (sym (front-append h.front a)) ∙ ap (λ z. front z a ++ a) (sym h.whole)

pub front-is : (s a f : Text) → s ≡ f ++ a → front s a ≡ f
front-is s a f e = ap (λ z. front z a) e ∙ front-append f a

pub front-blank : (s : Text) → BlankBlock (front s (skip_blank_block s)) s (skip_blank_block s)
front-blank s = let found = block-at s in rw (front-is s (skip_blank_block s) found.0 found.1.split) found.1

pub front-line : (s : Text) → Line (front s (rest_of_line s).1) s (rest_of_line s).1
front-line s = let found = line-at s in rw (front-is s (rest_of_line s).1 found.0 found.1.split) found.1

if-any : {A : Type 0} (P : A → Type 0) (b : Bool) {x y : A} → (b ≡ true → P x) → (b ≡ false → P y) → P (cond b x y)
if-any P true p q = p refl
if-any P false p q = q refl

item-tiled : (mode : Mode) (left : Text → List Part) (c : ℕ) (cs : Text) → ((u : Text) → EndsIn u cs → Tiles mode (left u) u) →
    (x : Reading t.Entry) → entry_at (c ∷ cs) ≡ x → passes_over mode (c ∷ cs) ≡ false → TilesItems mode (item left (c ∷ cs) x) (c ∷ cs)
item-tiled mode left c cs tiled (got e rest) read p =
    let h : EndsIn rest cs = (rw read at (entry-leaves (c ∷ cs) (end-same cs))).parts in
    an_entry p ((entries_agree (c ∷ cs) e rest).0 read) (front-whole (end-cons c h)) (tiled rest h)
item-tiled mode left c cs tiled (refused fault) read p =
    let h = junk-end c cs fault read in
    some_junk p (λ e. absurd cc) read (omega (arith, end-le (place-end (c ∷ cs) fault read))) (junk-ended (c ∷ cs) fault.at (place-end (c ∷ cs) fault read)) (front-whole (end-cons c h)) (tiled _ h)

items-tiled : (mode : Mode) (left : Text → List Part) (s : Text) → ((u : Text) → length u < length s → Tiles mode (left u) u) → TilesItems mode (items mode left s) s
items-tiled mode left [] tiled = source_ends
items-tiled mode left (c ∷ cs) tiled = if-any (λ ps. TilesItems mode ps (c ∷ cs)) (passes_over mode (c ∷ cs))
    (λ p. let h : EndsIn (rest_of_line (c ∷ cs)).1 cs = rest_of_line-tail (c ∷ cs) (end-same cs) in a_line p (front-line (c ∷ cs)) (tiled _ (omega (arith, end-le h))))
    (λ p. item-tiled mode left c cs (λ u h. tiled u (omega (arith, end-le h))) (entry_at (c ∷ cs)) refl p)

pub parts-tiled : (mode : Mode) (n : ℕ) (s : Text) → length s < n → Tiles mode (parts mode n s) s
unfolding parts
parts-tiled mode zero s h = absurd (omega arith)
parts-tiled mode (suc n) s h =
    let e : EndsIn (skip_blank_block s) s = end-blank_block (end-same s) in
    blank_first (front-blank s) (items-tiled mode (parts mode n) (skip_blank_block s) (λ u k. parts-tiled mode n u (omega (arith, end-le e, k, h))))

-- the rest after junk is the one that is computed
pub junk-rest : (s : Text) (fault : Refusal) (rest : Text) → entry_at s ≡ refused fault → EndsJunk s fault.at rest → behind_junk s fault.at ≡ rest
junk-rest s fault rest read ends = junk-end-once s fault.at _ rest (junk-ended s fault.at (place-end s fault read)) ends

-- a tiling is the one that is computed
longer : (s a f : Text) → s ≡ f ++ a → length a ≤ length s
longer s a f e = rw e (omega (arith, length-append f a))

blank-unique : (mode : Mode) (n : ℕ) (s blanks rest : Text) (ps : List Part) → length s < n → s ≡ blanks ++ rest → skip_blank_block s ≡ rest →
    ((k : ℕ) → length rest ≤ k → ps ≡ items mode (parts mode k) rest) → blank_block blanks ∷ ps ≡ parts mode n s
unfolding parts
blank-unique mode zero s blanks rest ps h e b unique = absurd (omega arith)
blank-unique mode (suc n) s blanks rest ps h e b unique =
    rw (b, front-is s rest blanks e, ← unique n (omega (arith, longer s rest blanks e, h))) refl

entry-unique : (mode : Mode) (n : ℕ) (s f rest : Text) (x : t.Entry) (ps : List Part) → length s ≤ n → passes_over mode s ≡ false → entry_at s ≡ got x rest → s ≡ f ++ rest →
    ((k : ℕ) → length rest < k → ps ≡ parts mode k rest) → entry f x ∷ ps ≡ items mode (parts mode n) s
entry-unique mode n [] f rest x ps h p read e unique = absurd (omega (arith, rw read at (entry-took [])))
entry-unique mode n (c ∷ cs) f rest x ps h p read e unique =
    let k : length rest < n = omega (arith, h, rw read at (entry-took (c ∷ cs))) in
    rw (p, read, front-is (c ∷ cs) rest f e, ← unique n k) refl

junk-unique : (mode : Mode) (n : ℕ) (s f rest : Text) (fault : Refusal) (place : ℕ) (ps : List Part) → length s ≤ n → passes_over mode s ≡ false → (s ≡ [] → ⊥) →
    entry_at s ≡ refused fault → behind_junk s fault.at ≡ rest → s ≡ f ++ rest → place + length fault.at ≡ length s →
    ((k : ℕ) → length rest < k → ps ≡ parts mode k rest) → junk f fault.kind place ∷ ps ≡ items mode (parts mode n) s
junk-unique mode n [] f rest fault place ps h p some read b e at unique = absurd (some refl)
junk-unique mode n (c ∷ cs) f rest fault place ps h p some read b e at unique =
    let k : length rest < n = omega (arith, h, rw b at (end-le (junk-end c cs fault read))) in
    let q : length (c ∷ cs) - length fault.at ≡ place = omega (arith, at) in
    rw (p, read, b, q, front-is (c ∷ cs) rest f e, ← unique n k) refl

line-unique : (mode : Mode) (n : ℕ) (s f rest : Text) (ps : List Part) → length s ≤ n → passes_over mode s ≡ true → (rest_of_line s).1 ≡ rest → s ≡ f ++ rest →
    ((k : ℕ) → length rest < k → ps ≡ parts mode k rest) → passed_over f ∷ ps ≡ items mode (parts mode n) s
line-unique full n [] f rest ps h p l e unique = absurd cc
line-unique runtime n [] f rest ps h p l e unique = absurd cc
line-unique mode n (c ∷ cs) f rest ps h p l e unique =
    let k : length rest < n = omega (arith, h, rw l at (end-le (rest_of_line-tail (c ∷ cs) (end-same cs)))) in
    rw (p, l, front-is (c ∷ cs) rest f e, ← unique n k) refl

mutual
  pub tiles-unique : (mode : Mode) {ps : List Part} {s : Text} → Tiles mode ps s → (n : ℕ) → length s < n → ps ≡ parts mode n s
  tiles-unique mode (blank_first {text} {blanks} {rest} {parts} b d) n h = blank-unique mode n text blanks rest parts h b.split (block-skipped blanks text rest b) (λ k l. items-unique mode d k l)

  items-unique : (mode : Mode) {ps : List Part} {s : Text} → TilesItems mode ps s → (n : ℕ) → length s ≤ n → ps ≡ items mode (parts mode n) s
  items-unique mode source_ends n h = refl
  items-unique mode (an_entry {text} {front} {rest} {e} {parts} p spelled w d) n h = entry-unique mode n text front rest e parts h p ((entries_agree text e rest).1 spelled) w (λ k l. tiles-unique mode d k l)
  items-unique mode (some_junk {text} {front} {rest} {fault} {place} {parts} p some read at ends w d) n h = junk-unique mode n text front rest fault place parts h p some read (junk-rest text fault rest read ends) w at (λ k l. tiles-unique mode d k l)
  items-unique mode (a_line {text} {front} {rest} {parts} p l d) n h = line-unique mode n text front rest parts h p (line-rest front text rest l) l.split (λ k m. tiles-unique mode d k m)
