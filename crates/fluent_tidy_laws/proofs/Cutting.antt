-- The cut text has no errors, and the list of the source.
use Rattle.std.proofs.Common.{◌≡◌, ℕ, ◌<◌, Bool, true, List, [], ◌∷◌, ◌++◌, length, refl, sym, ap, ◌∙◌, arith, inl, inr, false}
use Rattle.std.specs.Prelude.{◌≢◌}
use Rattle.fluent_grammar.specs.Words.{Text, line_feed, hyphen, begins, begins_entry, is_letter, begins_with, number_sign}
use Rattle.fluent_grammar.specs.Tree as t
use Rattle.fluent_grammar.specs.Recovery.{EndsJunk}
use Rattle.fluent_grammar.specs.Blanks.{no_lines, BlankBlock}
use Rattle.fluent_grammar.specs.Spelling.{SpellsEntry, a_message, a_term, a_comment, a_group_comment, a_resource_comment}
use Rattle.fluent_grammar.specs.Tiling.{listed}
use Rattle.fluent_grammar.specs.Tiles.{full, Part, Tiles, blank_first, TilesItems, source_ends, an_entry, some_junk, a_line}
use Rattle.fluent_grammar.proofs.Comments.{comment_complete}
use Rattle.fluent_grammar.proofs.Entries.{entry_complete, head-letter}
use Rattle.fluent_grammar.proofs.LawsOfDepth.{entry-took}
use Rattle.fluent_tidy_laws.specs.Cut.{kept}
use Rattle.fluent_tidy_laws.proofs.Alike.{Alike}
use Rattle.fluent_tidy_laws.proofs.MovingWords.{over_end}
use Rattle.fluent_tidy_laws.proofs.MovingEntries.{Stops, stops_empty, stops_here, stops-over, entry-some, IsListed, entry-moves, entry-over}
use Rattle.fluent_tidy_laws.proofs.MovingComments.{comment-clean, sign-begins, entry-front}
use Rattle.fluent_tidy_laws.proofs.Clean.{list_of, Clean, CleanItems, clean-at, clean-items, clean-behind, clean-entry, block-empty, alike-is}
use Rattle.std.proofs.lemmas.Bool.Decides.{nat_tests}

-- ---- an entry begins with a byte that begins one

pub letter-begins : (s : Text) → begins is_letter s ≡ true → begins begins_entry s ≡ true
letter-begins [] h = absurd cc
letter-begins (c ∷ cs) h = rw h refl

hyphen-begins : {s u : Text} → s ≡ hyphen ∷ u → begins begins_entry s ≡ true
hyphen-begins e = rw e refl

pub entry-begins : {e : t.Entry} {s rest : Text} → SpellsEntry e s rest → begins begins_entry s ≡ true
entry-begins (a_message {s = s} d m h) = letter-begins s (head-letter d)
entry-begins (a_term e d m h) = hyphen-begins e
entry-begins (a_comment {s = s} d) = sign-begins s (comment_complete d 0 refl).0
entry-begins (a_group_comment {s = s} d) = sign-begins s (comment_complete d 1 refl).0
entry-begins (a_resource_comment {s = s} d) = sign-begins s (comment_complete d 2 refl).0

-- a front that isn't empty begins what it stands before
same-beginning : (p : ℕ → Bool) (f a b : Text) → f ≢ [] → begins p (f ++ a) ≡ begins p (f ++ b)
same-beginning p [] a b h = absurd (h refl)
same-beginning p (c ∷ cs) a b h = refl

-- ---- an entry before a clean text

items-clean : {s : Text} {es : List t.Entry} → Stops s → CleanItems s es → Clean s es
items-clean stops c = clean-behind no_lines stops c

-- an entry before its rest, which is cut to a text: the rest is that text where it is empty
pub listed-clean : {e : t.Entry} {s rest : Text} {es : List t.Entry} → SpellsEntry e s rest → IsListed e → rest ≢ [] → (x : Text) → Stops x → Clean x es →
    (s' : Text) × Alike line_feed rest x s s' × Clean s' (listed (e ∷ []) ++ es)
listed-clean d k some x stops c =
    let m = entry-moves d k x some stops in
    let w = entry-front m.2 in
    (m.0, m.1, items-clean (stops_here (entry-begins m.2)) (clean-entry w.front m.2 w.whole c))

-- a text that ends in another before what it was cut to
abbrev Joins : Text → Text → Text → List t.Entry → Type 0
Joins s rest y es = (s' : Text) × Alike line_feed rest y s s' × Clean s' es

joins-at : {s rest y z : Text} {es : List t.Entry} → y ≡ z → Joins s rest z es → Joins s rest y es
joins-at h d = rw h d

listed-joins : {e : t.Entry} {s rest blanks r : Text} {es : List t.Entry} → SpellsEntry e s rest → IsListed e → rest ≢ [] → BlankBlock blanks rest r → (x : Text) → Stops x → Clean x es →
    Joins s rest (blanks ++ x) (listed (e ∷ []) ++ es)
listed-joins {blanks = blanks} d k some b x stops c =
    joins-at (ap (λ z. z ++ x) (block-empty (entry-over d k) b).0) (listed-clean d k some x stops c)

-- The text of an entry, and of what follows it when cut. After a message or a term no blank block stands.
entry-joins : {e : t.Entry} {s rest blanks r : Text} {es : List t.Entry} → SpellsEntry e s rest → rest ≢ [] → BlankBlock blanks rest r → (x : Text) → Stops x → Clean x es → Clean (blanks ++ x) es →
    Joins s rest (blanks ++ x) (listed (e ∷ []) ++ es)
entry-joins (a_message d m h) some b x stops c k = listed-joins (a_message d m h) tt some b x stops c
entry-joins (a_term e d m h) some b x stops c k = listed-joins (a_term e d m h) tt some b x stops c
entry-joins (a_comment d) some b x stops c k = comment-clean 0 d _ (omega arith) some k
entry-joins (a_group_comment d) some b x stops c k = comment-clean 1 d _ (omega arith) some k
entry-joins (a_resource_comment d) some b x stops c k = comment-clean 2 d _ (omega arith) some k

-- ---- the parts that are kept

-- what is kept of nothing
items-none : {parts : List Part} {s : Text} → TilesItems full parts s → s ≡ [] → kept parts ≡ []
items-none source_ends e = refl
items-none (an_entry {text = text} p spelled w d) e = absurd (entry-some text (entry-begins spelled) e)
items-none (some_junk p some read at ends w d) e = absurd (some e)
items-none (a_line p l d) e = absurd cc

record Cut (parts : List Part) : Type 0 where
  clean : Clean (kept parts) (list_of parts)
  stops : Stops (kept parts)

entry-longer : {e : t.Entry} {s rest : Text} → SpellsEntry e s rest → length rest < length s
entry-longer {s = s} d = rw (entry_complete d) at (entry-took s)

front-some : (front s rest : Text) → s ≡ front ++ rest → length rest < length s → front ≢ []
front-some front s rest w h e =
    let k : s ≡ rest = w ∙ ap (λ f. f ++ rest) e in
    omega (arith, ap length k, h)

front-begins : {e : t.Entry} {s rest : Text} (front : Text) → SpellsEntry e s rest → s ≡ front ++ rest → (y : Text) → begins begins_entry (front ++ y) ≡ true
front-begins {s = s} {rest = rest} front d w y =
    same-beginning begins_entry front y rest (front-some front s rest w (entry-longer d)) ∙ ap (begins begins_entry) (sym w) ∙ entry-begins d

kept-entry : {e : t.Entry} {text blanks r : Text} {es : List t.Entry} (rest front : Text) → SpellsEntry e text rest → text ≡ front ++ rest → BlankBlock blanks rest r → (x : Text) → (r ≡ [] → x ≡ []) →
    Stops x → Clean x es → Clean (blanks ++ x) es → Clean (front ++ (blanks ++ x)) (listed (e ∷ []) ++ es)
kept-entry {blanks = blanks} [] front d w b x none stops c k =
    let empty = block-empty over_end b in
    let y : blanks ++ x ≡ [] = ap (λ z. z ++ x) empty.0 ∙ none empty.1 in
    clean-at (ap (λ z. front ++ z) y ∙ sym w) (items-clean (stops_here (entry-begins d)) (clean-entry front d w (clean-at (sym y) k)))
kept-entry {blanks = blanks} (c ∷ cs) front d w b x none stops k l =
    let j = entry-joins d (λ e. absurd cc) b x stops k l in
    clean-at (sym (alike-is front j.1 w)) j.2

junk-stops : {text at rest : Text} → EndsJunk text at rest → Stops rest
junk-stops ends = elim ends.stops [
  | inl e ↦ rw e stops_empty
  | inr m ↦ stops_here m.first_byte
]

stops-at : {s u : Text} → s ≡ u → Stops u → Stops s
stops-at e h = rw e h

mutual
  pub tiles-cut : {parts : List Part} {s : Text} → Tiles full parts s → Clean (kept parts) (list_of parts)
  tiles-cut (blank_first b d) = let i = items-cut d in clean-behind b.lines i.stops (clean-items i.clean i.stops)

  items-cut : {parts : List Part} {s : Text} → TilesItems full parts s → Cut parts
  items-cut source_ends = record { clean = items-clean stops_empty (record { parts = []; tiles = source_ends; no_junk = refl; lists = refl }); stops = stops_empty }
  items-cut (an_entry {front = front} {rest = rest} {e = e} p spelled w (blank_first {blanks = blanks} b d)) =
      let i = items-cut d in
      record {
        clean = kept-entry rest front spelled w b _ (λ r. items-none d r) i.stops i.clean (clean-behind b.lines i.stops (clean-items i.clean i.stops));
        stops = stops_here (front-begins front spelled w _);
      }
  items-cut (some_junk {rest = rest} p some read at ends w (blank_first {parts = ps} b d)) =
      let i = items-cut d in
      record {
        clean = clean-behind b.lines i.stops (clean-items i.clean i.stops);
        stops = stops-at (ap (λ z. z ++ kept ps) (block-empty (stops-over (junk-stops ends)) b).0) i.stops;
      }
  items-cut (a_line p l d) = absurd cc

pub letter-sign : (s : Text) → begins is_letter s ≡ true → begins_with number_sign s ≡ false
letter-sign [] e = refl
letter-sign (c ∷ cs) e = grind (arith, nat_tests)

pub append-none : (a b : Text) → a ++ b ≡ [] → b ≡ []
append-none [] b e = e
append-none (c ∷ cs) b e = absurd cc

pub items-unlisted : {parts : List Part} {s : Text} → TilesItems full parts s → s ≡ [] → list_of parts ≡ []
items-unlisted source_ends e = refl
items-unlisted (an_entry {text = text} p spelled w d) e = absurd (entry-some text (entry-begins spelled) e)
items-unlisted (some_junk p some read at ends w d) e = absurd (some e)
items-unlisted (a_line p l d) e = absurd cc

pub tiles-unlisted : {parts : List Part} {s : Text} → Tiles full parts s → s ≡ [] → list_of parts ≡ []
tiles-unlisted (blank_first {blanks = blanks} {rest = rest} b d) e = items-unlisted d (append-none blanks rest (sym b.split ∙ e))
