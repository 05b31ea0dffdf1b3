-- Damage stays: what stands before an error-free text hides its first entry, at most.
use Rattle.std.proofs.Common.{◌≡◌, ℕ, zero, suc, ◌≤◌, Bool, true, false, cond, ◌&&◌, List, [], ◌∷◌, ◌++◌, length, drop, take, replicate, refl, sym, ap, ◌∙◌, arith, append_assoc, append-nil, inl, inr}
use Rattle.std.specs.Prelude.{◌==◌, ◌≢◌, ◌⊎◌}
use Rattle.std.specs.List.{prefix_len}
use Rattle.std.proofs.lemmas.List.{length-append}
use Rattle.fluent_grammar.specs.Words.{Text, line_feed, carriage_return, space, equals, number_sign, hyphen, is_letter, is_name_byte, begins, begins_with, begins_entry, name_len, skip_spaces}
use Rattle.fluent_grammar.specs.Refusal.{Kind, Refusal, Reading, got, refused, refuse}
use Rattle.fluent_grammar.specs.Tree as t
use Rattle.fluent_grammar.specs.Ends.{EndsIn}
use Rattle.fluent_grammar.specs.Recovery.{IsColumnZero}
use Rattle.fluent_grammar.specs.Reading.{entry_at}
use Rattle.fluent_grammar.specs.Blanks.{BlankLines, no_lines, ends_lf, ends_crlf, BlankBlock}
use Rattle.fluent_grammar.specs.Lexical.{SpellsName}
use Rattle.fluent_grammar.specs.Spelling.{SpellsComment, SpellsHead, a_head, SpellsEntry, a_message, a_term, a_comment, a_group_comment, a_resource_comment}
use Rattle.fluent_grammar.specs.Tiling.{listed, list, errors, resume, at_column_zero, behind_junk}
use Rattle.fluent_grammar.specs.Tiles.{full, Part, blank_block, entry, junk, Tiles, blank_first, TilesItems, source_ends, an_entry, some_junk, a_line}
use Rattle.fluent_grammar.proofs.Cases.{cases}
use Rattle.fluent_grammar.proofs.Got.{begins_is, got_node}
use Rattle.fluent_grammar.specs.Reading.{comment_of}
use Rattle.fluent_tidy_laws.specs.CutLaws.{DamageStaysIn, DamageStays}
use Rattle.fluent_tidy_laws.proofs.CommentsGoOn.{CommentGoes, comment_same, comment_more, comment-goes, comment-refused}
use Rattle.fluent_grammar.proofs.Runs.{drop_run}
use Rattle.fluent_grammar.proofs.Comments.{comment_complete}
use Rattle.fluent_grammar.proofs.Entries.{entry_sound, entry_complete}
use Rattle.fluent_grammar.proofs.Within.{end-cons}
use Rattle.fluent_grammar.proofs.TilesJunk.{junk-end, place-end}
use Rattle.fluent_grammar.proofs.Tiles.{junk-rest}
use Rattle.fluent_grammar.proofs.TilesRecovery.{junk-ended, column-snoc, column-start}
use Rattle.fluent_grammar.proofs.TilesPieces.{each_text_has_a_tiling, tiling_gives_tree_and_errors}
use Rattle.fluent_tidy_laws.proofs.Alike.{alike-no_end}
use Rattle.fluent_tidy_laws.proofs.MovingWords.{over-no_end, alike-skip_spaces}
use Rattle.fluent_tidy_laws.proofs.MovingEntries.{Stops, stops_empty, stops_here, stops-over, entry-some, IsListed, entry-over}
use Rattle.fluent_tidy_laws.proofs.MovingComments.{entry-front, behind-lines, comment-entry, not_listed}
use Rattle.fluent_tidy_laws.proofs.Clean.{list_of, has_junk, block-empty, Clean, clean-at, list-tiled, errors-some, lines-append}
use Rattle.fluent_tidy_laws.proofs.Cutting.{letter-sign, items-unlisted, tiles-unlisted}
use Rattle.fluent_tidy_laws.proofs.LineFeeds.{EndsInFeed, lf_last, lf_later, lf-some}
use Rattle.fluent_tidy_laws.proofs.GoingOn.{Head, no_head, sign_head, name_head, term_head, head-stops, Next, Place, in_front, at_equals, at_term_equals, behind_hyphen, RefusedIn, refused_in, before, lf-alike, Equal, equal, Goes, same_got, same_refused, crossed_got, crossed_refused}
use Rattle.fluent_tidy_laws.proofs.EntriesGoOn.{entry-goes}
use Rattle.fluent_tidy_laws.proofs.InnerStarts.{through_here, through_byte, column-through, On_line, EntryFree, free_end, free_byte, free_feed, EntryFreeStart, start_rest, start_quiet, start_refused, free-through, entry-free, name-line, name-through}
use Rattle.fluent_tidy_laws.proofs.ReadersGoOn.{name-got}
use Rattle.fluent_grammar.proofs.Words.{name_sound}
use Rattle.fluent_tidy_laws.proofs.TextParts.{append-some}

-- ---- tilings that list these

pub record Lists (s : Text) (es : List t.Entry) : Type 0 where
  pub parts : List Part
  pub tiles : Tiles full parts s
  pub lists : list_of parts ≡ es

pub record ListsItems (s : Text) (es : List t.Entry) : Type 0 where
  pub parts : List Part
  pub tiles : TilesItems full parts s
  pub lists : list_of parts ≡ es

pub lists-at : {s u : Text} {es : List t.Entry} → s ≡ u → Lists u es → Lists s es
lists-at e l = rw e l

lists-clean : {s : Text} {es : List t.Entry} → Clean s es → Lists s es
lists-clean c = record { parts = c.parts; tiles = c.tiles; lists = c.lists }

lists-behind : {s blanks rest : Text} {es : List t.Entry} → BlankBlock blanks s rest → ListsItems rest es → Lists s es
lists-behind {blanks = blanks} b l = record { parts = blank_block blanks ∷ l.parts; tiles = blank_first b l.tiles; lists = l.lists }

lists-here : {s : Text} {es : List t.Entry} → Stops s → ListsItems s es → Lists s es
lists-here stops l = lists-behind {blanks = []} (record { split = refl; lines = no_lines; longest = over-no_end (stops-over stops) }) l

lists-entry : {e : t.Entry} {s rest : Text} {es : List t.Entry} → SpellsEntry e s rest → Lists rest es → ListsItems s (listed (e ∷ []) ++ es)
lists-entry {e} d l = let w = entry-front d in record { parts = entry w.front e ∷ l.parts; tiles = an_entry refl d w.whole l.tiles; lists = ap (λ z. listed (e ∷ []) ++ z) l.lists }

lists-junk : (s : Text) {fault : Refusal} {es : List t.Entry} → s ≢ [] → entry_at s ≡ refused fault → Lists (behind_junk s fault.at) es → ListsItems s es
lists-junk [] some e l = absurd (some refl)
lists-junk (c ∷ cs) {fault} some e l =
    let w = end-cons c (junk-end c cs fault e) in
    let at = place-end (c ∷ cs) fault e in
    record {
      parts = junk w.front fault.kind (length at.front) ∷ l.parts;
      tiles = some_junk refl some e (sym (length-append at.front fault.at) ∙ sym (ap length at.whole)) (junk-ended (c ∷ cs) fault.at at) w.whole l.tiles;
      lists = l.lists;
    }

-- ---- from within an entry

resume-quiet : (s : Text) → begins begins_entry s ≡ false → resume true s ≡ resume false s
resume-quiet [] e = refl
resume-quiet (c ∷ cs) e = rw e refl

resume-here : (s : Text) → begins begins_entry s ≡ true → resume true s ≡ s
resume-here [] e = absurd cc
resume-here (c ∷ cs) e = rw e refl

resume-stops : (s : Text) → Stops s → resume true s ≡ s
resume-stops s stops_empty = refl
resume-stops s (stops_here h) = resume-here s h

resume-byte : (c : ℕ) (s : Text) → (c == line_feed) ≡ false → resume false (c ∷ s) ≡ resume false s
resume-byte c s e = rw e refl

on_line-column : {u s : Text} (front : Text) → On_line u s → at_column_zero (front ++ s) u ≡ false
on_line-column {u} front l = ap (λ z. at_column_zero (front ++ z) u) l.whole ∙ column-through front l.first l.no_feed l.through

mutual
  free-lists : {rest s : Text} {es : List t.Entry} → EntryFree rest s → Stops rest → Clean rest es → Lists (resume false s) es
  free-lists (free_end e) stops c = lists-clean (clean-at (sym e) c)
  free-lists (free_byte {s} b e k) stops c = lists-at (resume-byte b s e) (free-lists k stops c)
  free-lists (free_feed r) stops c = start-lists r stops c

  start-lists : {rest s : Text} {es : List t.Entry} → EntryFreeStart rest s → Stops rest → Clean rest es → Lists (resume true s) es
  start-lists {rest} start_rest stops c = lists-at (resume-stops rest stops) (lists-clean c)
  start-lists (start_quiet {s} e k) stops c = lists-at (resume-quiet s e) (free-lists k stops c)
  start-lists (start_refused {s} {fault} e l f k) stops c = cases (begins begins_entry s)
      (λ b. lists-at (resume-here s b) (lists-here (stops_here b) (lists-junk s (entry-some s b) e (lists-at (ap (λ z. resume z fault.at) (on_line-column [] l)) (free-lists f stops c)))))
      (λ b. lists-at (resume-quiet s b) (free-lists k stops c))

-- ---- what comes

-- an error-free text: blank lines, and items that list these
record Coming (q : Text) : Type 0 where
  next : Text
  ahead : Next q next
  es : List t.Entry
  parts : List Part
  tiles : TilesItems full parts next
  no_junk : has_junk parts ≡ false
  lists : list_of parts ≡ es
  all : list q ≡ es
  clean : Clean q (list q)

drop-name : {name s u : Text} → SpellsName name s u → drop (name_len s) s ≡ u
drop-name {s = s} d = ap (λ z. drop (cond z (prefix_len is_name_byte s) 0) s) d.letter_first ∙ drop_run d.run

head-head : {id : Text} {value : t.Elements} {s rest : Text} → SpellsHead id value s rest → (v : Text) × (begins is_letter s ≡ true) × (skip_spaces (drop (name_len s) s) ≡ equals ∷ v)
head-head (a_head {v = v} n e d) = (v, n.letter_first, ap skip_spaces (drop-name n) ∙ e)

head-at : {s u : Text} → s ≡ u → Head u → Head s
head-at e h = rw e h

sign-head : (s : Text) → begins_with number_sign s ≡ true → Head s
sign-head s b = head-at (begins_is number_sign s b) sign_head

entry-head : {e : t.Entry} {s rest : Text} → SpellsEntry e s rest → Head s
entry-head (a_message d m h) = let x = head-head d in name_head x.1 x.2
entry-head (a_term b d m h) = let x = head-head d in head-at b (term_head x.1 x.2)
entry-head (a_comment {s = s} d) = sign-head s (comment_complete d 0 refl).0
entry-head (a_group_comment {s = s} d) = sign-head s (comment_complete d 1 refl).0
entry-head (a_resource_comment {s = s} d) = sign-head s (comment_complete d 2 refl).0

items-head : {parts : List Part} {s : Text} → TilesItems full parts s → has_junk parts ≡ false → Head s
items-head source_ends h = no_head
items-head (an_entry p d w k) h = entry-head d
items-head (some_junk p some read at ends w d) h = absurd cc
items-head (a_line p l d) h = absurd cc

coming : (q : Text) → errors q ≡ [] → Coming q
coming q e =
    let k = each_text_has_a_tiling full q in
    by_tiles k.0 k.1 (errors-some k.0 full 0 false ((tiling_gives_tree_and_errors full q k.0 k.1).1 ∙ e)) (list-tiled q k.0 k.1)
  where
    by_tiles : (parts : List Part) → Tiles full parts q → has_junk parts ≡ false → list q ≡ list_of parts → Coming q
    by_tiles _ (blank_first {blanks = blanks} {rest = rest} {parts = ps} b d) h l = record {
      clean = record { parts = blank_block blanks ∷ ps; tiles = blank_first b d; no_junk = h; lists = sym l };
      next = rest;
      ahead = record { blanks = blanks; lines = b.lines; whole = b.split; head = items-head d h };
      es = list_of ps;
      parts = ps;
      tiles = d;
      no_junk = h;
      lists = refl;
      all = l;
    }

-- ---- places in what comes

line-to : {u v s : Text} → u ≡ v → On_line u s → On_line v s
line-to e l = rw (← e) l

line-name : (s v : Text) → begins is_letter s ≡ true → skip_spaces (drop (name_len s) s) ≡ equals ∷ v → On_line (equals ∷ v) s
line-name s v b e = line-to e (name-line (name_sound s (take (name_len s) s) (drop (name_len s) s) (name-got s b)))

line-term : (x s v : Text) → x ≡ hyphen ∷ s → begins is_letter s ≡ true → skip_spaces (drop (name_len s) s) ≡ equals ∷ v → On_line (equals ∷ v) x
line-term x s v h b e = line-to e (record { first = hyphen; more = s; whole = h; no_feed = refl; through = name-through (name_sound s (take (name_len s) s) (drop (name_len s) s) (name-got s b)) })

letter-some : (s : Text) → begins is_letter s ≡ true → s ≢ []
letter-some [] e k = absurd cc
letter-some (c ∷ cs) e k = absurd cc

-- a place is before the head, or on the line of one that is no comment's
data Where (next at : Text) : Type 0 where
  at_front : at ≡ next → Where next at
  within : On_line at next → next ≢ [] → begins_with number_sign next ≡ false → Where next at

cons-some : (s : Text) (c : ℕ) (x : Text) → s ≡ c ∷ x → s ≢ []
cons-some s c x e k = absurd (let m : c ∷ x ≡ [] = sym e ∙ k in cc)

place-where : {next at : Text} → Place next at → Where next at
place-where in_front = at_front refl
place-where {next} (at_equals {v} b e) = within (line-name next v b e) (letter-some next b) (letter-sign next b)
place-where {next} (at_term_equals {s} {v} h b e) = within (line-term next s v h b e) (cons-some next hyphen s h) (ap (begins_with number_sign) h)
place-where {next} (behind_hyphen {s} {v} h b e) = within (record { first = hyphen; more = s; whole = h; no_feed = refl; through = through_here }) (cons-some next hyphen s h) (ap (begins_with number_sign) h)

free-from : {rest s u : Text} → s ≡ u → EntryFree rest s → EntryFree rest u
free-from e c = rw (← e) c

free-line : {rest u s : Text} → On_line u s → EntryFree rest s → EntryFree rest u
free-line l c = free-through (through_byte l.first l.no_feed l.through) (free-from l.whole c)

-- the first entry of what comes
record First (s : Text) (es : List t.Entry) : Type 0 where
  rest : Text
  free : EntryFree rest s
  stops : Stops rest
  others : List t.Entry
  clean : Clean rest others
  dropped : drop 1 es ≡ others

stops-to : {s u : Text} → u ≡ s → Stops u → Stops s
stops-to e h = rw (← e) h

rest-stops : {e : t.Entry} {s rest : Text} {parts : List Part} → SpellsEntry e s rest → IsListed e → Tiles full parts rest → has_junk parts ≡ false → Stops rest
rest-stops d l (blank_first b k) h = stops-to (block-empty (entry-over d l) b).1 (head-stops (items-head k h))

first-listed : {e : t.Entry} {s rest : Text} {parts : List Part} → SpellsEntry e s rest → IsListed e → drop 1 (listed (e ∷ []) ++ list_of parts) ≡ list_of parts → Tiles full parts rest → has_junk parts ≡ false →
    First s (listed (e ∷ []) ++ list_of parts)
first-listed {rest = rest} {parts} d l k tiles h = record {
  rest = rest;
  free = entry-free d l;
  stops = rest-stops d l tiles h;
  others = list_of parts;
  clean = record { parts = parts; tiles = tiles; no_junk = h; lists = refl };
  dropped = k;
}

first-of : {parts : List Part} {s : Text} → TilesItems full parts s → has_junk parts ≡ false → s ≢ [] → begins_with number_sign s ≡ false → First s (list_of parts)
first-of source_ends h some b = absurd (some refl)
first-of (some_junk p k read at ends w d) h some b = absurd cc
first-of (a_line p l d) h some b = absurd cc
first-of (an_entry p (a_message d m o) w k) h some b = first-listed (a_message d m o) tt refl k h
first-of (an_entry p (a_term e d m o) w k) h some b = first-listed (a_term e d m o) tt refl k h
first-of (an_entry p (a_comment d) w k) h some b = absurd (let x = (comment_complete d 0 refl).0 in cc)
first-of (an_entry p (a_group_comment d) w k) h some b = absurd (let x = (comment_complete d 1 refl).0 in cc)
first-of (an_entry p (a_resource_comment d) w k) h some b = absurd (let x = (comment_complete d 2 refl).0 in cc)

-- ---- columns and ends of junk

ends_feed : Bool → Text → Bool
ends_feed b [] = b
ends_feed b (c ∷ cs) = ends_feed (c == line_feed) cs

column-behind : (pre : Text) (c : ℕ) (f x : Text) → at_column_zero ((pre ++ (c ∷ [])) ++ (f ++ x)) x ≡ ends_feed (c == line_feed) f
unfolding ends_feed
column-behind pre c [] x = column-snoc pre c x
column-behind pre c (d ∷ ds) x = ap (λ z. at_column_zero z x) (sym (append_assoc (pre ++ (c ∷ [])) (d ∷ []) (ds ++ x))) ∙ column-behind (pre ++ (c ∷ [])) d ds x

column-is : (f x : Text) → at_column_zero (f ++ x) x ≡ ends_feed true f
unfolding ends_feed
column-is [] x = column-start x
column-is (c ∷ cs) x = column-behind [] c cs x

junk-behind : (f x s : Text) → s ≡ f ++ x → behind_junk s x ≡ resume (ends_feed true f) x
junk-behind f x s e = ap (λ z. resume (at_column_zero z x) x) e ∙ ap (λ z. resume z x) (column-is f x)

lf-ends : {s : Text} (b : Bool) → EndsInFeed s → ends_feed b s ≡ true
unfolding ends_feed
lf-ends b lf_last = refl
lf-ends b (lf_later c f) = lf-ends (c == line_feed) f

ends-append : (b : Bool) (s u : Text) → ends_feed b (s ++ u) ≡ ends_feed (ends_feed b s) u
unfolding ends_feed
ends-append b [] u = refl
ends-append b (c ∷ cs) u = ends-append (c == line_feed) cs u

spaces-feed : (b : Bool) (n : ℕ) (m : Text) → ends_feed b (replicate n space ++ (line_feed ∷ m)) ≡ ends_feed true m
unfolding ends_feed
spaces-feed b zero m = refl
spaces-feed b (suc n) m = spaces-feed false n m

spaces-crlf : (b : Bool) (n : ℕ) (m : Text) → ends_feed b (replicate n space ++ (carriage_return ∷ line_feed ∷ m)) ≡ ends_feed true m
unfolding ends_feed
spaces-crlf b zero m = refl
spaces-crlf b (suc n) m = spaces-crlf false n m

lines-end : {b : Text} → BlankLines b → ends_feed true b ≡ true
unfolding ends_feed
lines-end no_lines = refl
lines-end (ends_lf {more = m} n d) = spaces-feed true n m ∙ lines-end d
lines-end (ends_crlf {more = m} n d) = spaces-crlf true n m ∙ lines-end d

resume-feed : (b : Bool) (n : ℕ) (x : Text) → resume b (replicate n space ++ (line_feed ∷ x)) ≡ resume true x
resume-feed true zero x = refl
resume-feed false zero x = refl
resume-feed true (suc n) x = resume-feed false n x
resume-feed false (suc n) x = resume-feed false n x

resume-crlf : (b : Bool) (n : ℕ) (x : Text) → resume b (replicate n space ++ (carriage_return ∷ line_feed ∷ x)) ≡ resume true x
resume-crlf true zero x = refl
resume-crlf false zero x = refl
resume-crlf true (suc n) x = resume-crlf false n x
resume-crlf false (suc n) x = resume-crlf false n x

resume-lines : {b : Text} (x : Text) → BlankLines b → resume true (b ++ x) ≡ resume true x
resume-lines x no_lines = refl
resume-lines x (ends_lf {more = m} n d) = ap (resume true) (append_assoc (replicate n space) (line_feed ∷ m) x) ∙ resume-feed true n (m ++ x) ∙ resume-lines x d
resume-lines x (ends_crlf {more = m} n d) = ap (resume true) (append_assoc (replicate n space) (carriage_return ∷ line_feed ∷ m) x) ∙ resume-crlf true n (m ++ x) ∙ resume-lines x d

resume-next : {q next : Text} → Next q next → resume true q ≡ next
resume-next {q} {next} n = ap (resume true) n.whole ∙ resume-lines next n.lines ∙ resume-stops next (head-stops n.head)

abbrev Resumed : Text → Text → Text → Text → Type 0
Resumed q next r r' = (EndsInFeed r × (r' ≡ r ++ q)) ⊎ ((r ≡ []) × (r' ≡ next))

resume-goes : {q next s : Text} → Next q next → (b : Bool) → EndsInFeed s → Resumed q next (resume b s) (resume b (s ++ q))
resume-goes n true lf_last = inr (refl, resume-next n)
resume-goes n false lf_last = inr (refl, resume-next n)
resume-goes n b (lf_later c f) = cases (b && begins_entry c)
    (λ e. rw e (inl (lf_later c f, refl)))
    (λ e. rw e (resume-goes n (c == line_feed) f))

resumed-at : (q next : Text) {r r' u u' : Text} → r ≡ u → r' ≡ u' → Resumed q next u u' → Resumed q next r r'
resumed-at q next e e' h = rw (e, e') h

junk-goes : {q next s at : Text} → Next q next → EndsIn at s → EndsInFeed at → Resumed q next (behind_junk s at) (behind_junk (s ++ q) (at ++ q))
junk-goes {q} {next} {s} {at} n w f =
    resumed-at q next (junk-behind w.front at s w.whole) (junk-behind w.front (at ++ q) (s ++ q) (ap (λ z. z ++ q) w.whole ∙ append_assoc w.front at q)) (resume-goes n (ends_feed true w.front) f)

-- ---- the first text grows

lf-rest : (a r : Text) {s : Text} → EndsInFeed s → s ≡ a ++ r → (r ≡ []) ⊎ EndsInFeed r
lf-rest [] r f e = inr (lf-at e f)
  where
    lf-at : {s u : Text} → s ≡ u → EndsInFeed s → EndsInFeed u
    lf-at e f = rw (← e) f
lf-rest (c ∷ cs) r lf_last e = inl (empty cs r (ap (drop 1) e))
  where
    empty : (a b : Text) → [] ≡ a ++ b → b ≡ []
    empty [] b e = sym e
    empty (c ∷ cs) b e = absurd cc
lf-rest (c ∷ cs) r (lf_later d f) e = lf-rest cs r f (ap (drop 1) e)

-- what becomes of the text that comes
pub data Fate (q : Text) (junk : Bool) : List t.Entry → Type 0 where
  all_stays : {more : List t.Entry} → more ≡ list q → Fate q junk more
  first_hidden : {more : List t.Entry} → junk ≡ true → begins_with number_sign q ≡ false → more ≡ drop 1 (list q) → Fate q junk more

pub record Grown (q : Text) (junk : Bool) (u : Text) (es : List t.Entry) : Type 0 where
  pub more : List t.Entry
  pub lists : Lists u (es ++ more)
  pub fate : Fate q junk more

record GrownItems (q : Text) (junk : Bool) (u : Text) (es : List t.Entry) : Type 0 where
  more : List t.Entry
  items : ListsItems u (es ++ more)
  fate : Fate q junk more

-- an entry of the first text, in both
data EntryStep (q : Text) (e : t.Entry) (text rest : Text) : Type 0 where
  step_same : EndsInFeed rest → SpellsEntry e (text ++ q) (rest ++ q) → EntryStep q e text rest
  step_last : {x : t.Entry} {end : Text} → rest ≡ [] → SpellsEntry x (text ++ q) end → listed (x ∷ []) ≡ listed (e ∷ []) → Lists end (list q) → EntryStep q e text rest

-- junk of the first text, in both
data JunkStep (q : Text) (text rest : Text) : Type 0 where
  junk_same : {fault : Refusal} → EndsInFeed rest → entry_at (text ++ q) ≡ refused fault → behind_junk (text ++ q) fault.at ≡ rest ++ q → JunkStep q text rest
  junk_last : {fault : Refusal} {more : List t.Entry} → rest ≡ [] → entry_at (text ++ q) ≡ refused fault → Lists (behind_junk (text ++ q) fault.at) more → Fate q true more → JunkStep q text rest

abbrev place_of : {A : Type 0} → Reading A → Text
place_of (got a rest) = rest
place_of (refused fault) = fault.at

abbrev GotGoes : (q next : Text) {A : Type 0} → A → Text → Reading A → Type 0
GotGoes q next e rest y = (EndsInFeed rest × (y ≡ got e (rest ++ q))) ⊎ ((rest ≡ []) × (y ≡ got e next))

got-by : {A : Type 0} (q next : Text) {e : A} {rest : Text} (a : A) (s : Text) → a ≡ e → s ≡ rest → EndsInFeed s → GotGoes q next e rest (got a (s ++ q))
got-by q next a s w v f = rw (← w, ← v) (inl (f, refl))

got-goes : {A : Type 0} {q next : Text} {x y : Reading A} {e : A} {rest : Text} → Goes q next Equal x y → x ≡ got e rest → GotGoes q next e rest y
got-goes {q = q} {next} (same_got {a} (before {s} f)) h = let n = got_node h in got-by q next a s n.0 n.1 f
got-goes {next = next} (crossed_got {a} equal) h = let n = got_node h in inr (sym n.1, ap (λ z. got z next) n.0)
got-goes (same_refused h) e = absurd cc
got-goes (crossed_refused h) e = absurd cc

abbrev RefusedGoes : (q next : Text) {A : Type 0} → Text → Reading A → Type 0
RefusedGoes q next at y = (EndsInFeed at × ((kind : Kind) × (y ≡ refuse kind (at ++ q)))) ⊎ ((at ≡ []) × RefusedIn next y)

refused-by : {A : Type 0} (q next : Text) (kind : Kind) {at : Text} (s : Text) → s ≡ at → EndsInFeed s → RefusedGoes q next {A = A} at (refuse kind (s ++ q))
refused-by q next kind s e f = rw (← e) (inl (f, (kind, refl)))

refused-goes : {A : Type 0} {q next : Text} {x y : Reading A} {fault : Refusal} → Goes q next Equal x y → x ≡ refused fault → RefusedGoes q next fault.at y
refused-goes (same_got h) e = absurd cc
refused-goes (crossed_got h) e = absurd cc
refused-goes {q = q} {next} (same_refused {kind' = kind'} (before {s} f)) e = refused-by q next kind' s (ap place_of e) f
refused-goes (crossed_refused h) e = inr (sym (ap place_of e), h)

next-lists : {q : Text} (k : Coming q) → Lists k.next (list q)
next-lists k = lists-here (head-stops k.ahead.head) (record { parts = k.parts; tiles = k.tiles; lists = k.lists ∙ sym k.all })

-- ---- an entry

listed-step : {q : Text} {e : t.Entry} {s rest : Text} → Coming q → SpellsEntry e s rest → begins_with number_sign s ≡ false → EndsInFeed s → EntryStep q e s rest
listed-step {q} {e} {s} {rest} k d b f = elim (got-goes (entry-goes k.ahead b (before f)) (entry_complete d)) [
  | inl x ↦ step_same x.0 (entry_sound (s ++ q) e (rest ++ q) x.1)
  | inr x ↦ step_last x.0 (entry_sound (s ++ q) e k.next x.1) refl (next-lists k)
]

comment-step : {q : Text} {lines : List Text} {s rest : Text} (i : ℕ) → Coming q → suc i ≤ 3 → SpellsComment (suc i) lines s rest → EndsInFeed s → EntryStep q (comment_of (suc i) lines) s rest
comment-step {q} {lines} i k h d f = by_goes (comment-goes d f)
  where
    by_goes : {s rest : Text} → CommentGoes q i lines s rest → EntryStep q (comment_of (suc i) lines) s rest
    by_goes (comment_same g w) = step_same g (comment-entry i h w)
    by_goes (comment_more {others} e w m) = step_last e (comment-entry i h w) (not_listed i (lines ++ others) h ∙ sym (not_listed i lines h)) (lists-clean (behind-lines i h m k.clean))

entry-step : {q : Text} {e : t.Entry} {s rest : Text} → Coming q → SpellsEntry e s rest → EndsInFeed s → EntryStep q e s rest
entry-step {s = s} k (a_message d m h) f = listed-step k (a_message d m h) (letter-sign s (head-head d).1) f
entry-step k (a_term e d m h) f = listed-step k (a_term e d m h) (ap (begins_with number_sign) e) f
entry-step k (a_comment d) f = comment-step 0 k (omega arith) d f
entry-step k (a_group_comment d) f = comment-step 1 k (omega arith) d f
entry-step k (a_resource_comment d) f = comment-step 2 k (omega arith) d f

-- ---- junk

resumed-step : {q : Text} {text rest : Text} {kind : Kind} (at : Text) (k : Coming q) → entry_at (text ++ q) ≡ refuse kind (at ++ q) → behind_junk text at ≡ rest → Resumed q k.next (behind_junk text at) (behind_junk (text ++ q) (at ++ q)) → JunkStep q text rest
resumed-step {q} at k e b r = elim r [
  | inl x ↦ junk_same (lf-to b x.0) e (x.1 ∙ ap (λ z. z ++ q) b)
  | inr x ↦ junk_last (sym b ∙ x.0) e (lists-at x.1 (next-lists k)) (all_stays refl)
]
  where
    lf-to : {s u : Text} → s ≡ u → EndsInFeed s → EndsInFeed u
    lf-to e f = rw (← e) f

lines-sign : {b : Text} (x : Text) → BlankLines b → begins_with number_sign x ≡ false → begins_with number_sign (b ++ x) ≡ false
lines-sign x no_lines e = e
lines-sign x (ends_lf zero d) e = refl
lines-sign x (ends_lf (suc n) d) e = refl
lines-sign x (ends_crlf zero d) e = refl
lines-sign x (ends_crlf (suc n) d) e = refl

text-whole : {q : Text} (k : Coming q) (text : Text) → text ++ q ≡ (text ++ k.ahead.blanks) ++ k.next
text-whole k text = ap (λ z. text ++ z) k.ahead.whole ∙ sym (append_assoc text k.ahead.blanks k.next)

front-junk : {q : Text} (k : Coming q) (text : Text) → EndsInFeed text → behind_junk (text ++ q) k.next ≡ k.next
front-junk k text f =
    junk-behind (text ++ k.ahead.blanks) k.next (text ++ _) (text-whole k text)
    ∙ ap (λ z. resume z k.next) (ends-append true text k.ahead.blanks ∙ ap (λ z. ends_feed z k.ahead.blanks) (lf-ends true f) ∙ lines-end k.ahead.lines)
    ∙ resume-stops k.next (head-stops k.ahead.head)

within-junk : {q at : Text} (k : Coming q) (text : Text) → On_line at k.next → behind_junk (text ++ q) at ≡ resume false at
within-junk {at = at} k text l = ap (λ z. resume z at) (ap (λ z. at_column_zero z at) (text-whole k text) ∙ on_line-column (text ++ k.ahead.blanks) l)

where-step : {q : Text} {text at rest : Text} {kind : Kind} (k : Coming q) → EndsInFeed text → rest ≡ [] → entry_at (text ++ q) ≡ refuse kind at → Where k.next at → JunkStep q text rest
where-step {q} {text} {at} k f r e (at_front h) = junk_last r e (lists-at (ap (behind_junk (text ++ q)) h ∙ front-junk k text f) (next-lists k)) (all_stays refl)
where-step {q} {text} {at} k f r e (within l some b) =
    let first = first-of k.tiles k.no_junk some b in
    junk_last r e (lists-at (within-junk k text l) (free-lists (free-line l first.free) first.stops first.clean))
    (first_hidden refl (ap (begins_with number_sign) k.ahead.whole ∙ lines-sign k.next k.ahead.lines b) (sym first.dropped ∙ ap (drop 1) (k.lists ∙ sym k.all)))

refused-step : {q : Text} {text rest : Text} {y : Reading t.Entry} (k : Coming q) → EndsInFeed text → rest ≡ [] → entry_at (text ++ q) ≡ y → RefusedIn k.next y → JunkStep q text rest
refused-step k f r e (refused_in p) = where-step k f r e (place-where p)

junk-step : {q : Text} {text rest : Text} {fault : Refusal} (k : Coming q) → entry_at text ≡ refused fault → behind_junk text fault.at ≡ rest → EndsInFeed text → JunkStep q text rest
junk-step {q} {text} {rest} {fault} k e b f = cases (begins_with number_sign text)
    (λ s. let c = comment-refused q s f e in resumed-step fault.at k c.1.1 b (junk-goes k.ahead (place-end text fault e) c.0))
    (λ s. elim (refused-goes (entry-goes k.ahead s (before f)) e) [
      | inl x ↦ resumed-step fault.at k x.1.1 b (junk-goes k.ahead (place-end text fault e) x.0)
      | inr x ↦ refused-step k f (sym b ∙ ap (behind_junk text) x.0) refl x.1
    ])

-- ---- all parts

block-rest : {blanks s rest : Text} → BlankBlock blanks s rest → s ≡ [] → rest ≡ []
block-rest {blanks} {s} {rest} b e = empty blanks rest (sym b.split ∙ e)
  where
    empty : (a b : Text) → a ++ b ≡ [] → b ≡ []
    empty [] b e = e
    empty (c ∷ cs) b e = absurd cc

blank-lists : {q blanks : Text} (k : Coming q) → BlankLines blanks → Lists (blanks ++ q) (list q)
blank-lists {q} {blanks} k b =
    lists-behind {blanks = blanks ++ k.ahead.blanks} (record { split = text-whole k blanks; lines = lines-append b k.ahead.lines; longest = over-no_end (stops-over (head-stops k.ahead.head)) })
    (record { parts = k.parts; tiles = k.tiles; lists = k.lists ∙ sym k.all })

grow-block : {blanks s rest : Text} (q : Text) → BlankBlock blanks s rest → EndsInFeed rest → BlankBlock blanks (s ++ q) (rest ++ q)
grow-block {blanks} {rest = rest} q b f = record {
  split = ap (λ z. z ++ q) b.split ∙ append_assoc blanks rest q;
  lines = b.lines;
  longest = alike-no_end refl (alike-skip_spaces refl (lf-alike q f)) b.longest;
}

block-lf : {blanks s rest : Text} → BlankBlock blanks s rest → (s ≡ []) ⊎ EndsInFeed s → (rest ≡ []) ⊎ EndsInFeed rest
block-lf {blanks} {rest = rest} b f = elim f [
  | inl e ↦ inl (block-rest b e)
  | inr g ↦ lf-rest blanks rest g b.split
]

block-alone : {blanks s rest : Text} → BlankBlock blanks s rest → rest ≡ [] → s ≡ blanks
block-alone {blanks} b e = b.split ∙ ap (λ z. blanks ++ z) e ∙ append-nil blanks

lists-to : {s : Text} {es fs : List t.Entry} → es ≡ fs → Lists s es → Lists s fs
lists-to e l = rw (← e) l

grown-entry : {q : Text} {junk : Bool} {e : t.Entry} {s rest : Text} {es : List t.Entry} → SpellsEntry e s rest → Grown q junk rest es → GrownItems q junk s (listed (e ∷ []) ++ es)
grown-entry {e = e} {es = es} d g = record { more = g.more; items = items-to (sym (append_assoc (listed (e ∷ [])) es g.more)) (lists-entry d g.lists); fate = g.fate }
  where
    items-to : {s : Text} {es fs : List t.Entry} → es ≡ fs → ListsItems s es → ListsItems s fs
    items-to e l = rw (← e) l

grown-last : {q : Text} {junk : Bool} {x : t.Entry} {s end : Text} {es : List t.Entry} (e : t.Entry) → es ≡ [] → SpellsEntry x s end → listed (x ∷ []) ≡ listed (e ∷ []) → Lists end (list q) → GrownItems q junk s (listed (e ∷ []) ++ es)
grown-last {q} {x = x} {es = es} e n d h l = record { more = list q; items = items-to (ap (λ z. z ++ list q) (h ∙ sym (append-nil (listed (e ∷ []))) ∙ ap (λ z. listed (e ∷ []) ++ z) (sym n))) (lists-entry d l); fate = all_stays refl }
  where
    items-to : {s : Text} {es fs : List t.Entry} → es ≡ fs → ListsItems s es → ListsItems s fs
    items-to e l = rw (← e) l

fate-junk : {q : Text} {junk : Bool} {more : List t.Entry} → Fate q junk more → Fate q true more
fate-junk (all_stays e) = all_stays e
fate-junk (first_hidden j b e) = first_hidden refl b e

grown-blank : {q : Text} {junk : Bool} {s blanks rest : Text} {es : List t.Entry} (k : Coming q) → BlankBlock blanks s rest → rest ≡ [] → es ≡ [] → Grown q junk (s ++ q) es
grown-blank {q} k b e n = record { more = list q; lists = lists-at (ap (λ z. z ++ q) (block-alone b e)) (lists-to (ap (λ z. z ++ list q) (sym n)) (blank-lists k b.lines)); fate = all_stays refl }

mutual
  tiles-grow : {q : Text} (k : Coming q) {parts : List Part} {s : Text} → Tiles full parts s → (s ≡ []) ⊎ EndsInFeed s → Grown q (has_junk parts) (s ++ q) (list_of parts)
  tiles-grow {q} k (blank_first b d) f = elim (block-lf b f) [
    | inl e ↦ grown-blank k b e (items-unlisted d e)
    | inr g ↦ let i = items-grow k d g in record { more = i.more; lists = lists-behind (grow-block q b g) i.items; fate = i.fate }
  ]

  items-grow : {q : Text} (k : Coming q) {parts : List Part} {s : Text} → TilesItems full parts s → EndsInFeed s → GrownItems q (has_junk parts) (s ++ q) (list_of parts)
  items-grow k source_ends f = absurd (lf-some f refl)
  items-grow k (an_entry {e = y} p spelled w d) f = elim (entry-step k spelled f) [
    | step_same g x ↦ grown-entry x (tiles-grow k d (inr g))
    | step_last e x h l ↦ grown-last y (tiles-unlisted d e) x h l
  ]
  items-grow {q} k (some_junk {text} {rest = rest} {fault = fault} p some read at ends w d) f = elim (junk-step k read (junk-rest text fault rest read ends) f) [
    | junk_same g x b ↦ let i = tiles-grow k d (inr g) in record { more = i.more; items = lists-junk (text ++ q) (append-some text q some) x (lists-at b i.lists); fate = fate-junk i.fate }
    | junk_last {more = m} e x l fate ↦ record { more = m; items = lists-junk (text ++ q) (append-some text q some) x (lists-to (ap (λ z. z ++ m) (sym (tiles-unlisted d e))) l); fate = fate }
  ]
  items-grow k (a_line p l d) f = absurd cc

-- ---- a text that is empty or ends in a line feed

lf-snoc : (line : Text) → EndsInFeed (line ++ (line_feed ∷ []))
lf-snoc [] = lf_last
lf-snoc (c ∷ cs) = lf_later c (lf-snoc cs)

column-lf : (s : Text) → IsColumnZero s → (s ≡ []) ⊎ EndsInFeed s
column-lf s c = elim c [
  | inl e ↦ inl e
  | inr x ↦ inr (rw x.1 (lf-snoc x.0))
]

pub damage_stays : DamageStays
damage_stays d q column clean =
    let k = coming q clean in
    let a = each_text_has_a_tiling full d in
    let g = tiles-grow k a.1 (column-lf d column) in
    let all : list (d ++ q) ≡ list d ++ g.more = list-tiled (d ++ q) g.lists.parts g.lists.tiles ∙ g.lists.lists ∙ ap (λ z. z ++ g.more) (sym (list-tiled d a.0 a.1)) in
    by_fate (has_junk a.0) g.more all g.fate (λ e. errors-some a.0 full 0 false ((tiling_gives_tree_and_errors full d a.0 a.1).1 ∙ e))
  where
    by_fate : (flag : Bool) (more : List t.Entry) → list (d ++ q) ≡ list d ++ more → Fate q flag more → (errors d ≡ [] → flag ≡ false) → DamageStaysIn d q
    by_fate flag more all (all_stays e) j = let h = all ∙ ap (λ z. list d ++ z) e in record { either = inl h; whole = λ w. h }
    by_fate flag more all (first_hidden y b e) j = record {
      either = inr (all ∙ ap (λ z. list d ++ z) e);
      whole = elim [
        | inl s ↦ absurd cc
        | inr s ↦ absurd (let z = j s in cc)
      ];
    }
