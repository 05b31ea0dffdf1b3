-- Texts without errors, each on lines of its own, put after one another: their lists follow one another, and there are no errors.
use Rattle.std.proofs.Common.{◌≡◌, ℕ, zero, suc, ◌<◌, true, false, List, [], ◌∷◌, ◌++◌, refl, sym, ap, ◌∙◌, arith, append_assoc, append-nil, inl, inr, replicate}
use Rattle.std.specs.Prelude.{◌≢◌, ◌⊎◌}
use Rattle.std.specs.Str.{IsUtf8}
use Rattle.std.proofs.lemmas.Bool.Decides.{nat_tests}
use Rattle.fluent_grammar.specs.Words.{Text, space, line_feed, carriage_return, begins, begins_entry}
use Rattle.fluent_grammar.specs.Tree.{Entry}
use Rattle.fluent_grammar.specs.Lines.{ends_line}
use Rattle.fluent_grammar.specs.Blanks.{BlankLines, no_lines, ends_lf, ends_crlf, BlankBlock}
use Rattle.fluent_grammar.specs.Spelling.{SpellsEntry, a_message, a_term, a_comment, a_group_comment, a_resource_comment}
use Rattle.fluent_grammar.specs.Tiling.{listed, list}
use Rattle.fluent_grammar.specs.Tiles.{full, Part, Tiles, blank_first, TilesItems, source_ends, an_entry, some_junk, a_line}
use Rattle.fluent_grammar.proofs.Cases.{cases}
use Rattle.fluent_grammar.proofs.TilesPieces.{each_text_has_a_tiling}
use Rattle.fluent_tidy_laws.specs.Cut.{cut}
use Rattle.fluent_tidy_laws.specs.Joined.{line_ended, joined, lists, HasNoReturn, HaveNoReturn, AreUtf8}
use Rattle.fluent_tidy_laws.specs.CutLaws.{JoinedTextsKeepLists}
use Rattle.fluent_tidy_laws.proofs.MovingEntries.{Stops, stops_empty, stops_here, IsListed, entry-over}
use Rattle.fluent_tidy_laws.proofs.MovingComments.{comment-clean, entry-front}
use Rattle.fluent_tidy_laws.proofs.Clean.{list_of, has_junk, Clean, clean-list, clean-errors, clean-at, CleanItems, clean-items, clean-behind, clean-entry, block-empty, list-tiled, lines-append}
use Rattle.fluent_tidy_laws.proofs.Cutting.{entry-begins, listed-clean, tiles-cut, items-unlisted, tiles-unlisted}
use Rattle.fluent_tidy_laws.proofs.Slices.{cut_keeps_parts}
use Rattle.fluent_tidy_laws.proofs.CutTexts.{cut_texts_have_no_return, cut_texts_are_utf8}
use Rattle.fluent_tidy_laws.proofs.TextEnds.{Joint, ended, unended, Lined, lined-some, lined-at, joint-at, alike-append, joint-suffix, lf-from}
use Rattle.fluent_tidy_laws.proofs.TextParts.{empty_or, begins-append}
use Rattle.fluent_tidy_laws.proofs.LaterEntries.{blanks-lined, entry-later}
use Rattle.fluent_tidy_laws.proofs.LaterComments.{Meets, at_feed, before_feed, comment-later}

lists-same : {s : Text} {es fs : List Entry} → es ≡ fs → Clean s es → Clean s fs
lists-same e c = rw e at c

-- ---- an entry that ends at the end of a text

items-clean : {s : Text} {es : List Entry} → Stops s → CleanItems s es → Clean s es
items-clean stops c = clean-behind no_lines stops c

joint-meets : {blanks x s : Text} {es : List Entry} → Joint blanks s → Stops x → CleanItems x es → Meets es (blanks ++ x) s
joint-meets (ended f) stops c = at_feed f
joint-meets {x = x} (unended {more} n u l e) stops c = before_feed n (more ++ x) (ap (λ z. z ++ x) e) (clean-behind l stops c)

listed-ends : {e : Entry} {s rest blanks x : Text} {es : List Entry} → SpellsEntry e s rest → rest ≡ [] → IsListed e → Joint blanks s → BlankLines blanks → Stops x → CleanItems x es →
    Clean (s ++ (blanks ++ x)) (listed (e ∷ []) ++ es)
listed-ends d z k j l stops c =
    let d' = entry-later d z k j l stops in
    let w = entry-front d' in
    items-clean (stops_here (entry-begins d')) (clean-entry w.front d' w.whole (items-clean stops c))

entry-ends : {e : Entry} {s rest blanks x : Text} {es : List Entry} → SpellsEntry e s rest → rest ≡ [] → Joint blanks s → BlankLines blanks → Stops x → CleanItems x es →
    Clean (s ++ (blanks ++ x)) (listed (e ∷ []) ++ es)
entry-ends (a_message d m h) z j l stops c = listed-ends (a_message d m h) z tt j l stops c
entry-ends (a_term e d m h) z j l stops c = listed-ends (a_term e d m h) z tt j l stops c
entry-ends (a_comment d) z j l stops c = comment-later 0 d (omega arith) z (joint-meets j stops c) (clean-behind l stops c)
entry-ends (a_group_comment d) z j l stops c = comment-later 1 d (omega arith) z (joint-meets j stops c) (clean-behind l stops c)
entry-ends (a_resource_comment d) z j l stops c = comment-later 2 d (omega arith) z (joint-meets j stops c) (clean-behind l stops c)

-- an entry before what goes on
entry-goes : {e : Entry} {s rest : Text} {es : List Entry} (t : Text) → SpellsEntry e s rest → rest ≢ [] → (IsListed e → Stops (rest ++ t)) → Clean (rest ++ t) es → Clean (s ++ t) (listed (e ∷ []) ++ es)
entry-goes t (a_message d m h) some stops c = let l = listed-clean (a_message d m h) tt some _ (stops tt) c in clean-at (sym (alike-append t l.1)) l.2
entry-goes t (a_term e d m h) some stops c = let l = listed-clean (a_term e d m h) tt some _ (stops tt) c in clean-at (sym (alike-append t l.1)) l.2
entry-goes t (a_comment d) some stops c = let l = comment-clean 0 d _ (omega arith) some c in clean-at (sym (alike-append t l.1)) l.2
entry-goes t (a_group_comment d) some stops c = let l = comment-clean 1 d _ (omega arith) some c in clean-at (sym (alike-append t l.1)) l.2
entry-goes t (a_resource_comment d) some stops c = let l = comment-clean 2 d _ (omega arith) some c in clean-at (sym (alike-append t l.1)) l.2

-- ---- what a clean text begins with

items-begin : {parts : List Part} {s : Text} → TilesItems full parts s → has_junk parts ≡ false → s ≢ [] → begins begins_entry s ≡ true
items-begin source_ends h some = absurd (some refl)
items-begin (an_entry p spelled w d) h some = entry-begins spelled
items-begin (some_junk p some read at ends w d) h k = absurd cc
items-begin (a_line p l d) h some = absurd cc

-- an ASCII byte
record Begins (s : Text) : Type 0 where
  first : ℕ
  others : Text
  ascii : first < 128
  whole : s ≡ first ∷ others

entry-ascii : (c : ℕ) → begins_entry c ≡ true → c < 128
entry-ascii c h = grind (arith, nat_tests)

begins-ascii : (s : Text) → begins begins_entry s ≡ true → Begins s
begins-ascii [] h = absurd cc
begins-ascii (c ∷ cs) h = record { first = c; others = cs; ascii = entry-ascii c h; whole = refl }

begins-at : {s u : Text} → s ≡ u → Begins u → Begins s
begins-at e b = rw e b

spaces-begin : (n c : ℕ) (m : Text) → c < 128 → Begins (replicate n space ++ c ∷ m)
spaces-begin zero c m h = record { first = c; others = m; ascii = h; whole = refl }
spaces-begin (suc n) c m h = record { first = space; others = replicate n space ++ c ∷ m; ascii = omega arith; whole = refl }

block-begins : {blanks : Text} → BlankLines blanks → (rest : Text) → (rest ≢ [] → Begins rest) → blanks ++ rest ≢ [] → Begins (blanks ++ rest)
block-begins no_lines rest h some = h some
block-begins (ends_lf {more = m} n d) rest h some = begins-at (append_assoc (replicate n space) (line_feed ∷ m) rest) (spaces-begin n line_feed (m ++ rest) (omega arith))
block-begins (ends_crlf {more = m} n d) rest h some = begins-at (append_assoc (replicate n space) (carriage_return ∷ line_feed ∷ m) rest) (spaces-begin n carriage_return (line_feed ∷ (m ++ rest)) (omega arith))

tiles-begin : {parts : List Part} {s : Text} → Tiles full parts s → has_junk parts ≡ false → s ≢ [] → Begins s
tiles-begin (blank_first {rest = rest} b d) h some =
    begins-at b.split (block-begins b.lines rest (λ k. begins-ascii rest (items-begin d h k)) (λ e. some (b.split ∙ e)))

-- after a message or a term another entry begins, or nothing stands
stops-behind : {e : Entry} {s rest : Text} {parts : List Part} (t : Text) → SpellsEntry e s rest → Tiles full parts rest → has_junk parts ≡ false → rest ≢ [] → IsListed e → Stops (rest ++ t)
stops-behind {rest = rest} t d (blank_first {rest = r} b items) h some k =
    let e : r ≡ rest = (block-empty (entry-over d k) b).1 in
    stops_here (begins-append begins_entry rest t some ∙ ap (begins begins_entry) (sym e) ∙ items-begin items h (λ z. some (sym e ∙ z)))

-- ---- a clean text before another

blank-joins : {parts : List Part} {s b0 rest blanks x : Text} {es : List Entry} → BlankBlock b0 s rest → TilesItems full parts rest → rest ≡ [] → BlankLines blanks → Stops x → CleanItems x es →
    Clean (s ++ (blanks ++ x)) (list_of parts ++ es)
blank-joins {s = s} {b0 = b0} {blanks = blanks} {x = x} {es = es} b d e l stops c =
    let w : s ≡ b0 = b.split ∙ ap (λ z. b0 ++ z) e ∙ append-nil b0 in
    lists-same (ap (λ z. z ++ es) (sym (items-unlisted d e))) (clean-at (ap (λ z. z ++ (blanks ++ x)) w ∙ sym (append_assoc b0 blanks x)) (clean-behind (lines-append b.lines l) stops c))

lined-rest : {blanks s b0 rest : Text} → BlankBlock b0 s rest → Lined blanks s → Lined blanks rest
lined-rest {rest = rest} b j = blanks-lined b.lines rest (lined-at b.split j)

rest-lined : {parts : List Part} {blanks s rest : Text} (front : Text) → s ≡ front ++ rest → Tiles full parts rest → has_junk parts ≡ false → rest ≢ [] → Joint blanks s → Lined blanks rest
rest-lined front w d h some j =
    let b = tiles-begin d h some in
    inr (joint-at (sym b.whole) (joint-suffix front b.first b.others b.ascii (joint-at (w ∙ ap (λ z. front ++ z) b.whole) j)))

mutual
  tiles-join : {parts : List Part} {s : Text} → Tiles full parts s → {blanks x : Text} {es : List Entry} → has_junk parts ≡ false → Lined blanks s → BlankLines blanks → Stops x → CleanItems x es →
      Clean (s ++ (blanks ++ x)) (list_of parts ++ es)
  tiles-join (blank_first {blanks = b0} {rest = rest} b d) {blanks} {x} h j l stops c =
      elim (empty_or rest) [
        | inl e ↦ blank-joins b d e l stops c
        | inr some ↦
            let t = blanks ++ x in
            let i = items-join d h some (lined-some some (lined-rest b j)) l stops c in
            let k : Stops (rest ++ t) = stops_here (begins-append begins_entry rest t some ∙ items-begin d h some) in
            clean-at (ap (λ z. z ++ t) b.split ∙ append_assoc b0 rest t) (clean-behind b.lines k (clean-items i k))
      ]

  items-join : {parts : List Part} {s : Text} → TilesItems full parts s → {blanks x : Text} {es : List Entry} → has_junk parts ≡ false → s ≢ [] → Joint blanks s → BlankLines blanks → Stops x → CleanItems x es →
      Clean (s ++ (blanks ++ x)) (list_of parts ++ es)
  items-join source_ends h some j l stops c = absurd (some refl)
  items-join (an_entry {front = front} {rest = rest} {e = e} {parts = ps} p spelled w d) {blanks} {x} {es} h some j l stops c =
      elim (empty_or rest) [
        | inl k ↦ lists-same (ap (λ z. (listed (e ∷ []) ++ z) ++ es) (sym (tiles-unlisted d k))) (lists-same (ap (λ z. z ++ es) (sym (append-nil (listed (e ∷ []))))) (entry-ends spelled k j l stops c))
        | inr more ↦
            let i = tiles-join d h (rest-lined front w d h more j) l stops c in
            lists-same (sym (append_assoc (listed (e ∷ [])) (list_of ps) es)) (entry-goes (blanks ++ x) spelled more (λ k. stops-behind (blanks ++ x) spelled d h more k) i)
      ]
  items-join (some_junk p some read at ends w d) h k j l stops c = absurd cc
  items-join (a_line p q d) h some j l stops c = absurd cc

-- ---- two texts, the first on lines of its own

-- a clean text, by its blank lines
record Apart (s : Text) (es : List Entry) : Type 0 where
  blanks : Text
  left : Text
  whole : s ≡ blanks ++ left
  lines : BlankLines blanks
  stops : Stops left
  items : CleanItems left es

items-stop : {parts : List Part} {s : Text} → TilesItems full parts s → has_junk parts ≡ false → Stops s
items-stop {s = s} d h = elim (empty_or s) [ inl e ↦ rw e stops_empty | inr some ↦ stops_here (items-begin d h some) ]

tiles-apart : {parts : List Part} {s : Text} → Tiles full parts s → has_junk parts ≡ false → Apart s (list_of parts)
tiles-apart (blank_first {blanks = blanks} {rest = rest} {parts = ps} b d) h = record {
  blanks = blanks;
  left = rest;
  whole = b.split;
  lines = b.lines;
  stops = items-stop d h;
  items = record { parts = ps; tiles = d; no_junk = h; lists = refl };
}

apart-at : {s : Text} {es fs : List Entry} → es ≡ fs → Apart s es → Apart s fs
apart-at e a = rw e at a

apart : {s : Text} {es : List Entry} → Clean s es → Apart s es
apart c = apart-at c.lists (tiles-apart c.tiles c.no_junk)

-- A text that is empty, or ends in a line feed.
pub lined-join : {s y : Text} {ds es : List Entry} → Clean s ds → (s ≡ []) ⊎ (ends_line s ≡ true) → Clean y es → Clean (s ++ y) (ds ++ es)
lined-join {s = s} {es = es} c k d =
    let a = apart d in
    let j : Lined a.blanks s = elim k [ inl e ↦ inl e | inr e ↦ inr (ended (lf-from s e)) ] in
    lists-same (ap (λ z. z ++ es) c.lists) (clean-at (ap (λ z. s ++ z) a.whole) (tiles-join c.tiles c.no_junk j a.lines a.stops a.items))

-- One that doesn't, and gets a line feed.
pub unlined-join : {s y : Text} {ds es : List Entry} → Clean s ds → HasNoReturn s → IsUtf8 s → Clean y es → Clean ((s ++ line_feed ∷ []) ++ y) (ds ++ es)
unlined-join {s = s} {y = y} {es = es} c n u d =
    let a = apart d in
    let j : Lined (line_feed ∷ a.blanks) s = inr (unended n u a.lines refl) in
    lists-same (ap (λ z. z ++ es) c.lists) (clean-at (append_assoc s (line_feed ∷ []) y ∙ ap (λ z. s ++ line_feed ∷ z) a.whole) (tiles-join c.tiles c.no_junk j (ends_lf 0 a.lines) a.stops a.items))

pub ended-join : {y : Text} {ds es : List Entry} (s : Text) → Clean s ds → HasNoReturn s → IsUtf8 s → Clean y es → Clean (line_ended s ++ y) (ds ++ es)
ended-join [] c n u d = lined-join c (inl refl) d
ended-join (b ∷ bs) c n u d = cases (ends_line (b ∷ bs))
    (λ e. rw e (lined-join c (inr e) d))
    (λ e. rw e (unlined-join c n u d))

-- ---- the joined text

pub no_text : Clean [] []
no_text = items-clean stops_empty (record { parts = []; tiles = source_ends; no_junk = refl; lists = refl })

joined-clean : (sources : List Text) → HaveNoReturn sources → AreUtf8 sources → Clean (joined sources) (lists sources)
joined-clean [] n u = no_text
joined-clean (s ∷ ss) n u =
    let t = each_text_has_a_tiling full s in
    let c : Clean (cut s) (list s) = lists-same (sym (list-tiled s t.0 t.1)) (clean-at (cut_keeps_parts s t.0 t.1) (tiles-cut t.1)) in
    ended-join (cut s) c (cut_texts_have_no_return s n.0) (cut_texts_are_utf8 s u.0) (joined-clean ss n.1 u.1)

pub joined_texts_keep_lists : JoinedTextsKeepLists
joined_texts_keep_lists sources n u = let c = joined-clean sources n u in record { same_lists = clean-list c; no_errors = clean-errors c }
