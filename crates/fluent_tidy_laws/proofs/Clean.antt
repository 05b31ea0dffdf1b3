-- Tilings without junk, and what a tiling lists.
use Rattle.std.proofs.Common.{◌≡◌, ℕ, Bool, true, false, List, [], ◌∷◌, ◌++◌, Option, Some, None, refl, sym, ap, ◌∙◌, append_assoc, replicate}
use Rattle.std.specs.Prelude.{◌≢◌}
use Rattle.std.proofs.lemmas.List.{append_cancel_right}
use Rattle.fluent_grammar.specs.Words.{Text, begins, begins_entry, skip_spaces, skip_blank_block, after_line_end, space, line_feed, carriage_return}
use Rattle.fluent_grammar.specs.Tree as t
use Rattle.fluent_grammar.specs.Blanks.{BlankLines, no_lines, BlankBlock, ends_lf, ends_crlf}
use Rattle.fluent_grammar.specs.Spelling.{SpellsEntry}
use Rattle.fluent_grammar.specs.Tiling.{entries_of, errors_of, waiting, listed, list, errors}
use Rattle.fluent_grammar.specs.Tiles.{Mode, full, Part, blank_block, entry, junk, passed_over, Tiles, blank_first, TilesItems, source_ends, an_entry, some_junk, a_line, pieces_of}
use Rattle.fluent_grammar.proofs.Agreement.{entries_are_unique}
use Rattle.fluent_grammar.proofs.Blanks.{block-skipped}
use Rattle.fluent_grammar.proofs.TilesPieces.{tiling_gives_tree_and_errors}
use Rattle.fluent_tidy_laws.proofs.Alike.{Alike, last, more}
use Rattle.fluent_tidy_laws.proofs.MovingWords.{Over, over-no_end}
use Rattle.fluent_tidy_laws.proofs.MovingEntries.{Stops, stops_here, stops-over, entry-some}
use Rattle.fluent_grammar.proofs.TilesRuntime.{listed-waiting, listed-left}

-- the messages and terms of parts
abbrev pub list_of : List Part → List t.Entry
list_of [] = []
list_of (blank_block s ∷ parts) = list_of parts
list_of (entry s e ∷ parts) = listed (e ∷ []) ++ list_of parts
list_of (junk s kind place ∷ parts) = list_of parts
list_of (passed_over s ∷ parts) = list_of parts

abbrev pub has_junk : List Part → Bool
has_junk [] = false
has_junk (blank_block s ∷ parts) = has_junk parts
has_junk (entry s e ∷ parts) = has_junk parts
has_junk (junk s kind place ∷ parts) = true
has_junk (passed_over s ∷ parts) = has_junk parts

-- ---- lists and errors by parts

waiting-none : (held : Option (List Text)) → listed (waiting held) ≡ []
waiting-none None = refl
waiting-none (Some lines) = refl

pub entries-listed : (mode : Mode) (held : Option (List Text)) (at : ℕ) (apart : Bool) (ps : List Part) → listed (entries_of held (pieces_of mode at apart ps)) ≡ list_of ps
entries-listed mode held at apart [] = waiting-none held
entries-listed mode held at apart (blank_block s ∷ ps) = entries-listed mode held _ _ ps
entries-listed mode held at apart (passed_over s ∷ ps) = entries-listed mode held _ _ ps
entries-listed mode held at apart (junk s kind place ∷ ps) = listed-waiting held _ ∙ entries-listed mode None _ _ ps
entries-listed mode held at apart (entry s (t.message m) ∷ ps) = listed-left held apart _ ∙ ap (λ z. t.message (record m { comment = None }) ∷ z) (entries-listed mode None _ _ ps)
entries-listed mode held at apart (entry s (t.term m) ∷ ps) = listed-left held apart _ ∙ ap (λ z. t.term (record m { comment = None }) ∷ z) (entries-listed mode None _ _ ps)
entries-listed mode held at apart (entry s (t.comment c) ∷ ps) = listed-waiting held _ ∙ entries-listed mode (Some c) _ _ ps
entries-listed mode held at apart (entry s (t.group_comment c) ∷ ps) = listed-waiting held _ ∙ entries-listed mode None _ _ ps
entries-listed mode held at apart (entry s (t.resource_comment c) ∷ ps) = listed-waiting held _ ∙ entries-listed mode None _ _ ps
entries-listed mode held at apart (entry s (t.junk c) ∷ ps) = listed-waiting held _ ∙ entries-listed mode None _ _ ps

pub errors-none : (ps : List Part) (mode : Mode) (at : ℕ) (apart : Bool) → has_junk ps ≡ false → errors_of (pieces_of mode at apart ps) ≡ []
errors-none [] mode at apart h = refl
errors-none (blank_block s ∷ ps) mode at apart h = errors-none ps mode _ _ h
errors-none (passed_over s ∷ ps) mode at apart h = errors-none ps mode _ _ h
errors-none (junk s kind place ∷ ps) mode at apart h = absurd cc
errors-none (entry s e ∷ ps) mode at apart h = errors-none ps mode _ _ h

pub errors-some : (ps : List Part) (mode : Mode) (at : ℕ) (apart : Bool) → errors_of (pieces_of mode at apart ps) ≡ [] → has_junk ps ≡ false
errors-some [] mode at apart h = refl
errors-some (blank_block s ∷ ps) mode at apart h = errors-some ps mode _ _ h
errors-some (passed_over s ∷ ps) mode at apart h = errors-some ps mode _ _ h
errors-some (junk s kind place ∷ ps) mode at apart h = absurd cc
errors-some (entry s e ∷ ps) mode at apart h = errors-some ps mode _ _ h

pub list-tiled : (s : Text) (ps : List Part) → Tiles full ps s → list s ≡ list_of ps
list-tiled s ps d = ap listed (sym (tiling_gives_tree_and_errors full s ps d).0) ∙ entries-listed full None 0 false ps

-- ---- clean tilings

-- A text is tiled without junk, and lists these.
pub record Clean (s : Text) (es : List t.Entry) : Type 0 where
  pub parts : List Part
  pub tiles : Tiles full parts s
  pub no_junk : has_junk parts ≡ false
  pub lists : list_of parts ≡ es

pub clean-list : {s : Text} {es : List t.Entry} → Clean s es → list s ≡ es
clean-list {s} c = list-tiled s c.parts c.tiles ∙ c.lists

pub clean-errors : {s : Text} {es : List t.Entry} → Clean s es → errors s ≡ []
clean-errors {s} c = sym (tiling_gives_tree_and_errors full s c.parts c.tiles).1 ∙ errors-none c.parts full 0 false c.no_junk

pub clean-at : {s u : Text} {es : List t.Entry} → s ≡ u → Clean u es → Clean s es
clean-at e c = rw e c

-- no blank block stands before what stops
pub stops-no_end : {s : Text} → Stops s → after_line_end (skip_spaces s) ≡ None
stops-no_end h = over-no_end (stops-over h)

pub over-block : {s : Text} → Over s → skip_blank_block s ≡ s
over-block {s} o = block-skipped [] s s (record { split = refl; lines = no_lines; longest = over-no_end o })

no-front : (a s : Text) → s ≡ a ++ s → a ≡ []
no-front a s e = sym (append_cancel_right [] a s e)

pub block-empty : {blanks s rest : Text} → Over s → BlankBlock blanks s rest → (blanks ≡ []) × (rest ≡ s)
block-empty {blanks} {s} {rest} o b =
    let e : rest ≡ s = sym (block-skipped blanks s rest b) ∙ over-block o in
    (no-front blanks s (b.split ∙ ap (λ z. blanks ++ z) e), e)

pub items-at : {parts : List Part} {s u : Text} → s ≡ u → TilesItems full parts u → TilesItems full parts s
items-at e d = rw e d

-- the items of a clean text that stops
pub record CleanItems (s : Text) (es : List t.Entry) : Type 0 where
  pub parts : List Part
  pub tiles : TilesItems full parts s
  pub no_junk : has_junk parts ≡ false
  pub lists : list_of parts ≡ es

items-of : {parts : List Part} {s : Text} → Tiles full parts s → has_junk parts ≡ false → Stops s → CleanItems s (list_of parts)
items-of (blank_first {parts = ps} b d) h stops = record { parts = ps; tiles = items-at (sym (block-empty (stops-over stops) b).1) d; no_junk = h; lists = refl }

items-lists : {s : Text} {es fs : List t.Entry} → es ≡ fs → CleanItems s es → CleanItems s fs
items-lists e c = record { parts = c.parts; tiles = c.tiles; no_junk = c.no_junk; lists = c.lists ∙ e }

pub clean-items : {s : Text} {es : List t.Entry} → Clean s es → Stops s → CleanItems s es
clean-items c stops = items-lists c.lists (items-of c.tiles c.no_junk stops)

-- blank lines before a clean text that stops
pub clean-behind : {blanks s : Text} {es : List t.Entry} → BlankLines blanks → Stops s → CleanItems s es → Clean (blanks ++ s) es
clean-behind {blanks} {s} l stops c = record {
  parts = blank_block blanks ∷ c.parts;
  tiles = blank_first (record { split = refl; lines = l; longest = stops-no_end stops }) c.tiles;
  no_junk = c.no_junk;
  lists = c.lists;
}

-- an entry before a clean text
pub clean-entry : {e : t.Entry} {s rest : Text} {es : List t.Entry} (front : Text) → SpellsEntry e s rest → s ≡ front ++ rest → Clean rest es → CleanItems s (listed (e ∷ []) ++ es)
clean-entry {e} {s} {rest} front d w c = record {
  parts = entry front e ∷ c.parts;
  tiles = an_entry refl d w c.tiles;
  no_junk = c.no_junk;
  lists = ap (λ z. listed (e ∷ []) ++ z) c.lists;
}

-- what follows an entry of a clean text
pub record Follows (e : t.Entry) (rest : Text) (es : List t.Entry) : Type 0 where
  pub others : List t.Entry
  pub clean : Clean rest others
  pub lists : es ≡ listed (e ∷ []) ++ others

follows-at : {e x : t.Entry} {rest u : Text} {es : List t.Entry} → (x ≡ e) × (u ≡ rest) → Follows x u es → Follows e rest es
follows-at h f = rw (← h.0, ← h.1) f

items-follow : {parts : List Part} {s : Text} → TilesItems full parts s → has_junk parts ≡ false → (e : t.Entry) (rest : Text) → SpellsEntry e s rest → s ≢ [] → Follows e rest (list_of parts)
items-follow source_ends h e rest d some = absurd (some refl)
items-follow (an_entry {text} {rest = u} {e = x} {parts = ps} p spelled w d2) h e rest d some =
    follows-at (entries_are_unique text x e u rest spelled d) (record { others = list_of ps; clean = record { parts = ps; tiles = d2; no_junk = h; lists = refl }; lists = refl })
items-follow (some_junk p some read at ends w d2) h e rest d k = absurd cc
items-follow (a_line p l d2) h e rest d some = absurd cc

pub clean-follows : {s : Text} {es : List t.Entry} → Clean s es → begins begins_entry s ≡ true → (e : t.Entry) (rest : Text) → SpellsEntry e s rest → Follows e rest es
clean-follows {s} c b e rest d =
    let i = clean-items c (stops_here b) in
    let f = items-follow i.tiles i.no_junk e rest d (entry-some s b) in
    record { others = f.others; clean = f.clean; lists = sym i.lists ∙ f.lists }

-- ---- fronts

alike-fronts : {a : ℕ} {x x' s s' : Text} → Alike a x x' s s' → (f : Text) × (s ≡ f ++ x) × (s' ≡ f ++ x')
alike-fronts (last) = (_ ∷ [], refl, refl)
alike-fronts (more c h) = let g = alike-fronts h in (c ∷ g.0, ap (λ z. c ∷ z) g.1, ap (λ z. c ∷ z) g.2)

pub alike-is : {a : ℕ} {x x' s s' : Text} (f : Text) → Alike a x x' s s' → s ≡ f ++ x → s' ≡ f ++ x'
alike-is {x = x} {x' = x'} f h e =
    let g = alike-fronts h in
    g.2 ∙ ap (λ z. z ++ x') (append_cancel_right g.0 f x (sym g.1 ∙ e))

pub lines-append : {a b : Text} → BlankLines a → BlankLines b → BlankLines (a ++ b)
lines-append no_lines k = k
lines-append {b = b} (ends_lf {more = m} n d) k = lines-at (append_assoc (replicate n space) (line_feed ∷ m) b) (ends_lf n (lines-append d k))
  where
    lines-at : {s u : Text} → s ≡ u → BlankLines u → BlankLines s
    lines-at e d = rw e d
lines-append {b = b} (ends_crlf {more = m} n d) k = lines-at (append_assoc (replicate n space) (carriage_return ∷ line_feed ∷ m) b) (ends_crlf n (lines-append d k))
  where
    lines-at : {s u : Text} → s ≡ u → BlankLines u → BlankLines s
    lines-at e d = rw e d
