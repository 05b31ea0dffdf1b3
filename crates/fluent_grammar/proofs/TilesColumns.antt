-- What is left after an entry stands at column 0, or is nothing.
use Rattle.std.proofs.Common.{◌≡◌, ℕ, zero, suc, Bool, true, false, cond, ◌&&◌, List, [], ◌∷◌, ◌++◌, length, drop, Option, Some, None, refl, sym, ap, ◌∙◌, append_assoc, append-nil, inl, inr, eqb-true, replicate}
use Rattle.std.specs.Prelude.{◌==◌, ◌⊎◌, is_some}
use Rattle.fluent_grammar.specs.Words.{Text, number_sign, hyphen, equals, line_feed, carriage_return, space, dot, begins_with, begins_crlf, open_brace, close_brace, skip_spaces, after_line_end, skip_blank_block, rest_of_line, comment_level}
use Rattle.fluent_grammar.specs.Refusal.{Kind, Reading, got, refused, refuse, mapped, ◌>>=◌}
use Rattle.fluent_grammar.specs.Tree as t
use Rattle.fluent_grammar.specs.Lines.{Piece, ends_line, pattern_ends}
use Rattle.fluent_grammar.specs.Ends.{EndsIn}
use Rattle.fluent_grammar.specs.Blanks.{BlankLines, no_lines, ends_lf, ends_crlf, BlankBlock, Line}
use Rattle.fluent_grammar.specs.Reading as g
use Rattle.fluent_grammar.specs.Reading.{Readers, readers, step, text_run, before}
use Rattle.fluent_grammar.specs.Recovery.{IsColumnZero, EndsJunk}
use Rattle.fluent_grammar.specs.Spelling.{SpellsEntry}
use Rattle.fluent_grammar.specs.Tiles.{Mode, Part, Tiles, blank_first, TilesItems, source_ends, an_entry, some_junk, a_line, text_of_part, text_of}
use Rattle.fluent_grammar.specs.TilingLaws.{PartsBeginAtColumnZero}
use Rattle.std.proofs.lemmas.List.{append_cancel_right}
use Rattle.fluent_grammar.proofs.Agreement.{entries_agree}
use Rattle.fluent_grammar.proofs.Within.{FairReaders, readers-fair, ends, end-same, end-none, end-drop, end-cons, end-spaces, placeable-fair, identifier-fair, Fair}
use Rattle.fluent_grammar.proofs.Blanks.{block-at, line-at}
use Rattle.fluent_grammar.proofs.Cases.{cases, and-right}

-- what is after a line feed of a text
Behind : Text → Text → Type 0
Behind rest whole = (line : Text) × (whole ≡ line ++ line_feed ∷ rest)

-- that, or the end of the text
Stops : Text → Text → Type 0
Stops rest whole = (rest ≡ []) ⊎ Behind rest whole

stops-in : (rest u whole : Text) → EndsIn u whole → Stops rest u → Stops rest whole
unfolding Stops Behind
stops-in rest u whole h s = elim s [
  | inl e ↦ inl e
  | inr l ↦ inr (h.front ++ l.0, h.whole ∙ ap (λ z. h.front ++ z) l.1 ∙ sym (append_assoc h.front l.0 (line_feed ∷ rest)))
]

-- at the start of a line, or there
StopsOrStays : Text → Text → Type 0
StopsOrStays rest whole = (rest ≡ whole) ⊎ Stops rest whole

behind-end : (rest whole : Text) → Behind rest whole → EndsIn rest whole
unfolding Behind
behind-end rest whole b = record { front = b.0 ++ line_feed ∷ []; whole = b.1 ∙ sym (append_assoc b.0 (line_feed ∷ []) rest) }

stops-end : (rest whole : Text) → Stops rest whole → EndsIn rest whole
unfolding Stops
stops-end rest whole s = elim s [ inl e ↦ rw e (end-none whole) | inr b ↦ behind-end rest whole b ]

stays-end : (rest whole : Text) → StopsOrStays rest whole → EndsIn rest whole
unfolding StopsOrStays
stays-end rest whole s = elim s [ inl e ↦ rw e (end-same whole) | inr l ↦ stops-end rest whole l ]

-- what is left after a line feed, or further on
stops-behind : (rest u whole : Text) → Behind u whole → StopsOrStays rest u → Stops rest whole
unfolding StopsOrStays Stops Behind
stops-behind rest u whole b s = elim s [
  | inl e ↦ inr (b.0, b.1 ∙ ap (λ z. b.0 ++ line_feed ∷ z) (sym e))
  | inr l ↦ stops-in rest u whole (behind-end u whole b) l
]

stops-then : (rest u whole : Text) → Stops u whole → StopsOrStays rest u → Stops rest whole
unfolding StopsOrStays
stops-then rest u whole s k = elim k [ inl e ↦ rw e s | inr l ↦ stops-in rest u whole (stops-end u whole s) l ]

stays-then : (rest u whole : Text) → StopsOrStays u whole → StopsOrStays rest u → StopsOrStays rest whole
unfolding StopsOrStays
stays-then rest u whole s k = elim s [ inl e ↦ rw (← e) k | inr l ↦ inr (stops-then rest u whole l k) ]

-- blank lines end in a line feed
lines-stop : {blanks : Text} → BlankLines blanks → (rest : Text) → StopsOrStays rest (blanks ++ rest)
unfolding StopsOrStays Behind
lines-stop no_lines rest = inl refl
lines-stop (ends_lf {more} n d) rest = inr (stops-behind rest (more ++ rest) _ (replicate n space, append_assoc (replicate n space) (line_feed ∷ more) rest) (lines-stop d rest))
lines-stop (ends_crlf {more} n d) rest = inr (stops-behind rest (more ++ rest) _ (
  replicate n space ++ carriage_return ∷ [],
  append_assoc (replicate n space) (carriage_return ∷ line_feed ∷ more) rest ∙ sym (append_assoc (replicate n space) (carriage_return ∷ []) (line_feed ∷ (more ++ rest))),
) (lines-stop d rest))

block-stops : (s : Text) → StopsOrStays (skip_blank_block s) s
block-stops s = let b = block-at s in rw (← b.1.split) at (lines-stop b.1.lines (skip_blank_block s))

line-stops : (s : Text) → Stops (rest_of_line s).1 s
unfolding Stops Behind
line-stops s = let l = line-at s in elim l.1.ends [
  | inl ended ↦ inr (ended.0, l.1.split ∙ ap (λ z. z ++ (rest_of_line s).1) ended.1 ∙ append_assoc ended.0 (line_feed ∷ []) (rest_of_line s).1)
  | inr last ↦ inl last.0
]

-- what holds of a node that is read and what is left after it
abbrev GetsParts : {A : Type 0} → (A → Text → Type 0) → Reading A → Type 0
GetsParts P (got a rest) = P a rest
GetsParts P (refused fault) = Unit {0}

record Gets {A : Type 0} (P : A → Text → Type 0) (x : Reading A) : Type 0 where
  pub parts : GetsParts P x

gets-got : {A : Type 0} (P : A → Text → Type 0) (a : A) (rest : Text) → P a rest → Gets P (got a rest)
gets-got P a rest h = record { parts = h }

gets-refuse : {A : Type 0} (P : A → Text → Type 0) (kind : Kind) (at : Text) → Gets P (refuse kind at)
gets-refuse P kind at = record { parts = tt }

gets-if : {A : Type 0} (P : A → Text → Type 0) (b : Bool) (x y : Reading A) → (b ≡ true → Gets P x) → (b ≡ false → Gets P y) → Gets P (cond b x y)
gets-if P true x y p q = p refl
gets-if P false x y p q = q refl

gets-bind : {A B : Type 0} (P : B → Text → Type 0) (Q : A → Text → Type 0) (x : Reading A) (f : A × Text → Reading B) → Gets Q x → ((a : A) (rest : Text) → Q a rest → Gets P (f (a, rest))) → Gets P (x >>= f)
gets-bind P Q (got a rest) f h k = k a rest h.parts
gets-bind P Q (refused fault) f h k = record { parts = tt }

gets-mapped : {A B : Type 0} (P : B → Text → Type 0) (Q : A → Text → Type 0) (f : A → B) (x : Reading A) → Gets Q x → ((a : A) (rest : Text) → Q a rest → P (f a) rest) → Gets P (mapped f x)
gets-mapped P Q f (got a rest) h k = record { parts = k a rest h.parts }
gets-mapped P Q f (refused fault) h k = record { parts = tt }

gets-fair : {A : Type 0} (s : Text) (x : Reading A) → Fair x s → Gets (λ a rest. EndsIn rest s) x
gets-fair s (got a rest) h = record { parts = h.parts }
gets-fair s (refused fault) h = record { parts = tt }

-- a text piece that ends its line
Ended : Text → Text → Text → Type 0
Ended s x u = EndsIn u s × (ends_line x ≡ true → Behind u s)

text_run-ended : (s : Text) → Gets (Ended s) (text_run s)
unfolding text_run Ended Behind
text_run-ended [] = gets-got _ [] [] (end-same [], λ e. absurd cc)
text_run-ended (c ∷ cs) =
    gets-if _ (c == open_brace) _ _ (λ e. gets-got _ [] (c ∷ cs) (end-same _, λ z. absurd cc)) (λ e1.
    gets-if _ (c == close_brace) _ _ (λ e. gets-refuse _ _ _) (λ e2.
    gets-if _ (c == line_feed) _ _ (λ e. gets-got _ (c ∷ []) cs (end-cons c (end-same cs), λ z. ([], ap (λ d. d ∷ cs) (eqb-true c line_feed e)))) (λ e3.
    gets-if _ (c == carriage_return && begins_with line_feed cs) _ _ (λ e. gets-got _ [] (c ∷ cs) (end-same _, λ z. absurd cc)) (λ e4.
    gets-mapped _ (Ended cs) _ _ (text_run-ended cs) (λ x u q. (end-cons c q.0, longer x u q.1 e3))))))
  where
    longer : (x u : Text) → (ends_line x ≡ true → (line : Text) × (cs ≡ line ++ line_feed ∷ u)) → (c == line_feed) ≡ false → ends_line (c ∷ x) ≡ true → (line : Text) × (c ∷ cs ≡ line ++ line_feed ∷ u)
    longer [] u q e h = absurd cc
    longer (d ∷ ds) u q e h = let b = q h in (c ∷ b.0, ap (λ z. c ∷ z) b.1)

record StopReaders (inside : Readers) : Type 0 where
  pub line : (s : Text) → Gets (λ ps rest. StopsOrStays rest s) (inside.line s)
  pub pieces : (s : Text) → Gets (λ ps rest. Stops rest s) (inside.pieces s)

gets-in : {A : Type 0} (u s : Text) (x : Reading A) → EndsIn u s → Gets (λ a rest. Stops rest u) x → Gets (λ a rest. Stops rest s) x
gets-in u s (got a rest) h p = record { parts = stops-in rest u s h p.parts }
gets-in u s (refused fault) h p = record { parts = tt }

drop_two-behind : (s : Text) → begins_crlf s ≡ true → Behind (drop 2 s) s
unfolding Behind
drop_two-behind [] e = absurd cc
drop_two-behind (c ∷ []) e = absurd (no_end (c == carriage_return) e)
  where
    no_end : (b : Bool) → (b && false) ≡ true → ⊥
    no_end true e = absurd cc
    no_end false e = absurd cc
drop_two-behind (c ∷ d ∷ ds) e = (c ∷ [], ap (λ z. c ∷ z ∷ ds) (eqb-true d line_feed (and-right (c == carriage_return) _ e)))

module _ (inside : Readers) (fair : FairReaders inside) (stop : StopReaders inside) where
  placeable_piece-stops : (z : Bool) (s : Text) → Gets (λ ps rest. Stops rest s) (g.placeable_piece_at inside z s)
  unfolding g.placeable_piece_at
  placeable_piece-stops z s = gets-bind _ (λ e u. EndsIn u s) _ _ (gets-fair s _ (placeable-fair inside fair (end-same s)))
      (λ e u h. gets-mapped _ (λ ps rest. Stops rest u) _ _ (stop.pieces u) (λ ps rest k. stops-in rest u s h k))

  after_text-stops : (b : Bool) (x u s : Text) → ends_line x ≡ b → Ended s x u → Gets (λ ps rest. Stops rest s) (g.after_text_at inside b u)
  unfolding g.after_text_at Ended
  after_text-stops true x u s e q = gets-behind (inside.line u) (stop.line u)
    where
      gets-behind : (x : Reading (List Piece)) → Gets (λ ps rest. StopsOrStays rest u) x → Gets (λ ps rest. Stops rest s) x
      gets-behind (got ps rest) p = record { parts = stops-behind rest u s (q.1 e) p.parts }
      gets-behind (refused fault) p = record { parts = tt }
  after_text-stops false x u s e q = gets-in u s _ q.0 (stop.pieces u)

  text_piece-stops : (piece : Text → Piece) (s : Text) → Gets (λ ps rest. Stops rest s) (g.text_piece_at inside piece s)
  unfolding g.text_piece_at
  text_piece-stops piece s = gets-bind _ (Ended s) _ _ (text_run-ended s)
      (λ x u q. gets-mapped _ (λ ps rest. Stops rest s) _ _ (after_text-stops (ends_line x) x u s refl q) (λ ps rest k. k))

  pieces-stops : (s : Text) → Gets (λ ps rest. Stops rest s) (g.pieces_at inside s)
  unfolding g.pieces_at Stops
  pieces-stops s = gets-if _ (length s == 0) _ _ (λ e. gets-got _ [] [] (inl refl)) (λ e1.
      gets-if _ (begins_with open_brace s) _ _ (λ e. placeable_piece-stops false s) (λ e2.
      gets-if _ (begins_crlf s) _ _ (λ e. gets-mapped _ (λ ps rest. StopsOrStays rest (drop 2 s)) _ _ (stop.line (drop 2 s)) (λ ps rest k. stops-behind rest (drop 2 s) s (drop_two-behind s e) k)) (λ e3.
      text_piece-stops _ s)))

  stays : (u s : Text) (x : Reading (List Piece)) → EndsIn u s → Gets (λ ps rest. Stops rest u) x → Gets (λ ps rest. StopsOrStays rest s) x
  unfolding StopsOrStays
  stays u s (got ps rest) h p = record { parts = inr (stops-in rest u s h p.parts) }
  stays u s (refused fault) h p = record { parts = tt }

  line-stays : (s : Text) → Gets (λ ps rest. StopsOrStays rest s) (g.line_at inside s)
  unfolding g.line_at Stops StopsOrStays
  line-stays s =
      let h : EndsIn (skip_spaces s) s = end-spaces (end-same s) in
      gets-if _ (length (skip_spaces s) == 0) _ _ (λ e. gets-got _ [] [] (inr (inl refl))) (λ e1.
      gets-if _ (pattern_ends s) _ _ (λ e. gets-got _ [] s (inl refl)) (λ e2.
      gets-if _ (begins_with open_brace (skip_spaces s)) _ _ (λ e. stays (skip_spaces s) s _ h (placeable_piece-stops _ (skip_spaces s))) (λ e3.
      gets-if _ (begins_crlf (skip_spaces s)) _ _ (λ e. stays (skip_spaces s) s _ h (pieces-stops (skip_spaces s))) (λ e4.
      stays (skip_spaces s) s _ h (text_piece-stops _ (skip_spaces s))))))

readers-stop : (n : ℕ) → StopReaders (readers n)
readers-stop zero = record { line = λ s. gets-refuse _ _ _; pieces = λ s. gets-refuse _ _ _ }
readers-stop (suc n) = record { line = λ s. line-stays (readers n) (readers-fair n) (readers-stop n) s; pieces = λ s. pieces-stops (readers n) (readers-fair n) (readers-stop n) s }

at_lf : (s : Text) → begins_with line_feed s ≡ true → Behind (drop 1 s) s
unfolding Behind
at_lf [] e = absurd cc
at_lf (c ∷ cs) e = ([], ap (λ z. z ∷ cs) (eqb-true c line_feed e))

-- a line end ends in a line feed
MaybeBehind : Option Text → Text → Type 0
MaybeBehind None s = Unit {0}
MaybeBehind (Some rest) s = Behind rest s

line_end-behind : (s : Text) → MaybeBehind (after_line_end s) s
unfolding MaybeBehind
line_end-behind s = by_lf (begins_with line_feed s) refl (begins_crlf s) refl
  where
    by_lf : (b : Bool) → begins_with line_feed s ≡ b → (d : Bool) → begins_crlf s ≡ d → MaybeBehind (cond b (Some (drop 1 s)) (cond d (Some (drop 2 s)) None)) s
    by_lf true e d k = at_lf s e
    by_lf false e true k = drop_two-behind s k
    by_lf false e false k = tt

first_pieces-stop : (n : ℕ) (s : Text) (o : Option Text) → MaybeBehind o s → Gets (λ ps rest. Stops rest s) (g.first_pieces_at (readers n) s o)
unfolding g.first_pieces_at MaybeBehind
first_pieces-stop n s None h = pieces-stops (readers n) (readers-fair n) (readers-stop n) s
first_pieces-stop n s (Some u) h = gets-behind _ (line-stays (readers n) (readers-fair n) (readers-stop n) (skip_blank_block u))
  where
    gets-behind : (x : Reading (List Piece)) → Gets (λ ps rest. StopsOrStays rest (skip_blank_block u)) x → Gets (λ ps rest. Stops rest s) x
    gets-behind (got ps rest) p = record { parts = stops-behind rest u s h (stays-then rest (skip_blank_block u) u (block-stops u) p.parts) }
    gets-behind (refused fault) p = record { parts = tt }

pattern-stops : (n : ℕ) (s : Text) → Gets (λ es rest. Stops rest s) (g.pattern_at (readers n) s)
unfolding g.pattern_at
pattern-stops n s = gets-mapped _ (λ ps rest. Stops rest (skip_spaces s)) _ _ (first_pieces-stop n (skip_spaces s) _ (line_end-behind (skip_spaces s)))
    (λ ps rest k. stops-in rest (skip_spaces s) s (end-spaces (end-same s)) k)

attribute_of-stops : (id : Text) (value : t.Elements) (u s : Text) → Stops u s → Gets (λ a rest. Stops rest s) (g.attribute_of id value u)
attribute_of-stops id t.no_elements u s h = gets-refuse _ _ _
attribute_of-stops id (t.text x es) u s h = gets-got _ _ _ h
attribute_of-stops id (t.placeable x es) u s h = gets-got _ _ _ h

attribute-stops : (s : Text) → Gets (λ a rest. Stops rest s) (g.attribute_at s)
unfolding g.attribute_at
attribute-stops s = gets-bind _ (λ id u. EndsIn u s) _ _ (gets-fair s _ (identifier-fair (end-drop 1 (end-spaces (end-same s)))))
    (λ id u h. let v = skip_spaces u in
    gets-if _ (begins_with equals v) _ _
    (λ e. gets-bind _ (λ value w. Stops w s) _ _ (gets-in (drop 1 v) s _ (end-drop 1 (end-spaces h)) (pattern-stops (suc (length v)) (drop 1 v)))
    (λ value w k. attribute_of-stops id value w s k))
    (λ e. gets-refuse _ _ _))

more_attributes-stays : (left : Text → List t.Attribute × Text) (s : Text) (x : Reading t.Attribute) → ((u : Text) → StopsOrStays (left u).1 u) → Gets (λ a rest. Stops rest s) x → StopsOrStays (g.more_attributes left s x).1 s
unfolding StopsOrStays
more_attributes-stays left s (refused fault) again h = inl refl
more_attributes-stays left s (got a rest) again h = inr (stops-then (left rest).1 rest s h.parts (again rest))

attributes-stay : (n : ℕ) (s : Text) → StopsOrStays (g.attributes_at n s).1 s
unfolding g.attributes_at StopsOrStays
attributes-stay zero s = inl refl
attributes-stay (suc n) s = cases (begins_with dot (skip_spaces s))
    (λ e. rw e (more_attributes-stays (g.attributes_at n) s (g.attribute_at s) (λ u. attributes-stay n u) (attribute-stops s)))
    (λ e. rw e (inl refl))

head-stops : (s : Text) → Gets (λ h rest. Stops rest s) (g.head_at s)
unfolding g.head_at
head-stops s = gets-bind _ (λ id u. EndsIn u s) _ _ (gets-fair s _ (identifier-fair (end-same s)))
    (λ id u h. let v = skip_spaces u in
    gets-if _ (begins_with equals v) _ _
    (λ e. gets-mapped _ (λ value w. Stops w s) _ _ (gets-in (drop 1 v) s _ (end-drop 1 (end-spaces h)) (pattern-stops (suc (length v)) (drop 1 v))) (λ value w k. k))
    (λ e. gets-refuse _ _ _))

behind_head-stops : (u s : Text) → Stops u s → Stops (g.attributes_at (length (skip_blank_block u)) (skip_blank_block u)).1 s
behind_head-stops u s h = stops-then _ u s h (stays-then _ (skip_blank_block u) u (block-stops u) (attributes-stay (length (skip_blank_block u)) (skip_blank_block u)))

message_of-stops : (id : Text) (value : Option t.Elements) (attributes : List t.Attribute) (u s : Text) → Stops u s → Gets (λ e rest. Stops rest s) (g.message_of id value attributes u)
message_of-stops id None [] u s h = gets-refuse _ _ _
message_of-stops id None (a ∷ more) u s h = gets-got _ _ _ h
message_of-stops id (Some v) attributes u s h = gets-got _ _ _ h

term_of-stops : (id : Text) (value : Option t.Elements) (attributes : List t.Attribute) (u s : Text) → Stops u s → Gets (λ e rest. Stops rest s) (g.term_of id value attributes u)
term_of-stops id None attributes u s h = gets-refuse _ _ _
term_of-stops id (Some v) attributes u s h = gets-got _ _ _ h

message-stops : (s : Text) → Gets (λ e rest. Stops rest s) (g.message_at s)
unfolding g.message_at
message-stops s = gets-bind _ (λ h u. Stops u s) _ _ (head-stops s) (λ h u k. message_of-stops _ _ _ _ s (behind_head-stops u s k))

term-stops : (s : Text) → Gets (λ e rest. Stops rest s) (g.term_entry_at s)
unfolding g.term_entry_at
term-stops s = gets-bind _ (λ h u. Stops u s) _ _ (gets-in (drop 1 s) s _ (end-drop 1 (end-same s)) (head-stops (drop 1 s))) (λ h u k. term_of-stops _ _ _ _ s (behind_head-stops u s k))

comment_line-stops : (s : Text) → Gets (λ line rest. Stops rest s) (g.comment_line_at s)
unfolding g.comment_line_at Stops
comment_line-stops s = gets-if _ (length s == 0) _ _ (λ e. gets-got _ [] [] (inl refl)) (λ e1.
    gets-if _ (is_some (after_line_end s)) _ _ (λ e. gets-got _ _ _ (line-stops s)) (λ e2.
    gets-if _ (begins_with space s) _ _ (λ e. gets-got _ _ _ (stops-in (rest_of_line (drop 1 s)).1 (drop 1 s) s (end-drop 1 (end-same s)) (line-stops (drop 1 s)))) (λ e3. gets-refuse _ _ _)))

more_lines-stays : (left : Text → List Text × Text) (s : Text) (x : Reading (List Text)) → ((u : Text) → StopsOrStays (left u).1 u) → Gets (λ line rest. Stops rest s) x → StopsOrStays (g.more_lines left s x).1 s
unfolding StopsOrStays
more_lines-stays left s (refused fault) again h = inl refl
more_lines-stays left s (got line rest) again h = inr (stops-then (left rest).1 rest s h.parts (again rest))

comment_lines-stay : (n level : ℕ) (s : Text) → StopsOrStays (g.comment_lines n level s).1 s
unfolding g.comment_lines StopsOrStays
comment_lines-stay zero level s = inl refl
comment_lines-stay (suc n) level s = cases (comment_level s == level)
    (λ e. rw e (more_lines-stays (g.comment_lines n level) s (g.comment_line_at (drop level s)) (λ u. comment_lines-stay n level u)
    (gets-in (drop level s) s _ (end-drop level (end-same s)) (comment_line-stops (drop level s)))))
    (λ e. rw e (inl refl))

comment-stops : (s : Text) → Gets (λ e rest. Stops rest s) (g.comment_at s)
unfolding g.comment_at
comment-stops s = gets-bind _ (λ line u. Stops u s) _ _ (gets-in (drop (comment_level s) s) s _ (end-drop (comment_level s) (end-same s)) (comment_line-stops (drop (comment_level s) s)))
    (λ line u k. gets-got _ _ _ (stops-then _ u s k (comment_lines-stay (length s) (comment_level s) u)))

entry-stops : (s : Text) → Gets (λ e rest. Stops rest s) (g.entry_at s)
unfolding g.entry_at
entry-stops s = gets-if _ (begins_with number_sign s) _ _ (λ e. comment-stops s) (λ e. gets-if _ (begins_with hyphen s) _ _ (λ k. term-stops s) (λ k. message-stops s))

-- Each part begins at column 0, or is empty.
abbrev Columns : Text → List Part → Type 0
Columns front [] = Unit {0}
Columns front (part ∷ ps) = ((text_of_part part ≡ []) ⊎ IsColumnZero front) × Columns (front ++ text_of_part part) ps

column-after : (start front rest whole : Text) → whole ≡ front ++ rest → StopsOrStays rest whole → (whole ≡ []) ⊎ IsColumnZero start → (rest ≡ []) ⊎ IsColumnZero (start ++ front)
unfolding StopsOrStays Stops Behind
column-after start front rest whole w (inl same) here =
    let none : front ≡ [] = append_cancel_right front [] rest (sym w ∙ sym same) in
    rw (none, append-nil start, same) here
column-after start front rest whole w (inr (inl none)) here = inl none
column-after start front rest whole w (inr (inr line)) here =
    let ended : front ≡ line.0 ++ (line_feed ∷ []) = append_cancel_right front (line.0 ++ (line_feed ∷ [])) rest (sym w ∙ line.1 ∙ sym (append_assoc line.0 (line_feed ∷ []) rest)) in
    inr (inr (start ++ line.0, ap (λ z. start ++ z) ended ∙ sym (append_assoc start line.0 (line_feed ∷ []))))

first-empty : (front rest whole start : Text) → whole ≡ front ++ rest → (whole ≡ []) ⊎ IsColumnZero start → (front ≡ []) ⊎ IsColumnZero start
first-empty [] rest whole start w here = inl refl
first-empty (c ∷ cs) rest whole start w here = elim here [ inl e ↦ absurd cc | inr column ↦ inr column ]

junk-stays : (text place rest : Text) → EndsJunk text place rest → StopsOrStays rest text
unfolding StopsOrStays Stops Behind
junk-stays text place rest j = elim j.stops [
  | inl none ↦ inr (inl none)
  | inr m ↦ elim m.column_zero [
    | inl start ↦ inl (sym (m.whole ∙ ap (λ z. z ++ rest) start))
    | inr line ↦ inr (inr (line.0, m.whole ∙ ap (λ z. z ++ rest) line.1 ∙ append_assoc line.0 (line_feed ∷ []) rest))
  ]
]

line_left-stays : (front text rest : Text) → Line front text rest → StopsOrStays rest text
unfolding StopsOrStays Stops Behind
line_left-stays front text rest l = elim l.ends [
  | inl ended ↦ inr (inr (ended.0, l.split ∙ ap (λ z. z ++ rest) ended.1 ∙ append_assoc ended.0 (line_feed ∷ []) rest))
  | inr last ↦ inr (inl last.0)
]

entry-stays : (text rest : Text) (e : t.Entry) → SpellsEntry e text rest → StopsOrStays rest text
unfolding StopsOrStays
entry-stays text rest e spelled = inr (rw ((entries_agree text e rest).1 spelled) at (entry-stops text)).parts

block-stays : (blanks text rest : Text) → BlankBlock blanks text rest → StopsOrStays rest text
block-stays blanks text rest b = rw b.split (lines-stop b.lines rest)

mutual
  tiles-columns : (mode : Mode) {ps : List Part} {s : Text} → Tiles mode ps s → (start : Text) → (s ≡ []) ⊎ IsColumnZero start → Columns start ps
  tiles-columns mode (blank_first {text} {blanks} {rest} b d) start here =
      (first-empty blanks rest text start b.split here, items-columns mode d (start ++ blanks) (column-after start blanks rest text b.split (block-stays blanks text rest b) here))

  items-columns : (mode : Mode) {ps : List Part} {s : Text} → TilesItems mode ps s → (start : Text) → (s ≡ []) ⊎ IsColumnZero start → Columns start ps
  items-columns mode source_ends start here = tt
  items-columns mode (an_entry {text} {front} {rest} {e} p spelled w d) start here =
      (first-empty front rest text start w here, tiles-columns mode d (start ++ front) (column-after start front rest text w (entry-stays text rest e spelled) here))
  items-columns mode (some_junk {text} {front} {rest} {fault} p some read at ends w d) start here =
      (first-empty front rest text start w here, tiles-columns mode d (start ++ front) (column-after start front rest text w (junk-stays text fault.at rest ends) here))
  items-columns mode (a_line {text} {front} {rest} p l d) start here =
      (first-empty front rest text start l.split here, tiles-columns mode d (start ++ front) (column-after start front rest text l.split (line_left-stays front text rest l) here))

columns-at : (start : Text) (before : List Part) (part : Part) (behind : List Part) → Columns start (before ++ part ∷ behind) → (text_of_part part ≡ []) ⊎ IsColumnZero (start ++ text_of before)
columns-at start [] part behind c = rw (append-nil start) c.0
columns-at start (first ∷ before) part behind c = rw (← append_assoc start (text_of_part first) (text_of before)) (columns-at (start ++ text_of_part first) before part behind c.1)

pub parts_begin_at_column_zero : PartsBeginAtColumnZero
parts_begin_at_column_zero mode source before part behind d some = elim (columns-at [] before part behind (tiles-columns mode d [] (inr (inl refl)))) [
  | inl none ↦ absurd (some none)
  | inr column ↦ column
]
