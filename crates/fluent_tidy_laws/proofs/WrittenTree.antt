-- A tree of well-formed entries is canonical: what is written of it is tiled by its entries.
use Rattle.std.proofs.Common.{◌≡◌, ℕ, ◌-◌, ◌*◌, Bool, true, false, not, List, [], ◌∷◌, ◌++◌, length, Option, Some, None, refl, sym, ap, ◌∙◌, arith, append_assoc, replicate}
use Rattle.std.specs.Prelude.{◌==◌, ◌≢◌}
use Rattle.fluent_grammar.specs.Words.{Text, line_feed, space, number_sign, asterisk, begins, begins_with, begins_entry}
use Rattle.fluent_grammar.specs.Tree as t
use Rattle.fluent_grammar.specs.Blanks.{BlankLines, no_lines, ends_lf}
use Rattle.fluent_grammar.specs.Spelling.{SpellsEntry, a_comment, a_group_comment, a_resource_comment}
use Rattle.fluent_grammar.specs.Tiling.{tree, errors, entries_of}
use Rattle.fluent_grammar.specs.Tiles.{full, Part, blank_block, entry, Tiles, blank_first, TilesItems, source_ends, an_entry, some_junk, a_line, pieces_of}
use Rattle.fluent_grammar.specs.Written.{Sign, sign, default_mark, ends_line, indent_before, laid_out, new_line, comment_signs, own_comment_signs, message_signs, term_signs, entries_signs}
use Rattle.fluent_grammar.proofs.TilesPieces.{tiling_gives_tree_and_errors}
use Rattle.fluent_tidy_laws.specs.WellFormed.{WellFormedComment, WellFormedOwn, WellFormedEntry, WellFormedTree}
use Rattle.fluent_tidy_laws.specs.NormalLaws.{WellFormedIsCanonical}
use Rattle.fluent_tidy_laws.proofs.MovingEntries.{Stops, stops_empty, stops_here, entry-some, IsListed}
use Rattle.fluent_tidy_laws.proofs.MovingComments.{entry-front}
use Rattle.fluent_tidy_laws.proofs.Clean.{has_junk, errors-none, stops-no_end, alike-is}
use Rattle.fluent_tidy_laws.proofs.WrittenMessages.{bare_message_signs, bare_term_signs, message-signs-are, term-signs-are, own-well_formed, message-first, message-no_sign, message-start, bare-message-written, bare-term-written, spelled-at}
use Rattle.fluent_tidy_laws.proofs.WrittenComments.{Marks, one_mark, two_marks, three_marks, comment-written, comment-first, comment-start}
use Rattle.fluent_tidy_laws.proofs.WrittenGaps.{entry-gap}

-- ---- what is laid out

feed-first : (b : Bool) (behind : List Sign) → laid_out b (new_line ∷ behind) ≡ line_feed ∷ laid_out true behind
feed-first true behind = refl
feed-first false behind = refl

-- signs up to a line feed, and what is laid out after them
laid-feed : (b : Bool) (signs behind : List Sign) → laid_out b (signs ++ new_line ∷ behind) ≡ laid_out b (signs ++ new_line ∷ []) ++ laid_out true behind
laid-feed b [] behind = feed-first b behind ∙ ap (λ z. z ++ laid_out true behind) (sym (feed-first b []))
laid-feed b (sign level s ∷ more) behind =
    ap (λ z. indent_before b level s ++ (s ++ z)) (laid-feed (ends_line b s) more behind)
    ∙ ap (λ z. indent_before b level s ++ z) (sym (append_assoc s _ (laid_out true behind)))
    ∙ sym (append_assoc (indent_before b level s) _ (laid_out true behind))
laid-feed b (default_mark level ∷ more) behind =
    ap (λ z. replicate (4 * level - 1) space ++ (asterisk ∷ z)) (laid-feed false more behind)
    ∙ sym (append_assoc (replicate (4 * level - 1) space) (asterisk ∷ laid_out false (more ++ new_line ∷ [])) (laid_out true behind))

-- ---- entries that are written, and tiled

abbrev signs_of : List t.Entry → List Sign
signs_of es = entries_signs false false es

-- the same after another entry
abbrev signs_behind : List t.Entry → List Sign
signs_behind es = entries_signs false true es

-- A text that is tiled by entries alone, which are its tree.
record Whole (s : Text) (es : List t.Entry) : Type 0 where
  parts : List Part
  tiles : TilesItems full parts s
  no_junk : has_junk parts ≡ false
  tells : (at : ℕ) (apart : Bool) → entries_of None (pieces_of full at apart parts) ≡ es
  stops : Stops s
  some : es ≢ [] → s ≢ []

-- directly after an entry
tiled-behind : {parts : List Part} {s : Text} → TilesItems full parts s → Stops s → Tiles full (blank_block [] ∷ parts) s
tiled-behind d h = blank_first (record { split = refl; lines = no_lines; longest = stops-no_end h }) d

-- after blank lines
tiled-apart : {parts : List Part} {blanks s u : Text} → u ≡ blanks ++ s → BlankLines blanks → TilesItems full parts s → Stops s → Tiles full (blank_block blanks ∷ parts) u
tiled-apart e l d h = blank_first (record { split = e; lines = l; longest = stops-no_end h }) d

-- A comment that waits is alone where a blank line stands before what follows.
held-alone : {parts : List Part} {s : Text} → TilesItems full parts s → (lines : List Text) (at : ℕ) → entries_of (Some lines) (pieces_of full at true parts) ≡ t.comment lines ∷ entries_of None (pieces_of full at true parts)
held-alone source_ends lines at = refl
held-alone (an_entry {e = t.message m} p d w more) lines at = refl
held-alone (an_entry {e = t.term m} p d w more) lines at = refl
held-alone (an_entry {e = t.comment c} p d w more) lines at = refl
held-alone (an_entry {e = t.group_comment c} p d w more) lines at = refl
held-alone (an_entry {e = t.resource_comment c} p d w more) lines at = refl
held-alone (an_entry {e = t.junk s} p d w more) lines at = refl
held-alone (some_junk p some read at ends w more) lines x = refl
held-alone (a_line p l more) lines at = absurd cc

-- ---- messages and terms

-- before the line feed of a comment that follows
listed-gap : {e : t.Entry} (signs behind : List Sign) → IsListed e → laid_out true behind ≢ [] → SpellsEntry e (laid_out true (signs ++ new_line ∷ behind)) (laid_out true behind) →
    SpellsEntry e (laid_out true (signs ++ new_line ∷ new_line ∷ behind)) (laid_out true behind)
listed-gap signs behind l some d =
    let g = entry-gap d l some in
    let k : g.0 ≡ laid_out true (signs ++ new_line ∷ []) ++ (line_feed ∷ laid_out true behind) = alike-is (laid_out true (signs ++ new_line ∷ [])) g.1 (laid-feed true signs behind) in
    spelled-at (laid-feed true signs (new_line ∷ behind) ∙ sym k) g.2

listed-behind : {e : t.Entry} (signs : List Sign) (es : List t.Entry) → WellFormedTree es → Whole (laid_out true (signs_of es)) es → IsListed e →
    SpellsEntry e (laid_out true (signs ++ new_line ∷ signs_of es)) (laid_out true (signs_of es)) → SpellsEntry e (laid_out true (signs ++ new_line ∷ signs_behind es)) (laid_out true (signs_of es))
listed-behind signs [] f w l d = d
listed-behind signs (t.message m ∷ es) f w l d = d
listed-behind signs (t.term m ∷ es) f w l d = d
listed-behind signs (t.comment c ∷ es) f w l d = listed-gap signs (signs_of (t.comment c ∷ es)) l (w.some (λ h. absurd cc)) d
listed-behind signs (t.group_comment c ∷ es) f w l d = listed-gap signs (signs_of (t.group_comment c ∷ es)) l (w.some (λ h. absurd cc)) d
listed-behind signs (t.resource_comment c ∷ es) f w l d = listed-gap signs (signs_of (t.resource_comment c ∷ es)) l (w.some (λ h. absurd cc)) d
listed-behind signs (t.junk s ∷ es) f w l d = absurd f.0

-- a message or a term without its comment, at the start of a line
record Bare (e : t.Entry) (signs : List Sign) (es : List t.Entry) : Type 0 where
  spells : SpellsEntry e (laid_out true (signs ++ new_line ∷ signs_behind es)) (laid_out true (signs_of es))
  no_sign : begins_with number_sign (laid_out true (signs ++ new_line ∷ signs_behind es)) ≡ false
  first : begins begins_entry (laid_out true (signs ++ new_line ∷ signs_behind es)) ≡ true

bare-message : (m : t.Message) (es : List t.Entry) → WellFormedEntry (t.message m) → WellFormedTree es → Whole (laid_out true (signs_of es)) es → Bare (t.message (record m { comment = None })) (bare_message_signs m) es
bare-message m es f g w = record {
  spells = listed-behind (bare_message_signs m) es g w tt (bare-message-written m (signs_of es) f w.stops);
  no_sign = message-no_sign m (signs_behind es) f.0;
  first = message-first m (signs_behind es) f.0;
}

bare-term : (m : t.Term) (es : List t.Entry) → WellFormedEntry (t.term m) → WellFormedTree es → Whole (laid_out true (signs_of es)) es → Bare (t.term (record m { comment = None })) (bare_term_signs m) es
bare-term m es f g w = record {
  spells = listed-behind (bare_term_signs m) es g w tt (bare-term-written m (signs_of es) f w.stops);
  no_sign = refl;
  first = refl;
}

-- ---- entries before others

same-message : (m : t.Message) (c : Option (List Text)) → m.comment ≡ c → t.message (record m { comment = c }) ≡ t.message m
same-message m c h = ap (λ z. t.message (record m { comment = z })) (sym h)

same-term : (m : t.Term) (c : Option (List Text)) → m.comment ≡ c → t.term (record m { comment = c }) ≡ t.term m
same-term m c h = ap (λ z. t.term (record m { comment = z })) (sym h)

cons-same : (e d : t.Entry) (es fs : List t.Entry) → e ≡ d → es ≡ fs → e ∷ es ≡ d ∷ fs
cons-same e d es fs h k = rw (h, k) refl

-- without a comment of its own
message-whole : (m : t.Message) (es : List t.Entry) → m.comment ≡ None → Bare (t.message (record m { comment = None })) (bare_message_signs m) es → Whole (laid_out true (signs_of es)) es →
    Whole (laid_out true (bare_message_signs m ++ new_line ∷ signs_behind es)) (t.message m ∷ es)
message-whole m es c b w =
    let f = entry-front b.spells in
    record {
      parts = entry f.front (t.message (record m { comment = None })) ∷ blank_block [] ∷ w.parts;
      tiles = an_entry refl b.spells f.whole (tiled-behind w.tiles w.stops);
      no_junk = w.no_junk;
      tells = told;
      stops = stops_here b.first;
      some = λ k. entry-some _ b.first;
    }
  where
    told : (at : ℕ) (apart : Bool) → entries_of None (pieces_of full at apart (entry (entry-front b.spells).front (t.message (record m { comment = None })) ∷ blank_block [] ∷ w.parts)) ≡ t.message m ∷ es
    told at true = cons-same _ _ _ _ (same-message m None c) (w.tells _ _)
    told at false = cons-same _ _ _ _ (same-message m None c) (w.tells _ _)

term-whole : (m : t.Term) (es : List t.Entry) → m.comment ≡ None → Bare (t.term (record m { comment = None })) (bare_term_signs m) es → Whole (laid_out true (signs_of es)) es →
    Whole (laid_out true (bare_term_signs m ++ new_line ∷ signs_behind es)) (t.term m ∷ es)
term-whole m es c b w =
    let f = entry-front b.spells in
    record {
      parts = entry f.front (t.term (record m { comment = None })) ∷ blank_block [] ∷ w.parts;
      tiles = an_entry refl b.spells f.whole (tiled-behind w.tiles w.stops);
      no_junk = w.no_junk;
      tells = told;
      stops = stops_here b.first;
      some = λ k. entry-some _ b.first;
    }
  where
    told : (at : ℕ) (apart : Bool) → entries_of None (pieces_of full at apart (entry (entry-front b.spells).front (t.term (record m { comment = None })) ∷ blank_block [] ∷ w.parts)) ≡ t.term m ∷ es
    told at true = cons-same _ _ _ _ (same-term m None c) (w.tells _ _)
    told at false = cons-same _ _ _ _ (same-term m None c) (w.tells _ _)

-- with a comment of its own
abbrev own_parts : List Text → Text → Text → t.Entry → List Part → List Part
own_parts lines above front e parts = entry above (t.comment lines) ∷ blank_block [] ∷ entry front e ∷ blank_block [] ∷ parts

message-own : (m : t.Message) (es : List t.Entry) (lines : List Text) → m.comment ≡ Some lines → WellFormedComment lines → Bare (t.message (record m { comment = None })) (bare_message_signs m) es →
    Whole (laid_out true (signs_of es)) es → Whole (laid_out true (comment_signs (number_sign ∷ []) lines ++ (bare_message_signs m ++ new_line ∷ signs_behind es))) (t.message m ∷ es)
message-own m es lines c f b w =
    let d = a_comment (comment-written 0 (number_sign ∷ []) one_mark lines (bare_message_signs m ++ new_line ∷ signs_behind es) f b.no_sign) in
    let first = comment-first 0 (number_sign ∷ []) one_mark lines (bare_message_signs m ++ new_line ∷ signs_behind es) f in
    let above = entry-front d in
    let front = entry-front b.spells in
    record {
      parts = own_parts lines above.front front.front (t.message (record m { comment = None })) w.parts;
      tiles = an_entry refl d above.whole (tiled-behind (an_entry refl b.spells front.whole (tiled-behind w.tiles w.stops)) (stops_here b.first));
      no_junk = w.no_junk;
      tells = λ at apart. cons-same _ _ _ _ (same-message m (Some lines) c) (w.tells _ _);
      stops = stops_here first;
      some = λ k. entry-some _ first;
    }

term-own : (m : t.Term) (es : List t.Entry) (lines : List Text) → m.comment ≡ Some lines → WellFormedComment lines → Bare (t.term (record m { comment = None })) (bare_term_signs m) es →
    Whole (laid_out true (signs_of es)) es → Whole (laid_out true (comment_signs (number_sign ∷ []) lines ++ (bare_term_signs m ++ new_line ∷ signs_behind es))) (t.term m ∷ es)
term-own m es lines c f b w =
    let d = a_comment (comment-written 0 (number_sign ∷ []) one_mark lines (bare_term_signs m ++ new_line ∷ signs_behind es) f b.no_sign) in
    let first = comment-first 0 (number_sign ∷ []) one_mark lines (bare_term_signs m ++ new_line ∷ signs_behind es) f in
    let above = entry-front d in
    let front = entry-front b.spells in
    record {
      parts = own_parts lines above.front front.front (t.term (record m { comment = None })) w.parts;
      tiles = an_entry refl d above.whole (tiled-behind (an_entry refl b.spells front.whole (tiled-behind w.tiles w.stops)) (stops_here b.first));
      no_junk = w.no_junk;
      tells = λ at apart. cons-same _ _ _ _ (same-term m (Some lines) c) (w.tells _ _);
      stops = stops_here first;
      some = λ k. entry-some _ first;
    }

-- ---- comments that stand by themselves

-- the line feed before a comment, after another entry
record Gap (es : List t.Entry) : Type 0 where
  blanks : Text
  lines : BlankLines blanks
  split : laid_out true (signs_behind es) ≡ blanks ++ laid_out true (signs_of es)

no-gap : (es : List t.Entry) → laid_out true (signs_behind es) ≡ laid_out true (signs_of es) → Gap es
no-gap es h = record { blanks = []; lines = no_lines; split = h }

one-gap : (es : List t.Entry) → laid_out true (signs_behind es) ≡ line_feed ∷ laid_out true (signs_of es) → Gap es
one-gap es h = record { blanks = line_feed ∷ []; lines = ends_lf 0 no_lines; split = h }

gap-of : (es : List t.Entry) → Gap es
gap-of [] = no-gap [] refl
gap-of (t.message m ∷ es) = no-gap (t.message m ∷ es) refl
gap-of (t.term m ∷ es) = no-gap (t.term m ∷ es) refl
gap-of (t.comment c ∷ es) = one-gap (t.comment c ∷ es) refl
gap-of (t.group_comment c ∷ es) = one-gap (t.group_comment c ∷ es) refl
gap-of (t.resource_comment c ∷ es) = one-gap (t.resource_comment c ∷ es) refl
gap-of (t.junk s ∷ es) = no-gap (t.junk s ∷ es) refl

-- what is laid out of a comment and the entries after it
abbrev comment_before : Text → List Text → List t.Entry → List Sign
comment_before marks lines es = comment_signs marks lines ++ new_line ∷ signs_behind es

comment-laid : (marks : Text) (lines : List Text) (es : List t.Entry) → (comment_signs marks lines ++ new_line ∷ []) ++ signs_behind es ≡ comment_before marks lines es
comment-laid marks lines es = append_assoc (comment_signs marks lines) (new_line ∷ []) (signs_behind es)

no-zero : (blanks : Text) → not (length (line_feed ∷ blanks) == 0) ≡ true
no-zero blanks = let e : (length (line_feed ∷ blanks) == 0) ≡ false = grind arith in rw e refl

-- an entry that is a comment, before blank lines
comment-whole : {e : t.Entry} (k : ℕ) (marks : Text) (m : Marks k marks) (lines : List Text) (es : List t.Entry) → WellFormedComment lines →
    SpellsEntry e (laid_out true (comment_before marks lines es)) (line_feed ∷ laid_out true (signs_behind es)) → (w : Whole (laid_out true (signs_of es)) es) →
    ((at : ℕ) (apart : Bool) (front blanks : Text) → entries_of None (pieces_of full at apart (entry front e ∷ blank_block (line_feed ∷ blanks) ∷ w.parts)) ≡ e ∷ es) →
    Whole (laid_out true (comment_before marks lines es)) (e ∷ es)
comment-whole {e} k marks m lines es f d w told =
    let front = entry-front d in
    let g = gap-of es in
    let first = comment-first k marks m lines (new_line ∷ signs_behind es) f in
    record {
      parts = entry front.front e ∷ blank_block (line_feed ∷ g.blanks) ∷ w.parts;
      tiles = an_entry refl d front.whole (tiled-apart (ap (λ z. line_feed ∷ z) g.split) (ends_lf 0 g.lines) w.tiles w.stops);
      no_junk = w.no_junk;
      tells = λ at apart. told at apart front.front g.blanks;
      stops = stops_here first;
      some = λ h. entry-some _ first;
    }

-- ---- the comment of a message or a term

start-at : {signs more : List Sign} {es : List t.Entry} → signs ≡ more → Whole (laid_out true more) es → Whole (laid_out true signs) es
start-at e w = rw e w

message-any : (m : t.Message) (es : List t.Entry) → WellFormedEntry (t.message m) → Bare (t.message (record m { comment = None })) (bare_message_signs m) es → Whole (laid_out true (signs_of es)) es →
    Whole (laid_out true (message_signs m ++ signs_behind es)) (t.message m ∷ es)
message-any m es f b w = start-at (message-signs-are m (signs_behind es)) (by-comment m.comment refl)
  where
    by-comment : (c : Option (List Text)) → m.comment ≡ c → Whole (laid_out true (own_comment_signs m.comment ++ (bare_message_signs m ++ new_line ∷ signs_behind es))) (t.message m ∷ es)
    by-comment None e = start-at (ap (λ c. own_comment_signs c ++ (bare_message_signs m ++ new_line ∷ signs_behind es)) e) (message-whole m es e b w)
    by-comment (Some lines) e = start-at (ap (λ c. own_comment_signs c ++ (bare_message_signs m ++ new_line ∷ signs_behind es)) e) (message-own m es lines e (own-well_formed m.comment lines e f.3) b w)

term-any : (m : t.Term) (es : List t.Entry) → WellFormedEntry (t.term m) → Bare (t.term (record m { comment = None })) (bare_term_signs m) es → Whole (laid_out true (signs_of es)) es →
    Whole (laid_out true (term_signs m ++ signs_behind es)) (t.term m ∷ es)
term-any m es f b w = start-at (term-signs-are m (signs_behind es)) (by-comment m.comment refl)
  where
    by-comment : (c : Option (List Text)) → m.comment ≡ c → Whole (laid_out true (own_comment_signs m.comment ++ (bare_term_signs m ++ new_line ∷ signs_behind es))) (t.term m ∷ es)
    by-comment None e = start-at (ap (λ c. own_comment_signs c ++ (bare_term_signs m ++ new_line ∷ signs_behind es)) e) (term-whole m es e b w)
    by-comment (Some lines) e = start-at (ap (λ c. own_comment_signs c ++ (bare_term_signs m ++ new_line ∷ signs_behind es)) e) (term-own m es lines e (own-well_formed m.comment lines e f.3) b w)

-- ---- all entries

entries-whole : (es : List t.Entry) → WellFormedTree es → Whole (laid_out true (signs_of es)) es
entries-whole [] f = record { parts = []; tiles = source_ends; no_junk = refl; tells = λ at apart. refl; stops = stops_empty; some = λ h. absurd (h refl) }
entries-whole (t.comment c ∷ es) f =
    let w = entries-whole es f.1 in
    start-at (comment-laid (number_sign ∷ []) c es)
    (comment-whole 0 _ one_mark c es f.0 (a_comment (comment-written 0 (number_sign ∷ []) one_mark c (new_line ∷ signs_behind es) f.0 refl)) w
    (λ at apart front blanks. rw (no-zero blanks) (held-alone w.tiles c _ ∙ ap (λ z. t.comment c ∷ z) (w.tells _ true))))
entries-whole (t.group_comment c ∷ es) f =
    let w = entries-whole es f.1 in
    start-at (comment-laid (number_sign ∷ number_sign ∷ []) c es)
    (comment-whole 1 _ two_marks c es f.0 (a_group_comment (comment-written 1 (number_sign ∷ number_sign ∷ []) two_marks c (new_line ∷ signs_behind es) f.0 refl)) w
    (λ at apart front blanks. ap (λ z. t.group_comment c ∷ z) (w.tells _ _)))
entries-whole (t.resource_comment c ∷ es) f =
    let w = entries-whole es f.1 in
    start-at (comment-laid (number_sign ∷ number_sign ∷ number_sign ∷ []) c es)
    (comment-whole 2 _ three_marks c es f.0 (a_resource_comment (comment-written 2 (number_sign ∷ number_sign ∷ number_sign ∷ []) three_marks c (new_line ∷ signs_behind es) f.0 refl)) w
    (λ at apart front blanks. ap (λ z. t.resource_comment c ∷ z) (w.tells _ _)))
entries-whole (t.message m ∷ es) f =
    let w = entries-whole es f.1 in
    message-any m es f.0 (bare-message m es f.0 f.1 w) w
entries-whole (t.term m ∷ es) f =
    let w = entries-whole es f.1 in
    term-any m es f.0 (bare-term m es f.0 f.1 w) w
entries-whole (t.junk s ∷ es) f = absurd f.0

same-signs : {signs more : List Sign} → signs ≡ more → laid_out false more ≡ laid_out true more → laid_out false signs ≡ laid_out true signs
same-signs e h = ap (laid_out false) e ∙ h ∙ ap (laid_out true) (sym e)

own-start : (c : Option (List Text)) (behind : List Sign) → WellFormedOwn c → laid_out false behind ≡ laid_out true behind → laid_out false (own_comment_signs c ++ behind) ≡ laid_out true (own_comment_signs c ++ behind)
own-start None behind f h = h
own-start (Some lines) behind f h = comment-start 0 (number_sign ∷ []) one_mark lines behind f

-- the first entry begins at the start of the text
entries-start : (es : List t.Entry) → WellFormedTree es → laid_out false (signs_of es) ≡ laid_out true (signs_of es)
entries-start [] f = refl
entries-start (t.comment c ∷ es) f = same-signs (comment-laid (number_sign ∷ []) c es) (comment-start 0 (number_sign ∷ []) one_mark c (new_line ∷ signs_behind es) f.0)
entries-start (t.group_comment c ∷ es) f = same-signs (comment-laid (number_sign ∷ number_sign ∷ []) c es) (comment-start 1 (number_sign ∷ number_sign ∷ []) two_marks c (new_line ∷ signs_behind es) f.0)
entries-start (t.resource_comment c ∷ es) f = same-signs (comment-laid (number_sign ∷ number_sign ∷ number_sign ∷ []) c es) (comment-start 2 (number_sign ∷ number_sign ∷ number_sign ∷ []) three_marks c (new_line ∷ signs_behind es) f.0)
entries-start (t.message m ∷ es) f = same-signs (message-signs-are m (signs_behind es)) (own-start m.comment (bare_message_signs m ++ new_line ∷ signs_behind es) f.0.3 (message-start m (signs_behind es) f.0.0))
entries-start (t.term m ∷ es) f = same-signs (term-signs-are m (signs_behind es)) (own-start m.comment (bare_term_signs m ++ new_line ∷ signs_behind es) f.0.3 refl)
entries-start (t.junk s ∷ es) f = absurd f.0

-- A tree of well-formed entries is canonical.
pub well_formed_trees_are_canonical : WellFormedIsCanonical
well_formed_trees_are_canonical es f =
    let w = entries-whole es f in
    let d = tiling_gives_tree_and_errors full (laid_out true (signs_of es)) (blank_block [] ∷ w.parts) (tiled-behind w.tiles w.stops) in
    let e = entries-start es f in
    record {
      no_junk = ap errors e ∙ sym d.1 ∙ errors-none w.parts full 0 false w.no_junk;
      read_back = ap tree e ∙ sym d.0 ∙ w.tells 0 false;
    }
