-- The tiling for runtime use has the messages and terms of the full one.
use Rattle.std.proofs.Common.{◌≡◌, ℕ, zero, suc, ◌+◌, ◌-◌, ◌≤◌, Bool, true, false, cond, ◌&&◌, ◌||◌, List, [], ◌∷◌, ◌++◌, length, drop, get_or, Option, Some, None, refl, sym, ap, ◌∙◌, arith, eqb-true}
use Rattle.std.specs.Prelude.{◌==◌, is_some, nat_le}
use Rattle.std.specs.List.{prefix_len}
use Rattle.std.proofs.lemmas.List.{length-drop}
use Rattle.std.proofs.lemmas.List.Sums.{prefix_len_passes, prefix_len-le-length}
use Rattle.fluent_grammar.specs.Words.{Text, line_feed, carriage_return, space, hyphen, number_sign, begins_with, begins_entry, is_letter, blank_lines, skip_blank_block, rest_of_line, comment_level, after_line_end}
use Rattle.fluent_grammar.specs.Refusal.{Kind, Refusal, Reading, got, refused, refuse, mapped, ◌>>=◌}
use Rattle.fluent_grammar.specs.Refusal as r
use Rattle.fluent_grammar.specs.Tree as t
use Rattle.fluent_grammar.specs.Reading as g
use Rattle.fluent_grammar.specs.Reading.{entry_at, comment_at, comment_line_at, comment_lines, more_lines}
use Rattle.fluent_grammar.specs.Tiling.{resume, behind_junk, at_column_zero, entries_of, errors_of, waiting, left_alone, listed}
use Rattle.fluent_grammar.specs.Tiles.{Mode, full, runtime, Part, blank_block, entry, junk, passed_over, Tiles, blank_first, TilesItems, source_ends, an_entry, some_junk, a_line, lies_apart, pieces_of}
use Rattle.fluent_grammar.specs.TilingLaws.{RuntimeHasTheSameList, RuntimeAddsNoJunk}
use Rattle.fluent_grammar.proofs.Within.{end-same}
use Rattle.fluent_grammar.specs.Spelling.{SpellsEntry}
use Rattle.fluent_grammar.specs.Recovery.{EndsJunk}
use Rattle.fluent_grammar.proofs.Cases.{cases, and-left, and-right, or-left, or-right}
use Rattle.fluent_grammar.proofs.Agreement.{entries_agree}
use Rattle.fluent_grammar.proofs.TilesRecovery.{junk-ended}
use Rattle.fluent_grammar.proofs.Tiles.{front-whole, front-blank, front-line, junk-rest}
use Rattle.fluent_grammar.proofs.Blanks.{block-skipped}
use Rattle.fluent_grammar.proofs.TilesJunk.{resume-end}
use Rattle.fluent_grammar.proofs.TilesPieces.{each_text_has_a_tiling, tiling_gives_tree_and_errors}

-- no entry begins with a byte of a blank line
line_feed-begins-none : (c : ℕ) → (c == line_feed) ≡ true → begins_entry c ≡ false
line_feed-begins-none c e = rw (eqb-true c line_feed e) refl

space-begins-none : (c : ℕ) → (c == space) ≡ true → begins_entry c ≡ false
space-begins-none c e = rw (eqb-true c space e) refl

pub return-begins-none : (c : ℕ) → (c == carriage_return) ≡ true → begins_entry c ≡ false
return-begins-none c e = rw (eqb-true c carriage_return e) refl

resume-past : (b : Bool) (c : ℕ) (cs : Text) → begins_entry c ≡ false → resume b (c ∷ cs) ≡ resume (c == line_feed) cs
resume-past true c cs e = rw e refl
resume-past false c cs e = refl

-- a byte of a blank line, the line feed aside
spaced-begins-none : (c : ℕ) (b : Bool) → (c == space || (c == carriage_return && b)) ≡ true → begins_entry c ≡ false
spaced-begins-none c b e = cases (c == space) (λ h. space-begins-none c h) (λ h. return-begins-none c (and-left (c == carriage_return) b (rw h at e)))

-- what is looked for after a blank block is what is looked for before it
blank_lines-resume : (b : Bool) (line s : Text) → resume true line ≡ resume b s → resume true line ≡ resume true (blank_lines line s)
blank_lines-resume b line [] e = refl
blank_lines-resume b line (c ∷ cs) e = cases (c == line_feed)
    (λ h. rw h (e ∙ resume-past b c cs (line_feed-begins-none c h) ∙ ap (λ z. resume z cs) h ∙ blank_lines-resume true cs cs refl))
    (λ h. cases (c == space || (c == carriage_return && begins_with line_feed cs))
    (λ k. rw (h, k) (blank_lines-resume false line cs (e ∙ resume-past b c cs (spaced-begins-none c _ k) ∙ ap (λ z. resume z cs) h)))
    (λ k. rw (h, k) refl))

-- a blank block is as long as it can be
blank_lines-done : (line s : Text) → ((start : Text) → blank_lines start line ≡ blank_lines start s) → skip_blank_block (blank_lines line s) ≡ blank_lines line s
blank_lines-done line [] e = e line
blank_lines-done line (c ∷ cs) e = cases (c == line_feed)
    (λ h. rw h (blank_lines-done cs cs (λ start. refl)))
    (λ h. cases (c == space || (c == carriage_return && begins_with line_feed cs))
    (λ k. rw (h, k) (blank_lines-done line cs (λ start. e start ∙ rw (h, k) refl)))
    (λ k. rw (h, k) (e line ∙ rw (h, k) refl)))

skip_blank_block-done : (s : Text) → skip_blank_block (skip_blank_block s) ≡ skip_blank_block s
skip_blank_block-done s = blank_lines-done s s (λ start. refl)

-- before a sign there is no blank block
sign-no_blank : (s : Text) → begins_with number_sign s ≡ true → skip_blank_block s ≡ s
sign-no_blank [] e = refl
sign-no_blank (c ∷ cs) e = rw (eqb-true c number_sign e) refl

line_feed-resume : (s : Text) → begins_with line_feed s ≡ true → resume false s ≡ resume true (drop 1 s)
line_feed-resume [] e = absurd cc
line_feed-resume (c ∷ cs) e = rw e refl

-- after the start of a line the next line is looked at
resume-line : (s : Text) → resume false s ≡ resume true (rest_of_line s).1
resume-line [] = refl
resume-line (c ∷ cs) = cases (c == line_feed)
    (λ h. rw h refl)
    (λ h. cases (c == carriage_return && begins_with line_feed cs)
    (λ k. rw (h, k) (line_feed-resume cs (and-right (c == carriage_return) _ k)))
    (λ k. rw (h, k) (resume-line cs)))

-- signs at the front of a line don't change where it ends
signs-rest : (k : ℕ) (s : Text) → k ≤ prefix_len (λ c. c == number_sign) s → (rest_of_line s).1 ≡ (rest_of_line (drop k s)).1
signs-rest zero s h = refl
signs-rest (suc k) [] h = refl
signs-rest (suc k) (c ∷ cs) h = cases (c == number_sign)
    (λ e. rw (eqb-true c number_sign e) (signs-rest k cs (omega (arith, rw e at h))))
    (λ e. absurd (omega (arith, rw e at h)))

level-signs : (s : Text) → comment_level s ≤ prefix_len (λ c. c == number_sign) s
level-signs s = by_count (prefix_len (λ c. c == number_sign) s)
  where
    by_count : (n : ℕ) → cond (nat_le n 3) n 3 ≤ n
    by_count n = grind arith

sign-leveled : (s : Text) → begins_with number_sign s ≡ true → 1 ≤ comment_level s
sign-leveled [] e = absurd cc
sign-leveled (c ∷ cs) e = rw e (by_count (prefix_len (λ d. d == number_sign) cs))
  where
    by_count : (n : ℕ) → 1 ≤ cond (nat_le (1 + n) 3) (1 + n) 3
    by_count n = grind arith

leveled-sign : (s : Text) → 1 ≤ comment_level s → begins_with number_sign s ≡ true
leveled-sign [] h = absurd (omega arith)
leveled-sign (c ∷ cs) h = cases (c == number_sign) (λ e. e) (λ e. absurd (omega (arith, rw e at h)))

-- what is left of a line that a comment reads
abbrev LeftParts : Reading (List Text) → Text → Type 0
LeftParts (got line rest) s = rest ≡ (rest_of_line s).1
LeftParts (refused fault) s = fault.at ≡ s

record Left (x : Reading (List Text)) (s : Text) : Type 0 where
  pub parts : LeftParts x s

left-got : (line : List Text) (rest s : Text) → rest ≡ (rest_of_line s).1 → Left (got line rest) s
left-got line rest s h = record { parts = h }

left-refuse : (kind : Kind) (s : Text) → Left (refuse kind s) s
left-refuse kind s = record { parts = refl }

left-if : (b : Bool) (x y : Reading (List Text)) (s : Text) → (b ≡ true → Left x s) → (b ≡ false → Left y s) → Left (cond b x y) s
left-if true x y s p q = p refl
left-if false x y s p q = q refl

none-rest : (s : Text) → (length s == 0) ≡ true → [] ≡ (rest_of_line s).1
none-rest [] e = refl
none-rest (c ∷ cs) e = absurd (omega (arith, eqb-true (suc (length cs)) 0 e))

space-rest : (s : Text) → begins_with space s ≡ true → (rest_of_line (drop 1 s)).1 ≡ (rest_of_line s).1
space-rest [] e = absurd cc
space-rest (c ∷ cs) e = rw (eqb-true c space e) refl

comment_line-left : (s : Text) → Left (comment_line_at s) s
unfolding comment_line_at
comment_line-left s = left-if (length s == 0) _ _ _ (λ e. left-got _ _ _ (none-rest s e)) (λ e.
    left-if (is_some (after_line_end s)) _ _ _ (λ h. left-got _ _ _ refl) (λ h.
    left-if (begins_with space s) _ _ _ (λ k. left-got _ _ _ (space-rest s k)) (λ k. left-refuse _ _)))

-- the messages and terms of parts, without comments
abbrev pub listed_parts : List Part → List t.Entry
listed_parts [] = []
listed_parts (blank_block text ∷ ps) = listed_parts ps
listed_parts (entry text e ∷ ps) = listed (e ∷ []) ++ listed_parts ps
listed_parts (junk text kind place ∷ ps) = listed_parts ps
listed_parts (passed_over text ∷ ps) = listed_parts ps

abbrev NoJunk : List Part → Type 0
NoJunk [] = Unit {0}
NoJunk (blank_block text ∷ ps) = NoJunk ps
NoJunk (entry text e ∷ ps) = NoJunk ps
NoJunk (junk text kind place ∷ ps) = ⊥
NoJunk (passed_over text ∷ ps) = NoJunk ps

-- a tiling for runtime use with the list of these parts, and without junk where they have none
record Follows (s : Text) (ps : List Part) : Type 0 where
  pub parts : List Part
  pub tiled : Tiles runtime parts s
  pub same : listed_parts parts ≡ listed_parts ps
  pub clean : NoJunk ps → NoJunk parts

record FollowsItems (s : Text) (ps : List Part) : Type 0 where
  pub parts : List Part
  pub tiled : TilesItems runtime parts s
  pub same : listed_parts parts ≡ listed_parts ps
  pub clean : NoJunk ps → NoJunk parts

-- a line that is passed over
pass-line : (s : Text) (ps : List Part) → begins_with number_sign s ≡ true → Follows (rest_of_line s).1 ps → FollowsItems s ps
pass-line s ps e f = record {
  parts = passed_over (g.front s (rest_of_line s).1) ∷ f.parts;
  tiled = a_line e (front-line s) f.tiled;
  same = f.same;
  clean = f.clean;
}

after-blank : (s : Text) (ps : List Part) → FollowsItems (skip_blank_block s) ps → Follows s ps
after-blank s ps f = record {
  parts = blank_block (g.front s (skip_blank_block s)) ∷ f.parts;
  tiled = blank_first (front-blank s) f.tiled;
  same = f.same;
  clean = f.clean;
}

without-blank : (s : Text) (ps : List Part) → skip_blank_block s ≡ s → Follows s ps → FollowsItems s ps
without-blank s ps done f = by_parts f.tiled f.same f.clean
  where
    by_parts : {qs : List Part} → Tiles runtime qs s → listed_parts qs ≡ listed_parts ps → (NoJunk ps → NoJunk qs) → FollowsItems s ps
    by_parts (blank_first {text} {blanks} {rest} {parts} b d) same clean = record { parts = parts; tiled = rw (sym done ∙ block-skipped blanks text rest b) d; same = same; clean = clean }

comment_line-follows : (s : Text) (level : ℕ) (rest : Text) (ps : List Part) → 1 ≤ level → comment_level s ≡ level → rest ≡ (rest_of_line (drop level s)).1 → Follows rest ps → FollowsItems s ps
comment_line-follows s level rest ps h e left f =
    let same : rest ≡ (rest_of_line s).1 = left ∙ sym (signs-rest level s (omega (arith, level-signs s, e))) in
    pass-line s ps (leveled-sign s (omega (arith, h, e))) (rw same at f)

-- the lines of a comment are passed over
lines-follow : (n level : ℕ) (s : Text) (ps : List Part) → 1 ≤ level → Follows (comment_lines n level s).1 ps → Follows s ps
unfolding comment_lines
lines-follow zero level s ps h f = f
lines-follow (suc n) level s ps h f = cases (comment_level s == level)
    (λ e. by_line (comment_line_at (drop level s)) (comment_line-left (drop level s)).parts (eqb-true _ _ e) (rw e at f) (λ u k. lines-follow n level u ps h k))
    (λ e. rw e at f)
  where
    by_line : (x : Reading (List Text)) → LeftParts x (drop level s) → comment_level s ≡ level → Follows (more_lines (comment_lines n level) s x).1 ps →
        ((u : Text) → Follows (comment_lines n level u).1 ps → Follows u ps) → Follows s ps
    by_line (refused fault) left e f again = f
    by_line (got line rest) left e f again = after-blank s ps (rw (sign-no_blank s (leveled-sign s (omega (arith, h, e)))) (comment_line-follows s level rest ps h e left (again rest f)))

comment_of-unlisted : (level : ℕ) (lines : List Text) → listed (g.comment_of level lines ∷ []) ≡ []
comment_of-unlisted level lines = by_level (level == 1) (level == 2)
  where
    by_level : (a b : Bool) → listed (cond a (t.comment lines) (cond b (t.group_comment lines) (t.resource_comment lines)) ∷ []) ≡ []
    by_level true b = refl
    by_level false true = refl
    by_level false false = refl

comment-follows : (s front : Text) (e : t.Entry) (rest : Text) (ps : List Part) → begins_with number_sign s ≡ true → comment_at s ≡ got e rest → Follows rest ps → FollowsItems s (entry front e ∷ ps)
unfolding comment_at
comment-follows s front e rest ps sign read f =
    by_line (comment_line_at (drop (comment_level s) s)) (comment_line-left (drop (comment_level s) s)).parts read
  where
    by_line : (x : Reading (List Text)) → LeftParts x (drop (comment_level s) s) →
        (x >>= (λ first. let others = comment_lines (length s) (comment_level s) first.1 in got (g.comment_of (comment_level s) (first.0 ++ others.0)) others.1)) ≡ got e rest → FollowsItems s (entry front e ∷ ps)
    by_line (refused fault) left h = absurd cc
    by_line (got line first) left h =
        let leveled = sign-leveled s sign in
        let same : (comment_lines (length s) (comment_level s) first).1 ≡ rest = cc in
        let lines = line ++ (comment_lines (length s) (comment_level s) first).0 in
        let is : g.comment_of (comment_level s) lines ≡ e = cc in
        let k = comment_line-follows s (comment_level s) first ps leveled refl left (lines-follow (length s) (comment_level s) first ps leveled (rw same f)) in
        record {
          parts = k.parts;
          tiled = k.tiled;
          same = k.same ∙ ap (λ z. z ++ listed_parts ps) (sym (comment_of-unlisted (comment_level s) lines) ∙ ap (λ z. listed (z ∷ [])) is);
          clean = k.clean;
        }

-- where no entry can begin none is read
none-begins : (c : ℕ) (cs : Text) → begins_entry c ≡ false → entry_at (c ∷ cs) ≡ refuse r.expected_letter (c ∷ cs)
unfolding entry_at g.message_at g.head_at g.identifier_at
none-begins c cs e =
    let letter : is_letter c ≡ false = or-left (is_letter c) _ e in
    let others : (c == hyphen || c == number_sign) ≡ false = or-right (is_letter c) _ e in
    let minus : (c == hyphen) ≡ false = or-left (c == hyphen) _ others in
    let sign : (c == number_sign) ≡ false = or-right (c == hyphen) _ others in
    rw (sign, minus, letter) refl

behind-itself : (s : Text) → behind_junk s s ≡ resume true s
behind-itself s = let none : length s - length s ≡ 0 = omega arith in rw none refl

-- An item at the start of a line where full reading is within junk: what is left of the junk, or what is after it.
items-in-junk : (s : Text) (ps qs : List Part) → skip_blank_block s ≡ s → Follows (resume true s) ps → listed_parts qs ≡ listed_parts ps → (NoJunk qs → ⊥) → FollowsItems s qs
items-in-junk [] ps qs done f same dirty =
    let k = without-blank [] ps done f in
    record { parts = k.parts; tiled = k.tiled; same = k.same ∙ sym same; clean = λ n. absurd (dirty n) }
items-in-junk (c ∷ cs) ps qs done f same dirty = cases (begins_entry c)
    (λ e. let k = without-blank (c ∷ cs) ps done (rw e at f) in
    record { parts = k.parts; tiled = k.tiled; same = k.same ∙ sym same; clean = λ n. absurd (dirty n) })
    (λ e. record {
      parts = junk (g.front (c ∷ cs) (resume true (c ∷ cs))) r.expected_letter 0 ∷ f.parts;
      tiled = some_junk {place = 0} (or-right (c == hyphen) _ (or-right (is_letter c) _ e)) (λ z. absurd cc) (none-begins c cs e) (omega arith) (rw (behind-itself (c ∷ cs)) at (junk-ended (c ∷ cs) (c ∷ cs) (end-same (c ∷ cs)))) (front-whole (resume-end true (c ∷ cs) (end-same (c ∷ cs)))) f.tiled;
      same = f.same ∙ sym same;
      clean = λ n. absurd (dirty n);
    })

-- a line in junk
line-in-junk : (s : Text) (ps qs : List Part) → Follows (resume true s) ps → listed_parts qs ≡ listed_parts ps → (NoJunk qs → ⊥) → Follows s qs
line-in-junk s ps qs f same dirty =
    after-blank s qs (items-in-junk (skip_blank_block s) ps qs (skip_blank_block-done s) (rw (blank_lines-resume true s s refl) at f) same dirty)

not-zero : (n : ℕ) → 1 ≤ n → (n == 0) ≡ false
not-zero n h = grind arith

-- after the signs of a comment isn't column 0
signs-column : (s : Text) → begins_with number_sign s ≡ true → at_column_zero s (drop (comment_level s) s) ≡ false
signs-column s sign =
    let level = comment_level s in
    let some : 1 ≤ level = sign-leveled s sign in
    let within : level ≤ prefix_len (λ c. c == number_sign) s = level-signs s in
    let short : prefix_len (λ c. c == number_sign) s ≤ length s = prefix_len-le-length (λ c. c == number_sign) s in
    let place : length s - length (drop level s) ≡ level = omega (arith, length-drop level s, within, short) in
    let last : (get_or s (level - 1) 0 == number_sign) ≡ true = prefix_len_passes (λ c. c == number_sign) s (level - 1) 0 (omega (arith, some, within)) in
    rw (place, not-zero level some, eqb-true _ number_sign last) refl

comment-refused : (s : Text) (fault : Refusal) → comment_at s ≡ refused fault → fault.at ≡ drop (comment_level s) s
unfolding comment_at
comment-refused s fault read = by_line (comment_line_at (drop (comment_level s) s)) (comment_line-left (drop (comment_level s) s)).parts read
  where
    by_line : (x : Reading (List Text)) → LeftParts x (drop (comment_level s) s) →
        (x >>= (λ first. let others = comment_lines (length s) (comment_level s) first.1 in got (g.comment_of (comment_level s) (first.0 ++ others.0)) others.1)) ≡ refused fault → fault.at ≡ drop (comment_level s) s
    by_line (refused other) left h = let same : other ≡ fault = cc in rw (← same) left
    by_line (got line first) left h = absurd cc

-- A comment that fails is passed over, and so is what full reading skips after it.
comment-in-junk : (s front : Text) (fault : Refusal) (place : ℕ) (rest : Text) (ps : List Part) → begins_with number_sign s ≡ true → comment_at s ≡ refused fault → behind_junk s fault.at ≡ rest →
    Follows rest ps → FollowsItems s (junk front fault.kind place ∷ ps)
comment-in-junk s front fault place rest ps sign read b f =
    let v = drop (comment_level s) s in
    let behind : rest ≡ resume true (rest_of_line s).1 =
    sym b ∙ ap (λ z. behind_junk s z) (comment-refused s fault read) ∙ ap (λ z. resume z v) (signs-column s sign) ∙ resume-line v ∙ ap (resume true) (sym (signs-rest (comment_level s) s (level-signs s))) in
    pass-line s (junk front fault.kind place ∷ ps) sign (line-in-junk (rest_of_line s).1 ps (junk front fault.kind place ∷ ps) (rw behind at f) refl (λ n. n))

got-comment : (s : Text) (e : t.Entry) (rest : Text) → begins_with number_sign s ≡ true → entry_at s ≡ got e rest → comment_at s ≡ got e rest
unfolding entry_at
got-comment s e rest sign read = rw sign at read

entry-follows : (s front : Text) (e : t.Entry) (rest : Text) (ps : List Part) → SpellsEntry e s rest → s ≡ front ++ rest → Follows rest ps → FollowsItems s (entry front e ∷ ps)
entry-follows s front e rest ps spelled w f = cases (begins_with number_sign s)
    (λ sign. comment-follows s front e rest ps sign (got-comment s e rest sign ((entries_agree s e rest).1 spelled)) f)
    (λ sign. record {
      parts = entry front e ∷ f.parts;
      tiled = an_entry sign spelled w f.tiled;
      same = ap (λ z. listed (e ∷ []) ++ z) f.same;
      clean = f.clean;
    })

junk-follows : (s front : Text) (fault : Refusal) (place : ℕ) (rest : Text) (ps : List Part) → (s ≡ [] → ⊥) → entry_at s ≡ refused fault → place + length fault.at ≡ length s → EndsJunk s fault.at rest → s ≡ front ++ rest →
    Follows rest ps → FollowsItems s (junk front fault.kind place ∷ ps)
unfolding entry_at
junk-follows s front fault place rest ps some read at ends w f = cases (begins_with number_sign s)
    (λ sign. comment-in-junk s front fault place rest ps sign (rw sign at read) (junk-rest s fault rest read ends) f)
    (λ sign. record {
      parts = junk front fault.kind place ∷ f.parts;
      tiled = some_junk sign some read at ends w f.tiled;
      same = f.same;
      clean = λ n. n;
    })

mutual
  tiles-follow : {ps : List Part} {s : Text} → Tiles full ps s → Follows s ps
  tiles-follow (blank_first {text} {blanks} {rest} {parts} b d) =
      let k = after-blank text parts (rw (← block-skipped blanks text rest b) at (items-follow d)) in
      record { parts = k.parts; tiled = k.tiled; same = k.same; clean = k.clean }

  items-follow : {ps : List Part} {s : Text} → TilesItems full ps s → FollowsItems s ps
  items-follow source_ends = record { parts = []; tiled = source_ends; same = refl; clean = λ n. n }
  items-follow (an_entry {text} {front} {rest} {e} {parts} p spelled w d) = entry-follows text front e rest parts spelled w (tiles-follow d)
  items-follow (some_junk {text} {front} {rest} {fault} {place} {parts} p some read at ends w d) = junk-follows text front fault place rest parts some read at ends w (tiles-follow d)
  items-follow (a_line p l d) = absurd cc

-- the list of a tree is that of its parts
pub listed-waiting : (held : Option (List Text)) (es : List t.Entry) → listed (waiting held ++ es) ≡ listed es
listed-waiting None es = refl
listed-waiting (Some lines) es = refl

pub listed-left : (held : Option (List Text)) (apart : Bool) (es : List t.Entry) → listed (left_alone held apart ++ es) ≡ listed es
listed-left held true es = listed-waiting held es
listed-left held false es = refl

listed-tree : (mode : Mode) (held : Option (List Text)) (at : ℕ) (apart : Bool) (ps : List Part) → listed (entries_of held (pieces_of mode at apart ps)) ≡ listed_parts ps
listed-tree mode None at apart [] = refl
listed-tree mode (Some lines) at apart [] = refl
listed-tree mode held at apart (blank_block text ∷ ps) = listed-tree mode held _ _ ps
listed-tree mode held at apart (passed_over text ∷ ps) = listed-tree mode held _ _ ps
listed-tree mode held at apart (junk text kind place ∷ ps) = listed-waiting held _ ∙ listed-tree mode None _ _ ps
listed-tree mode held at apart (entry text (t.message m) ∷ ps) = listed-left held apart _ ∙ ap (λ z. t.message (record m { comment = None }) ∷ z) (listed-tree mode None _ _ ps)
listed-tree mode held at apart (entry text (t.term m) ∷ ps) = listed-left held apart _ ∙ ap (λ z. t.term (record m { comment = None }) ∷ z) (listed-tree mode None _ _ ps)
listed-tree mode held at apart (entry text (t.comment lines) ∷ ps) = listed-waiting held _ ∙ listed-tree mode (Some lines) _ _ ps
listed-tree mode held at apart (entry text (t.group_comment lines) ∷ ps) = listed-waiting held _ ∙ listed-tree mode None _ _ ps
listed-tree mode held at apart (entry text (t.resource_comment lines) ∷ ps) = listed-waiting held _ ∙ listed-tree mode None _ _ ps
listed-tree mode held at apart (entry text (t.junk s) ∷ ps) = listed-waiting held _ ∙ listed-tree mode None _ _ ps

no-errors : (mode : Mode) (at : ℕ) (apart : Bool) (ps : List Part) → NoJunk ps → errors_of (pieces_of mode at apart ps) ≡ []
no-errors mode at apart [] n = refl
no-errors mode at apart (blank_block text ∷ ps) n = no-errors mode (at + length text) (lies_apart mode text) ps n
no-errors mode at apart (passed_over text ∷ ps) n = no-errors mode (at + length text) false ps n
no-errors mode at apart (entry text e ∷ ps) n = no-errors mode (at + length text) false ps n
no-errors mode at apart (junk text kind place ∷ ps) n = absurd n

errors-none : (mode : Mode) (at : ℕ) (apart : Bool) (ps : List Part) → errors_of (pieces_of mode at apart ps) ≡ [] → NoJunk ps
errors-none mode at apart [] e = tt
errors-none mode at apart (blank_block text ∷ ps) e = errors-none mode (at + length text) (lies_apart mode text) ps e
errors-none mode at apart (passed_over text ∷ ps) e = errors-none mode (at + length text) false ps e
errors-none mode at apart (entry text x ∷ ps) e = errors-none mode (at + length text) false ps e
errors-none mode at apart (junk text kind place ∷ ps) e = absurd cc

pub runtime_has_the_same_list : RuntimeHasTheSameList
runtime_has_the_same_list source =
    let d = each_text_has_a_tiling full source in
    let f = tiles-follow d.1 in
    ap listed (sym (tiling_gives_tree_and_errors runtime source f.parts f.tiled).0) ∙ listed-tree runtime None 0 false f.parts ∙ f.same ∙
    sym (listed-tree full None 0 false d.0) ∙ ap listed (tiling_gives_tree_and_errors full source d.0 d.1).0

pub runtime_adds_no_junk : RuntimeAddsNoJunk
runtime_adds_no_junk source none =
    let d = each_text_has_a_tiling full source in
    let f = tiles-follow d.1 in
    sym (tiling_gives_tree_and_errors runtime source f.parts f.tiled).1 ∙
    no-errors runtime 0 false f.parts (f.clean (errors-none full 0 false d.0 ((tiling_gives_tree_and_errors full source d.0 d.1).1 ∙ none)))
