-- A text without errors and without a shape has a tree of well-formed entries.
use Rattle.std.proofs.Common.{◌≡◌, ℕ, ◌+◌, Bool, true, false, not, ◌||◌, List, [], ◌∷◌, ◌++◌, length, Option, Some, None, refl, ap, ◌∙◌, arith, subst, inl, inr}
use Rattle.std.specs.Prelude.{◌==◌, ◌≢◌, ◌⊎◌}
use Rattle.std.specs.List.{list_all}
use Rattle.std.specs.Str.{IsUtf8}
use Rattle.fluent_grammar.specs.Words.{Text, line_feed, carriage_return, equals}
use Rattle.fluent_grammar.specs.Tree as t
use Rattle.fluent_grammar.specs.Ends.{EndsIn}
use Rattle.fluent_grammar.specs.Lines.{value_of}
use Rattle.fluent_grammar.specs.Lexical.{SpellsRestOfLine, line_ends, text_ends, line_byte}
use Rattle.fluent_grammar.specs.Spelling.{SpellsHead, a_head, SpellsAttribute, an_attribute, SpellsAttributes, no_more_attributes, one_more_attribute, SpellsCommentText, at_end, empty_line, some_line, SpellsCommentLine, SpellsCommentLines, no_more_lines, one_more_line, SpellsComment, some_lines, SpellsEntry, a_message, a_term, a_comment, a_group_comment, a_resource_comment}
use Rattle.fluent_grammar.specs.Tiling as p
use Rattle.fluent_grammar.specs.Tiling.{entries_of, attached, waiting, left_alone, tree, errors}
use Rattle.fluent_grammar.specs.Tiles.{full, Part, Tiles, blank_first, TilesItems, source_ends, an_entry, some_junk, a_line, pieces_of, lies_apart}
use Rattle.fluent_grammar.proofs.Cases.{cases, and-left, and-right, or-left, or-right}
use Rattle.fluent_grammar.proofs.Within.{end-same, end-trans, end-cons, end-tail, end-drop, end-blank_block, end-spaces, attribute-fair, comment_line-fair}
use Rattle.fluent_grammar.proofs.Attributes.{attribute_complete}
use Rattle.fluent_grammar.proofs.Comments.{text_complete}
use Rattle.fluent_grammar.proofs.TilesPieces.{each_text_has_a_tiling, tiling_gives_tree_and_errors}
use Rattle.fluent_tidy_laws.specs.Joined.{HasNoReturn}
use Rattle.fluent_tidy_laws.specs.Shapes.{IsShaped, head_marked, attribute_marked, attributes_marked, entry_marked, tiles_marked, items_marked, pattern_shaped, value_shaped, attributes_shaped, is_white_line, any_white, comment_shaped, own_comment_shaped, entry_shaped, tree_shaped}
use Rattle.fluent_tidy_laws.specs.WellFormed.{IsName, WellFormedPattern, WellFormedAttributes, is_comment_line, WellFormedComment, WellFormedOwn, WellFormedEntry, WellFormedTree}
use Rattle.fluent_tidy_laws.proofs.Clean.{has_junk, errors-some}
use Rattle.fluent_tidy_laws.proofs.ReadWords.{name-well_formed, Sound, sound-end, sound-behind, sound-no_return}
use Rattle.fluent_tidy_laws.proofs.ReadInlines.{got-end, end-is, name-end, pattern-end, value-well_formed}
use Rattle.fluent_grammar.proofs.BlankWords.{no_line_feed}

-- ---- a text is an end of itself

pub sound : {s : Text} → IsUtf8 s → HasNoReturn s → Sound s
sound {s} u r = record { source = s; utf8 = u; no_return = r; within = end-same s }

-- ---- heads and attributes

head-end : {id : Text} {value : t.Elements} {s rest : Text} → SpellsHead id value s rest → EndsIn rest s
head-end (a_head n e d) = end-trans (pattern-end d) (end-tail (end-is e (end-spaces (name-end n))))

head-name : {id : Text} {value : t.Elements} {s rest : Text} → SpellsHead id value s rest → IsName id
head-name (a_head n e d) = name-well_formed n

head-well_formed : {id : Text} {value : t.Elements} {s rest : Text} (d : SpellsHead id value s rest) → Sound s → head_marked d ≡ false → value ≢ t.no_elements → pattern_shaped value ≡ false → WellFormedPattern value
head-well_formed (a_head {v = v} n e d) from m some h =
    let at = sound-end (end-is e (end-spaces (name-end n))) from in
    value-well_formed d (sound-end (end-cons equals (end-same v)) at) (sound-behind equals v at (omega arith)) m some h

attribute-end : {a : t.Attribute} {s rest : Text} → SpellsAttribute a s rest → EndsIn rest s
attribute-end {s = s} d = got-end (attribute_complete d) (attribute-fair (end-same s))

attribute-well_formed : {a : t.Attribute} {s rest : Text} (d : SpellsAttribute a s rest) → Sound s → attribute_marked d ≡ false → pattern_shaped a.value ≡ false → IsName a.id × WellFormedPattern a.value
attribute-well_formed (an_attribute {s = s} b d some) from m h =
    (head-name d, head-well_formed d (sound-end (end-tail (end-is b (end-spaces (end-same s)))) from) m some h)

attributes-well_formed : {attributes : List t.Attribute} {s rest : Text} (d : SpellsAttributes attributes s rest) → Sound s → attributes_marked d ≡ false → attributes_shaped attributes ≡ false → WellFormedAttributes attributes
attributes-well_formed (no_more_attributes none) from m h = tt
attributes-well_formed (one_more_attribute d more) from m h =
    let a = attribute-well_formed d from (or-left _ _ m) (or-left _ _ h) in
    (a.0, a.1, attributes-well_formed more (sound-end (attribute-end d) from) (or-right _ _ m) (or-right _ _ h))

-- ---- comments

-- no line feed and no carriage return
abbrev is_plain_line : Text → Bool
is_plain_line s = list_all (λ c. not (c == line_feed || c == carriage_return)) s

plain-byte : (c : ℕ) → (c == line_feed) ≡ false → not (c == carriage_return) ≡ true → not (c == line_feed || c == carriage_return) ≡ true
plain-byte c h k = rw h k

rest-plain : {line s rest : Text} → SpellsRestOfLine line s rest → HasNoReturn s → is_plain_line line ≡ true
rest-plain (line_ends e) r = refl
rest-plain text_ends r = refl
rest-plain (line_byte {c} {s = s} none d) r =
    let k : not (c == line_feed || c == carriage_return) ≡ true = plain-byte c (no_line_feed c s none) (and-left _ _ r) in
    rw k (rest-plain d (and-right _ _ r))

text-plain : {lines : List Text} {s rest : Text} → SpellsCommentText lines s rest → HasNoReturn s → list_all is_plain_line lines ≡ true
text-plain at_end r = refl
text-plain (empty_line e) r = refl
text-plain (some_line d) r = let k = rest-plain d r in rw k refl

line-plain : {level : ℕ} {lines : List Text} {s rest : Text} → SpellsCommentLine level lines s rest → Sound s → list_all is_plain_line lines ≡ true
line-plain {level} {s = s} d from = text-plain d.content (sound-no_return (sound-end (end-drop level (end-same s)) from))

line-end : {level : ℕ} {lines : List Text} {s rest : Text} → SpellsCommentLine level lines s rest → EndsIn rest s
line-end {level} {s = s} d = got-end (text_complete d.content) (comment_line-fair (end-drop level (end-same s)))

all-append : (a b : List Text) → list_all is_plain_line a ≡ true → list_all is_plain_line b ≡ true → list_all is_plain_line (a ++ b) ≡ true
all-append [] b h k = k
all-append (x ∷ a) b h k = let m : is_plain_line x ≡ true = and-left _ _ h in rw m (all-append a b (and-right _ _ h) k)

lines-plain : {level : ℕ} {lines : List Text} {s rest : Text} → SpellsCommentLines level lines s rest → Sound s → list_all is_plain_line lines ≡ true
lines-plain (no_more_lines none) from = refl
lines-plain (one_more_line {line = line} {others = others} d more) from = all-append line others (line-plain d from) (lines-plain more (sound-end (line-end d) from))

comment-plain : {level : ℕ} {lines : List Text} {s rest : Text} → SpellsComment level lines s rest → Sound s → list_all is_plain_line lines ≡ true
comment-plain (some_lines {line = line} {others = others} d more) from = all-append line others (line-plain d from) (lines-plain more (sound-end (line-end d) from))

lines-well_formed : (lines : List Text) → list_all is_plain_line lines ≡ true → any_white lines ≡ false → list_all is_comment_line lines ≡ true
lines-well_formed [] h k = refl
lines-well_formed (x ∷ lines) h k =
    let a : is_plain_line x ≡ true = and-left _ _ h in
    let b : is_white_line x ≡ false = or-left _ _ k in
    rw (a, b) (lines-well_formed lines (and-right _ _ h) (or-right _ _ k))

comment-well_formed : (lines : List Text) → list_all is_plain_line lines ≡ true → comment_shaped lines ≡ false → WellFormedComment lines
comment-well_formed [] h k = absurd cc
comment-well_formed (x ∷ lines) h k = ((λ e. cc), lines-well_formed (x ∷ lines) h k)

-- ---- a comment that waits

Plain : Option (List Text) → Type 0
Plain None = Unit {0}
Plain (Some lines) = list_all is_plain_line lines ≡ true

own-well_formed : (held : Option (List Text)) → Plain held → own_comment_shaped held ≡ false → WellFormedOwn held
unfolding Plain
own-well_formed None p h = tt
own-well_formed (Some lines) p h = comment-well_formed lines p h

attached-well_formed : (held : Option (List Text)) (apart : Bool) → Plain held → own_comment_shaped (attached held apart) ≡ false → WellFormedOwn (attached held apart)
attached-well_formed held true p h = tt
attached-well_formed held false p h = own-well_formed held p h

well_formed-append : (a b : List t.Entry) → WellFormedTree a → WellFormedTree b → WellFormedTree (a ++ b)
well_formed-append [] b h k = k
well_formed-append (e ∷ es) b h k = (h.0, well_formed-append es b h.1 k)

unshaped-left : (a b : List t.Entry) → tree_shaped (a ++ b) ≡ false → tree_shaped a ≡ false
unshaped-left [] b h = refl
unshaped-left (e ∷ es) b h = let k : entry_shaped e ≡ false = or-left _ _ h in rw k (unshaped-left es b (or-right _ _ h))

unshaped-right : (a b : List t.Entry) → tree_shaped (a ++ b) ≡ false → tree_shaped b ≡ false
unshaped-right [] b h = h
unshaped-right (e ∷ es) b h = unshaped-right es b (or-right _ _ h)

waiting-well_formed : (held : Option (List Text)) → Plain held → tree_shaped (waiting held) ≡ false → WellFormedTree (waiting held)
unfolding Plain
waiting-well_formed None p h = tt
waiting-well_formed (Some lines) p h = (comment-well_formed lines p (or-left _ _ h), tt)

alone-well_formed : (held : Option (List Text)) (apart : Bool) → Plain held → tree_shaped (left_alone held apart) ≡ false → WellFormedTree (left_alone held apart)
alone-well_formed held true p h = waiting-well_formed held p h
alone-well_formed held false p h = tt

-- what is after a comment that waits, and it
behind-waiting : (held : Option (List Text)) (es : List t.Entry) → Plain held → tree_shaped (waiting held ++ es) ≡ false → (tree_shaped es ≡ false → WellFormedTree es) → WellFormedTree (waiting held ++ es)
behind-waiting held es p h f = well_formed-append (waiting held) es (waiting-well_formed held p (unshaped-left (waiting held) es h)) (f (unshaped-right (waiting held) es h))

behind-alone : (held : Option (List Text)) (apart : Bool) (es : List t.Entry) → Plain held → tree_shaped (left_alone held apart ++ es) ≡ false → (tree_shaped es ≡ false → WellFormedTree es) → WellFormedTree (left_alone held apart ++ es)
behind-alone held apart es p h f = well_formed-append (left_alone held apart) es (alone-well_formed held apart p (unshaped-left (left_alone held apart) es h)) (f (unshaped-right (left_alone held apart) es h))

-- ---- entries

-- what follows a comment that waits, or none
abbrev Behind : List p.Piece → Type 0
Behind ps = (held : Option (List Text)) → Plain held → tree_shaped (entries_of held ps) ≡ false → WellFormedTree (entries_of held ps)

none-plain : Plain None
unfolding Plain
none-plain = tt

some-plain : (lines : List Text) → list_all is_plain_line lines ≡ true → Plain (Some lines)
unfolding Plain
some-plain lines h = h

-- a message that has a value, or attributes
message-well_formed : (id : Text) (value : t.Elements) (attributes : List t.Attribute) (own : Option (List Text)) → IsName id → (value ≢ t.no_elements → pattern_shaped value ≡ false → WellFormedPattern value) →
    (value ≢ t.no_elements) ⊎ (attributes ≢ []) → WellFormedAttributes attributes → WellFormedOwn own → value_shaped (value_of value) ≡ false →
    WellFormedEntry (t.message (record { id = id; value = value_of value; attributes = attributes; comment = own }))
message-well_formed id t.no_elements attributes own n f (inl k) a o h = absurd (k refl)
message-well_formed id t.no_elements attributes own n f (inr k) a o h = (n, k, a, o)
message-well_formed id (t.text x es) attributes own n f k a o h = (n, f (λ e. cc) h, a, o)
message-well_formed id (t.placeable x es) attributes own n f k a o h = (n, f (λ e. cc) h, a, o)

entry-well_formed : {e : t.Entry} {s rest : Text} (d : SpellsEntry e s rest) → Sound s → entry_marked d ≡ false → (ps : List p.Piece) → Behind ps → (apart : Bool) → Behind (p.entry apart e ∷ ps)
entry-well_formed (a_message {id = id} {value = value} {attributes = attributes} d more some) from m ps behind apart held plain h =
    behind-alone held apart _ plain h (λ k.
    let z = or-left _ _ k in
    let y = or-right (own_comment_shaped (attached held apart)) _ z in (
      message-well_formed id value attributes (attached held apart) (head-name d) (λ v w. head-well_formed d from (or-left _ _ m) v w) some
          (attributes-well_formed more (sound-end (end-blank_block (head-end d)) from) (or-right _ _ m) (or-right (value_shaped (value_of value)) _ y))
          (attached-well_formed held apart plain (or-left _ _ z)) (or-left _ _ y),
      behind None none-plain (or-right _ _ k),
    ))
entry-well_formed (a_term {s = s} {value = value} b d more some) from m ps behind apart held plain h =
    behind-alone held apart _ plain h (λ k.
    let z = or-left _ _ k in
    let y = or-right (own_comment_shaped (attached held apart)) _ z in
    let at = sound-end (end-tail (end-is b (end-same s))) from in (
      (
        head-name d,
        head-well_formed d at (or-left _ _ m) some (or-left _ _ y),
        attributes-well_formed more (sound-end (end-blank_block (head-end d)) at) (or-right _ _ m) (or-right (pattern_shaped value) _ y),
        attached-well_formed held apart plain (or-left _ _ z),
      ),
      behind None none-plain (or-right _ _ k),
    ))
entry-well_formed (a_comment {lines = lines} d) from m ps behind apart held plain h =
    behind-waiting held _ plain h (λ k. behind (Some lines) (some-plain lines (comment-plain d from)) k)
entry-well_formed (a_group_comment {lines = lines} d) from m ps behind apart held plain h =
    behind-waiting held _ plain h (λ k. (comment-well_formed lines (comment-plain d from) (or-left _ _ k), behind None none-plain (or-right _ _ k)))
entry-well_formed (a_resource_comment {lines = lines} d) from m ps behind apart held plain h =
    behind-waiting held _ plain h (λ k. (comment-well_formed lines (comment-plain d from) (or-left _ _ k), behind None none-plain (or-right _ _ k)))

-- ---- the tiling

mutual
  tiles-well_formed : {parts : List Part} {s : Text} (d : Tiles full parts s) → Sound s → tiles_marked d ≡ false → has_junk parts ≡ false → (at : ℕ) (apart : Bool) → Behind (pieces_of full at apart parts)
  tiles-well_formed (blank_first {blanks = blanks} {rest = rest} b d) from m j at apart =
      items-well_formed d (sound-end (record { front = blanks; whole = b.split }) from) m j (at + length blanks) (lies_apart full blanks)

  items-well_formed : {parts : List Part} {s : Text} (d : TilesItems full parts s) → Sound s → items_marked d ≡ false → has_junk parts ≡ false → (at : ℕ) (apart : Bool) → Behind (pieces_of full at apart parts)
  items-well_formed source_ends from m j at apart = λ held plain h. waiting-well_formed held plain h
  items-well_formed (an_entry {front = front} {rest = rest} {parts = parts} q spelled w d) from m j at apart =
      entry-well_formed spelled from (or-left _ _ m) (pieces_of full (at + length front) false parts)
      (tiles-well_formed d (sound-end (record { front = front; whole = w }) from) (or-right _ _ m) j (at + length front) false) apart
  items-well_formed (some_junk q some read place ends w d) from m j at apart = absurd cc
  items-well_formed (a_line q l d) from m j at apart = absurd cc

-- by the test of one tiling
pub tiled-well_formed : (s : Text) → IsUtf8 s → HasNoReturn s → errors s ≡ [] → (parts : List Part) (tiling : Tiles full parts s) → (tiles_marked tiling || tree_shaped (tree s)) ≡ false → WellFormedTree (tree s)
tiled-well_formed s u r clean parts tiling none =
    let law = tiling_gives_tree_and_errors full s parts tiling in
    let formed : WellFormedTree (entries_of None (pieces_of full 0 false parts)) =
    tiles-well_formed tiling (sound u r) (or-left _ _ none) (errors-some parts full 0 false (law.1 ∙ clean)) 0 false None none-plain (ap tree_shaped law.0 ∙ or-right _ _ none) in
    subst WellFormedTree law.0 formed

-- What is read of a text without a shape is well formed.
pub reading_gives_well_formed : (s : Text) → IsUtf8 s → HasNoReturn s → errors s ≡ [] → (IsShaped s → ⊥) → WellFormedTree (tree s)
reading_gives_well_formed s u r clean unshaped =
    let tiling = each_text_has_a_tiling full s in
    tiled-well_formed s u r clean tiling.0 tiling.1 (cases (tiles_marked tiling.1 || tree_shaped (tree s))
    (λ h. absurd (unshaped (record { parts = tiling.0; tiling = tiling.1; found = h })))
    (λ h. h))
