-- The tree for runtime use has no comments.
use Rattle.std.proofs.Common.{◌≡◌, ℕ, Bool, true, false, cond, List, [], ◌∷◌, Option, Some, None, refl, arith}
use Rattle.std.specs.Prelude.{All}
use Rattle.std.proofs.lemmas.List.Elements.{All-cons}
use Rattle.fluent_grammar.specs.Words.{Text, hyphen, number_sign, begins_with}
use Rattle.fluent_grammar.specs.Refusal.{Reading, got, refused, ◌>>=◌}
use Rattle.fluent_grammar.specs.Tree as t
use Rattle.fluent_grammar.specs.Reading as g
use Rattle.fluent_grammar.specs.Reading.{entry_at}
use Rattle.fluent_grammar.specs.Tiling.{entries_of}
use Rattle.fluent_grammar.specs.Tiles.{runtime, Part, blank_block, entry, junk, passed_over, Tiles, blank_first, TilesItems, source_ends, an_entry, some_junk, a_line, pieces_of}
use Rattle.fluent_grammar.specs.TilingLaws.{HasNoComment, RuntimeHasNoComments}
use Rattle.fluent_grammar.proofs.Agreement.{entries_agree}
use Rattle.fluent_grammar.proofs.TilesPieces.{each_text_has_a_tiling, tiling_gives_tree_and_errors}

abbrev PlainParts : Reading t.Entry → Type 0
PlainParts (got e rest) = HasNoComment e
PlainParts (refused fault) = Unit {0}

-- what is read has no comment
record Plain (x : Reading t.Entry) : Type 0 where
  pub parts : PlainParts x

plain-bind : {A : Type 0} (x : Reading A) (f : A × Text → Reading t.Entry) → ((a : A) (rest : Text) → Plain (f (a, rest))) → Plain (x >>= f)
plain-bind (got a rest) f q = q a rest
plain-bind (refused fault) f q = record { parts = tt }

message_of-plain : (id : Text) (value : Option t.Elements) (attributes : List t.Attribute) (s : Text) → Plain (g.message_of id value attributes s)
message_of-plain id None [] s = record { parts = tt }
message_of-plain id None (a ∷ more) s = record { parts = refl }
message_of-plain id (Some v) attributes s = record { parts = refl }

term_of-plain : (id : Text) (value : Option t.Elements) (attributes : List t.Attribute) (s : Text) → Plain (g.term_of id value attributes s)
term_of-plain id None attributes s = record { parts = tt }
term_of-plain id (Some v) attributes s = record { parts = refl }

message-plain : (s : Text) → Plain (g.message_at s)
unfolding g.message_at
message-plain s = search (plain-bind, message_of-plain)

term-plain : (s : Text) → Plain (g.term_entry_at s)
unfolding g.term_entry_at
term-plain s = search (plain-bind, term_of-plain)

entry-plain : (s : Text) → begins_with number_sign s ≡ false → Plain (entry_at s)
unfolding entry_at
entry-plain s sign = rw sign (by_minus (begins_with hyphen s))
  where
    by_minus : (b : Bool) → Plain (cond b (g.term_entry_at s) (g.message_at s))
    by_minus true = term-plain s
    by_minus false = message-plain s

abbrev PlainEntries : List Part → Type 0
PlainEntries [] = Unit {0}
PlainEntries (entry text e ∷ ps) = HasNoComment e × PlainEntries ps
PlainEntries (_ ∷ ps) = PlainEntries ps

mutual
  tiles-plain : {ps : List Part} {s : Text} → Tiles runtime ps s → PlainEntries ps
  tiles-plain (blank_first b d) = items-plain d

  items-plain : {ps : List Part} {s : Text} → TilesItems runtime ps s → PlainEntries ps
  items-plain source_ends = tt
  items-plain (an_entry {text} {rest} {e} p spelled w d) = ((rw ((entries_agree text e rest).1 spelled) at (entry-plain text p)).parts, tiles-plain d)
  items-plain (some_junk p some read at ends w d) = tiles-plain d
  items-plain (a_line p l d) = tiles-plain d

none : {X : Type 0} (P : X → Type 0) → All P []
none P k d h = absurd (omega arith)

entries-plain : (ps : List Part) (at : ℕ) (apart : Bool) → PlainEntries ps → All HasNoComment (entries_of None (pieces_of runtime at apart ps))
entries-plain [] at apart plain = none _
entries-plain (blank_block text ∷ ps) at apart plain = entries-plain ps _ _ plain
entries-plain (passed_over text ∷ ps) at apart plain = entries-plain ps _ _ plain
entries-plain (junk text kind place ∷ ps) at apart plain = All-cons HasNoComment _ _ tt (entries-plain ps _ _ plain)
entries-plain (entry text (t.message m) ∷ ps) at true plain = All-cons HasNoComment _ _ refl (entries-plain ps _ _ plain.1)
entries-plain (entry text (t.message m) ∷ ps) at false plain = All-cons HasNoComment _ _ refl (entries-plain ps _ _ plain.1)
entries-plain (entry text (t.term m) ∷ ps) at true plain = All-cons HasNoComment _ _ refl (entries-plain ps _ _ plain.1)
entries-plain (entry text (t.term m) ∷ ps) at false plain = All-cons HasNoComment _ _ refl (entries-plain ps _ _ plain.1)
entries-plain (entry text (t.junk content) ∷ ps) at apart plain = All-cons HasNoComment _ _ tt (entries-plain ps _ _ plain.1)
entries-plain (entry text _ ∷ ps) at apart plain = absurd plain.0

pub runtime_has_no_comments : RuntimeHasNoComments
runtime_has_no_comments source =
    let d = each_text_has_a_tiling runtime source in
    rw (← (tiling_gives_tree_and_errors runtime source d.0 d.1).0) (entries-plain d.0 0 false (tiles-plain d.1))
