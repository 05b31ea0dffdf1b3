-- The references in one placeable of sources are no more than the bytes of the longest.
use Rattle.std.proofs.Common.{◌≡◌, ℕ, zero, suc, ◌+◌, ◌*◌, ◌≤◌, max, Bool, true, false, not, cond, List, [], ◌∷◌, ◌++◌, length, Option, Some, None, ap, arith}
use Rattle.std.specs.Prelude.{◌&&◌, is_some}
use Rattle.std.specs.declared.cmp.Ordering.{Ordering}
use Rattle.std.specs.declared.cmp.Ordering.TheVariants.{Less, Equal, Greater}
use Rattle.std.specs.Ordering.{match_ordering}
use Rattle.std.specs.BTreeMap.{insert_entry}
use Rattle.std.proofs.lemmas.List.{length-append}
use Rattle.std.proofs.Math.Nat.{le_trans}
use Rattle.fluent_grammar.specs.Words.{Text}
use Rattle.fluent_grammar.specs.Tree as t
use Rattle.fluent_grammar.specs.Tiling as p
use Rattle.fluent_grammar.specs.Tiling.{entries_of, waiting, left_alone, listed, list, tree}
use Rattle.fluent_grammar.specs.Tiles.{Mode, full, Part, blank_block, entry, junk, passed_over, Tiles, blank_first, TilesItems, source_ends, an_entry, some_junk, a_line, pieces_of, lies_apart}
use Rattle.fluent_grammar.proofs.TilesPieces.{each_text_has_a_tiling, tiling_gives_tree_and_errors}
use Rattle.fluent_tidy_laws.specs.Joined.{lists}
use Rattle.fluent_value.specs.Args.{order}
use Rattle.fluent_meaning.specs.Ids.{Ids, Meaning, number_function, function, message, term, find, with_id, with_ids, entries_by_id, number_pair}
use Rattle.fluent_meaning.specs.ReachLaws.{over}
use Rattle.fluent_meaning.specs.Substitution.{answer_written}
use Rattle.fluent_meaning.specs.Work.{value_most, meaning_most, ids_most, most_references}
use Rattle.fluent_meaning.proofs.Bounded.{found_most, found-most, attribute-most, enters-within-bound}
use Rattle.fluent_meaning.proofs.Fitting.{entry_most, entry-most}
use Rattle.fluent_answers.specs.Answers.{pattern_asked}
use Rattle.fluent_answers.specs.Sources.{ids_of}
use Rattle.fluent_answers.specs.FitLaws.{most_bytes, ReferencesFit, RequestsFit}

-- ---- parts of a tiling

abbrev parts_most : List Part → ℕ
parts_most [] = 0
parts_most (blank_block s ∷ ps) = parts_most ps
parts_most (entry s e ∷ ps) = max (entry_most e) (parts_most ps)
parts_most (junk s kind place ∷ ps) = parts_most ps
parts_most (passed_over s ∷ ps) = parts_most ps

behind : (s front rest : Text) → s ≡ front ++ rest → length rest ≤ length s
behind s front rest e = omega (arith, ap length e, length-append front rest)

mutual
  tiles-most : {mode : Mode} {ps : List Part} {s : Text} → Tiles mode ps s → parts_most ps ≤ length s
  tiles-most (blank_first {text} {blanks} {rest} b d) = le_trans (items-most d) (behind text blanks rest b.split)

  items-most : {mode : Mode} {ps : List Part} {s : Text} → TilesItems mode ps s → parts_most ps ≤ length s
  items-most source_ends = omega arith
  items-most (an_entry {text} {front} {rest} p spelled w d) = omega (arith, entry-most spelled, tiles-most d, behind text front rest w)
  items-most (some_junk {text} {front} {rest} p some read at ends w d) = le_trans (tiles-most d) (behind text front rest w)
  items-most (a_line {text} {front} {rest} p l d) = le_trans (tiles-most d) (behind text front rest l.split)

-- ---- pieces and entries

abbrev tops : List p.Piece → ℕ
tops [] = 0
tops (p.entry apart e ∷ ps) = max (entry_most e) (tops ps)
tops (p.junk s error ∷ ps) = tops ps

pieces-tops : (mode : Mode) (at : ℕ) (apart : Bool) (ps : List Part) → tops (pieces_of mode at apart ps) ≤ parts_most ps
pieces-tops mode at apart [] = omega arith
pieces-tops mode at apart (blank_block s ∷ ps) = pieces-tops mode (at + length s) (lies_apart mode s) ps
pieces-tops mode at apart (entry s e ∷ ps) = omega (arith, pieces-tops mode (at + length s) false ps)
pieces-tops mode at apart (junk s kind place ∷ ps) = pieces-tops mode (at + length s) false ps
pieces-tops mode at apart (passed_over s ∷ ps) = pieces-tops mode (at + length s) false ps

abbrev entries_most : List t.Entry → ℕ
entries_most [] = 0
entries_most (e ∷ es) = max (entry_most e) (entries_most es)

both-most : (xs ys : List t.Entry) (n : ℕ) → entries_most xs ≤ n → entries_most ys ≤ n → entries_most (xs ++ ys) ≤ n
both-most [] ys n h k = k
both-most (x ∷ xs) ys n h k = omega (arith, h, both-most xs ys n (omega (arith, h)) k)

waiting-most : (held : Option (List Text)) → entries_most (waiting held) ≤ 0
waiting-most None = omega arith
waiting-most (Some lines) = omega arith

left-most : (held : Option (List Text)) (apart : Bool) → entries_most (left_alone held apart) ≤ 0
left-most held true = waiting-most held
left-most held false = omega arith

from : {a n : ℕ} → a ≤ 0 → a ≤ n
from h = omega (arith, h)

entries-tops : (held : Option (List Text)) (ps : List p.Piece) → entries_most (entries_of held ps) ≤ tops ps
entries-tops held [] = waiting-most held
entries-tops held (p.junk s error ∷ ps) = both-most (waiting held) (t.junk s ∷ entries_of None ps) (tops ps) (from (waiting-most held)) (omega (arith, entries-tops None ps))
entries-tops held (p.entry apart (t.comment lines) ∷ ps) = both-most (waiting held) (entries_of (Some lines) ps) (tops (p.entry apart (t.comment lines) ∷ ps)) (from (waiting-most held)) (omega (arith, entries-tops (Some lines) ps))
entries-tops held (p.entry apart (t.message m) ∷ ps) = both-most (left_alone held apart) _ (tops (p.entry apart (t.message m) ∷ ps)) (from (left-most held apart)) (omega (arith, entries-tops None ps))
entries-tops held (p.entry apart (t.term m) ∷ ps) = both-most (left_alone held apart) _ (tops (p.entry apart (t.term m) ∷ ps)) (from (left-most held apart)) (omega (arith, entries-tops None ps))
entries-tops held (p.entry apart (t.group_comment c) ∷ ps) = both-most (waiting held) (t.group_comment c ∷ entries_of None ps) (tops (p.entry apart (t.group_comment c) ∷ ps)) (from (waiting-most held)) (omega (arith, entries-tops None ps))
entries-tops held (p.entry apart (t.resource_comment c) ∷ ps) = both-most (waiting held) (t.resource_comment c ∷ entries_of None ps) (tops (p.entry apart (t.resource_comment c) ∷ ps)) (from (waiting-most held)) (omega (arith, entries-tops None ps))
entries-tops held (p.entry apart (t.junk s) ∷ ps) = both-most (waiting held) (t.junk s ∷ entries_of None ps) (tops (p.entry apart (t.junk s) ∷ ps)) (from (waiting-most held)) (omega (arith, entries-tops None ps))

listed-most : (es : List t.Entry) → entries_most (listed es) ≤ entries_most es
listed-most [] = omega arith
listed-most (t.message m ∷ es) = omega (arith, listed-most es)
listed-most (t.term m ∷ es) = omega (arith, listed-most es)
listed-most (t.comment c ∷ es) = omega (arith, listed-most es)
listed-most (t.group_comment c ∷ es) = omega (arith, listed-most es)
listed-most (t.resource_comment c ∷ es) = omega (arith, listed-most es)
listed-most (t.junk s ∷ es) = omega (arith, listed-most es)

list-most : (s : Text) → entries_most (list s) ≤ length s
list-most s =
    let tiling = each_text_has_a_tiling full s in
    let same : entries_of None (pieces_of full 0 false tiling.0) ≡ tree s = (tiling_gives_tree_and_errors full s tiling.0 tiling.1).0 in
    omega (arith, listed-most (tree s), ap entries_most same, entries-tops None (pieces_of full 0 false tiling.0), pieces-tops full 0 false tiling.0, tiles-most tiling.1)

lists-most : (sources : List Text) → entries_most (lists sources) ≤ most_bytes sources
lists-most [] = omega arith
lists-most (s ∷ ss) = both-most (list s) (lists ss) (most_bytes (s ∷ ss)) (omega (arith, list-most s)) (omega (arith, lists-most ss))

-- ---- ids

module _ {F : Type 0} where
  insert-by : (o : Ordering) (pair : Text × Meaning F) (ids more : Ids F) (name : Text) (m : Meaning F) (n : ℕ) → meaning_most m ≤ n → ids_most (pair ∷ ids) ≤ n → ids_most more ≤ n →
      ids_most (match_ordering o ((name, m) ∷ pair ∷ ids) ((pair.0, m) ∷ ids) (pair ∷ more)) ≤ n
  insert-by Less pair ids more name m n h k l = omega (arith, h, k)
  insert-by Equal pair ids more name m n h k l = omega (arith, h, k)
  insert-by Greater pair ids more name m n h k l = omega (arith, k, l)

  insert-most : (ids : Ids F) (name : Text) (m : Meaning F) (n : ℕ) → meaning_most m ≤ n → ids_most ids ≤ n → ids_most (insert_entry order ids name m) ≤ n
  insert-most [] name m n h k = omega (arith, h)
  insert-most (pair ∷ ids) name m n h k = insert-by (order name pair.0) pair ids (insert_entry order ids name m) name m n h k (insert-most ids name m n h (omega (arith, k)))

  with-by : (b : Bool) (ids more : Ids F) (n : ℕ) → ids_most ids ≤ n → ids_most more ≤ n → ids_most (cond b ids more) ≤ n
  with-by true ids more n h k = h
  with-by false ids more n h k = k

  with_id-most : (overriding : Bool) (ids : Ids F) (pair : Text × Meaning F) (n : ℕ) → ids_most ids ≤ n → meaning_most pair.1 ≤ n → ids_most (with_id overriding ids pair) ≤ n
  with_id-most overriding ids pair n h k = with-by (is_some (find ids pair.0) && not overriding) ids (insert_entry order ids pair.0 pair.1) n h (insert-most ids pair.0 pair.1 n k h)

  with_ids-most : (overriding : Bool) (ids : Ids F) (es : List t.Entry) (n : ℕ) → ids_most ids ≤ n → entries_most es ≤ n → ids_most (with_ids overriding ids (entries_by_id es)) ≤ n
  with_ids-most overriding ids [] n h k = h
  with_ids-most overriding ids (t.message m ∷ es) n h k = with_ids-most overriding (with_id overriding ids (m.id, message m)) es n (with_id-most overriding ids (m.id, message m) n h (omega (arith, k))) (omega (arith, k))
  with_ids-most overriding ids (t.term m ∷ es) n h k = with_ids-most overriding (with_id overriding ids (m.id, term m)) es n (with_id-most overriding ids (m.id, term m) n h (omega (arith, k))) (omega (arith, k))
  with_ids-most overriding ids (t.comment c ∷ es) n h k = with_ids-most overriding ids es n h (omega (arith, k))
  with_ids-most overriding ids (t.group_comment c ∷ es) n h k = with_ids-most overriding ids es n h (omega (arith, k))
  with_ids-most overriding ids (t.resource_comment c ∷ es) n h k = with_ids-most overriding ids es n h (omega (arith, k))
  with_ids-most overriding ids (t.junk s ∷ es) n h k = with_ids-most overriding ids es n h (omega (arith, k))

  asked-most : (attribute : Option Text) (o : Option (Meaning F)) (n : ℕ) → found_most o ≤ n → value_most (pattern_asked attribute o) ≤ n
  asked-most attribute None n h = omega arith
  asked-most attribute (Some number_function) n h = omega arith
  asked-most attribute (Some (function f)) n h = omega arith
  asked-most attribute (Some (term m)) n h = omega arith
  asked-most None (Some (message m)) n h = omega (arith, h)
  asked-most (Some name) (Some (message m)) n h = attribute-most n name m.attributes (omega (arith, h))

pub references_fit : (F : Type 0) → ReferencesFit F
references_fit F overriding sources = with_ids-most {F = F} overriding (number_pair ∷ []) (lists sources) (most_bytes sources) (omega arith) (lists-most sources)

times-le : (x y n : ℕ) → x ≤ y → n * x ≤ n * y
times-le x y zero s = omega arith
times-le x y (suc n) s = omega (arith, times-le x y n s, s)

bound : (a r i l k : ℕ) → r ≤ l → i ≤ l → a ≤ 1 + k * max r i → a ≤ 1 + k * l
bound a r i l k h j e =
    let m : max r i ≤ l = omega (arith, h, j) in
    le_trans e (omega (arith, times-le (max r i) l k m))

pub requests_fit : (S F : Type 0) → RequestsFit S F
requests_fit S F env overriding sources id attribute es args h =
    let ids = ids_of {F = F} overriding sources in
    let fit : ids_most ids ≤ most_bytes sources = references_fit F overriding sources in
    let own : value_most (pattern_asked attribute (find ids id)) ≤ most_bytes sources = asked-most attribute (find ids id) (most_bytes sources) (le_trans (found-most ids id) fit) in
    let mine : most_references es ≤ most_bytes sources = omega (arith, own, ap value_most h) in
    bound (answer_written (over (find ids) env) args es).entered (most_references es) (ids_most ids) (most_bytes sources) 100 mine fit ((enters-within-bound env ids).requests 100 args es)
