-- How far a block of bytes is answered.
use Rattle.std.proofs.Common.{◌≡◌, List, [], ◌∷◌, ◌++◌, length, take, Option, refl, sym, ap, subst, ◌∙◌, append_assoc, append-nil}
use Rattle.std.proofs.Math.Seq.{take-append_seam}
use Rattle.std.proofs.lemmas.Grind.{flat_map-append}
use Rattle.fluent_serve.specs.Text.{Text, line_feed}
use Rattle.fluent_serve.specs.Lines.{whole_lines, unfinished}
use Rattle.fluent_serve.specs.Frames.{answers_to}
use Rattle.fluent_serve.specs.Lines.{IsUnfinished}
use Rattle.fluent_serve.specs.Waiting.{Puts, PutsFirst, PutsFront}
use Rattle.fluent_serve.proofs.Exchange.{puts_nothing, puts_then, puts_then_front, front_longer}
use Rattle.fluent_serve.proofs.Lines.{whole_lines_first, unfinished_first, whole_lines-unfinished, unfinished-unfinished, unfinished_append}

-- these lines of a text are answered, and this much of it is left
pub record Answered (held_before : Option Text) (waiting_before : Text) (held_now : Option Text) (waiting_now : Text) (answer : Text → Text) (all left : Text) : Type 0 where
  pub lines : List Text
  pub puts : Puts held_before waiting_before held_now waiting_now (answers_to answer lines)
  pub whole : whole_lines all ≡ lines ++ whole_lines left
  pub behind : unfinished all ≡ unfinished left

pub answered_nothing : (held : Option Text) (waiting : Text) (answer : Text → Text) (all : Text) → Answered held waiting held waiting answer all all
answered_nothing held waiting answer all = record { lines = []; puts = puts_nothing held waiting; whole = refl; behind = refl }

answers_to-push : (answer : Text → Text) (lines : List Text) (line : Text) → answers_to answer (lines ++ line ∷ []) ≡ answers_to answer lines ++ answer line
answers_to-push answer lines line = flat_map-append answer lines (line ∷ []) ∙ ap (λ s. answers_to answer lines ++ s) (append-nil (answer line))

module _ {h i : Option Text} {u v : Text} {answer : Text → Text} {all : Text} (front rest line behind : Text) (so_far : Answered h u i v answer all (front ++ rest))
    (free_front : IsUnfinished front) (free_line : IsUnfinished line) (split : rest ≡ line ++ line_feed ∷ behind) where
  is_line : front ++ rest ≡ (front ++ line) ++ line_feed ∷ behind
  is_line = ap (λ s. front ++ s) split ∙ sym (append_assoc front line (line_feed ∷ behind))

  whole_next : whole_lines all ≡ so_far.lines ++ ((front ++ line) ∷ whole_lines behind)
  whole_next = so_far.whole ∙ (ap (λ s. so_far.lines ++ whole_lines s) is_line
      ∙ ap (λ ls. so_far.lines ++ ls) (whole_lines_first (front ++ line) behind (unfinished_append front line free_front free_line)))

  -- the next line is answered
  pub answered_next : {j : Option Text} {w : Text} (empty : Text) → empty ≡ [] → Puts i v j w (answer (front ++ line)) → Answered h u j w answer all (empty ++ behind)
  answered_next {j} {w} empty is puts = record {
    lines = so_far.lines ++ (front ++ line) ∷ [];
    puts = subst (λ s. Puts h u j w s) (sym (answers_to-push answer so_far.lines (front ++ line))) (puts_then so_far.puts puts);
    whole = rw is (whole_next ∙ sym (append_assoc so_far.lines ((front ++ line) ∷ []) (whole_lines behind)));
    behind = rw is (so_far.behind ∙ (ap unfinished is_line ∙ unfinished_first (front ++ line) behind (unfinished_append front line free_front free_line)));
  }

  -- the writer failed at the next line
  pub answered_front : {j : Option Text} → PutsFront i v j (answer (front ++ line)) → PutsFront h u j (answers_to answer (whole_lines all))
  answered_front {j} failed =
      let text : answers_to answer (whole_lines all) ≡ (answers_to answer so_far.lines ++ answer (front ++ line)) ++ answers_to answer (whole_lines behind) =
      ap (answers_to answer) whole_next ∙ (flat_map-append answer so_far.lines ((front ++ line) ∷ whole_lines behind)
      ∙ sym (append_assoc (answers_to answer so_far.lines) (answer (front ++ line)) (answers_to answer (whole_lines behind)))) in
      subst (λ s. PutsFront h u j s) (sym text) (front_longer (answers_to answer (whole_lines behind)) (puts_then_front so_far.puts failed))

module _ {h i : Option Text} {u v : Text} {answer : Text → Text} {all left : Text} (so_far : Answered h u i v answer all left) where
  -- memory was refused at the next line
  pub answered_first : {j : Option Text} {w : Text} → Puts i v j w [] → PutsFirst h u j w answer (whole_lines all)
  answered_first {j} {w} nothing = record {
    count = length so_far.lines;
    puts = subst (λ s. Puts h u j w s)
        (append-nil (answers_to answer so_far.lines) ∙ ap (answers_to answer) (sym (ap (take (length so_far.lines)) so_far.whole ∙ take-append_seam so_far.lines (whole_lines left))))
        (puts_then so_far.puts nothing);
  }

  -- nothing is left but an unfinished line
  pub answered_all : IsUnfinished left → Puts h u i v (answers_to answer (whole_lines all))
  answered_all free = subst (λ ls. Puts h u i v (answers_to answer ls))
      (sym (so_far.whole ∙ (ap (λ ls. so_far.lines ++ ls) (whole_lines-unfinished left free) ∙ append-nil so_far.lines))) so_far.puts

  pub answered_left : IsUnfinished left → left ≡ unfinished all
  answered_left free = sym (so_far.behind ∙ unfinished-unfinished left free)
