-- How far a run has come.
use Rattle.std.proofs.Common.{◌≡◌, ℕ, ◌+◌, ◌≤◌, ◌<◌, List, [], ◌++◌, length, take, drop, Option, sym, ap, subst, ◌∙◌, arith, append_assoc, append-nil}
use Rattle.std.specs.Prelude.{◌⊎◌}
use Rattle.std.proofs.lemmas.List.{length-append, take-append-drop, take_all}
use Rattle.std.proofs.lemmas.Grind.{flat_map-append}
use Rattle.std.proofs.Math.Seq.{take-append-add}
use Rattle.std.specs.Io.KnownBytes.{Consumes, Appends, Keeps}
use Rattle.fluent_serve.specs.Text.{Text}
use Rattle.fluent_serve.specs.Lines.{whole_lines, unfinished, lines_of, unless_empty}
use Rattle.fluent_serve.specs.Frames.{answers_to, answers}
use Rattle.fluent_serve.specs.Exchange.{IsFrontOf, devices_of, AnswersAll, AnswersFirst, AnswersWhole, AnswersFront}
use Rattle.fluent_serve.specs.Lines.{IsUnfinished}
use Rattle.fluent_serve.specs.Waiting.{Puts, PutsFirst, PutsFront, ServesAll, ServesFirst, ServesWhole, ServesFront}
use Rattle.fluent_serve.proofs.Lines.{whole_lines-append, unfinished-append, unfinished_open}
use Rattle.fluent_serve.proofs.Exchange.{appends_trans, appends_nothing, consumes_trans, consumes_nothing, consumes_kept, puts_then_front}

-- These bytes were read, in at most this many calls, and their whole lines are answered. What is after them is kept.
pub record SoFar (left_before left_now held_before held_now : Option Text) (line output : Text) (answer : Text → Text) (calls : ℕ) : Type 0 where
  pub taken : Text
  pub read : Consumes left_before left_now taken
  pub written : Appends held_before held_now (answers_to answer (whole_lines taken))
  pub line_is : line ≡ unfinished taken
  pub no_output : output ≡ []
  pub at_least : calls ≤ length taken

pub at_start : (left held : Option Text) (line output : Text) (answer : Text → Text) → line ≡ [] → output ≡ [] → SoFar left left held held line output answer 0
unfolding whole_lines unfinished
at_start left held line output answer no_line no_output = record {
  taken = [];
  read = consumes_nothing left;
  written = appends_nothing held;
  line_is = no_line;
  no_output = no_output;
  at_least = omega arith;
}

-- all answers are those to the whole lines, and that to the last one
all_of : (answer : Text → Text) (bytes : Text) → answers answer bytes ≡ answers_to answer (whole_lines bytes) ++ answers_to answer (unless_empty (unfinished bytes))
unfolding lines_of
all_of answer bytes = flat_map-append answer (whole_lines bytes) (unless_empty (unfinished bytes))

-- the output of a run up to now, with what is put after it
puts_behind : (h i j : Option Text) (x y output waiting : Text) → Appends h i x → output ≡ [] → Puts i output j waiting y → Puts h [] j waiting (x ++ y)
puts_behind h i j x y output waiting p none q = record {
  sent = x ++ q.sent;
  written = appends_trans h i j x q.sent p q.written;
  split = ap (λ s. x ++ s) (ap (λ o. o ++ y) (sym none) ∙ q.split) ∙ sym (append_assoc x q.sent waiting);
}

front_behind : (h i j : Option Text) (x y output : Text) → Appends h i x → output ≡ [] → PutsFront i output j y → PutsFront h [] j (x ++ y)
front_behind h i j x y output p none q = record {
  sent = x ++ q.sent;
  written = appends_trans h i j x q.sent p q.written;
  front = record {
    back = q.front.back;
    split = ap (λ s. x ++ s) (ap (λ o. o ++ y) (sym none) ∙ q.front.split) ∙ sym (append_assoc x q.sent q.front.back);
  };
}

front_longer : (h j : Option Text) (x y : Text) → PutsFront h [] j x → PutsFront h [] j (x ++ y)
front_longer h j x y p = record {
  sent = p.sent;
  written = p.written;
  front = record { back = p.front.back ++ y; split = ap (λ s. s ++ y) p.front.split ∙ append_assoc p.sent p.front.back y };
}

module _ {left_before left_now held_before held_now : Option Text} {line output : Text} {answer : Text → Text} {calls : ℕ}
    (so_far : SoFar left_before left_now held_before held_now line output answer calls) where
  pub line_free : IsUnfinished line
  line_free = subst IsUnfinished (sym so_far.line_is) (unfinished_open so_far.taken)

  -- the reader failed, or gave no end
  pub serves_whole : {left_after : Option Text} {failed : Type 0} {bound : ℕ} → Keeps left_now left_after → failed ⊎ (bound ≤ length so_far.taken) →
      ServesWhole (devices_of left_before left_after held_before held_now) output answer failed bound
  serves_whole {left_after} kept reason = record {
    taken = so_far.taken;
    read = consumes_kept left_before left_now left_after so_far.taken so_far.read kept;
    puts = record {
      sent = answers_to answer (whole_lines so_far.taken);
      written = so_far.written;
      split = sym (ap (λ o. answers_to answer (whole_lines so_far.taken) ++ o) so_far.no_output ∙ append-nil (answers_to answer (whole_lines so_far.taken)));
    };
    reason = reason;
  }

  -- the end of the input
  all_answers : answers answer so_far.taken ≡ answers_to answer (whole_lines so_far.taken) ++ answers_to answer (unless_empty line)
  unfolding lines_of
  all_answers = rw so_far.line_is (flat_map-append answer (whole_lines so_far.taken) (unless_empty (unfinished so_far.taken)))

  pub serves_all : {left_after : Option Text} {waiting : Text} → Consumes left_now left_after [] → waiting ≡ output ++ answers_to answer (unless_empty line) →
      ServesAll (devices_of left_before left_after held_before held_now) waiting answer
  serves_all {left_after} {waiting} none answered = record {
    taken = so_far.taken;
    read = subst (λ s. Consumes left_before left_after s) (append-nil so_far.taken) (consumes_trans left_before left_now left_after so_far.taken [] so_far.read none);
    puts = record {
      sent = answers_to answer (whole_lines so_far.taken);
      written = so_far.written;
      split = all_answers ∙ ap (λ s. answers_to answer (whole_lines so_far.taken) ++ s) (sym (answered ∙ ap (λ o. o ++ answers_to answer (unless_empty line)) so_far.no_output));
    };
  }

  -- memory was refused before a block was read, or at the line after the last one
  pub serves_first : {left_after : Option Text} {waiting : Text} → Consumes left_now left_after [] → waiting ≡ output →
      ServesFirst (devices_of left_before left_after held_before held_now) waiting answer
  serves_first {left_after} {waiting} none same = record {
    taken = so_far.taken;
    read = subst (λ s. Consumes left_before left_after s) (append-nil so_far.taken) (consumes_trans left_before left_now left_after so_far.taken [] so_far.read none);
    puts = record {
      count = length (whole_lines so_far.taken);
      puts = record {
        sent = answers_to answer (whole_lines so_far.taken);
        written = so_far.written;
        split = ap (answers_to answer) (take_all (length (whole_lines so_far.taken)) (whole_lines so_far.taken) (omega arith))
            ∙ sym (ap (λ o. answers_to answer (whole_lines so_far.taken) ++ o) (same ∙ so_far.no_output) ∙ append-nil (answers_to answer (whole_lines so_far.taken)));
      };
    };
  }

  -- one more block of bytes was read
  module _ (left_after : Option Text) (block : Text) (gave : Consumes left_now left_after block) where
    read_next : Consumes left_before left_after (so_far.taken ++ block)
    read_next = consumes_trans left_before left_now left_after so_far.taken block so_far.read gave

    whole_next : whole_lines (so_far.taken ++ block) ≡ whole_lines so_far.taken ++ whole_lines (line ++ block)
    whole_next = rw so_far.line_is (whole_lines-append block so_far.taken)

    answers_next : answers_to answer (whole_lines (so_far.taken ++ block)) ≡ answers_to answer (whole_lines so_far.taken) ++ answers_to answer (whole_lines (line ++ block))
    answers_next = ap (answers_to answer) whole_next ∙ flat_map-append answer (whole_lines so_far.taken) (whole_lines (line ++ block))

    -- memory was refused at one of its lines
    pub first_in_block : {held_after : Option Text} {waiting : Text} → PutsFirst held_now output held_after waiting answer (whole_lines (line ++ block)) →
        ServesFirst (devices_of left_before left_after held_before held_after) waiting answer
    first_in_block {held_after} {waiting} first =
        let done = whole_lines so_far.taken in
        let lines = whole_lines (line ++ block) in
        let given : answers_to answer (take (length done + first.count) (whole_lines (so_far.taken ++ block))) ≡ answers_to answer done ++ answers_to answer (take first.count lines) =
        ap (λ ls. answers_to answer (take (length done + first.count) ls)) whole_next
        ∙ (ap (answers_to answer) (take-append-add done lines first.count) ∙ flat_map-append answer done (take first.count lines)) in
        record {
          taken = so_far.taken ++ block;
          read = read_next;
          puts = record {
            count = length done + first.count;
            puts = subst (λ t. Puts held_before [] held_after waiting t) (sym given)
                (puts_behind held_before held_now held_after (answers_to answer done) (answers_to answer (take first.count lines)) output waiting so_far.written so_far.no_output first.puts);
          };
        }

    -- the writer failed at one of its lines
    pub front_in_block : {held_after : Option Text} → PutsFront held_now output held_after (answers_to answer (whole_lines (line ++ block))) →
        ServesFront (devices_of left_before left_after held_before held_after) answer
    front_in_block {held_after} cut = record {
      taken = so_far.taken ++ block;
      read = read_next;
      puts = subst (λ t. PutsFront held_before [] held_after t) (sym (all_of answer (so_far.taken ++ block)))
          (front_longer held_before held_after (answers_to answer (whole_lines (so_far.taken ++ block))) (answers_to answer (unless_empty (unfinished (so_far.taken ++ block))))
          (subst (λ t. PutsFront held_before [] held_after t) (sym answers_next)
          (front_behind held_before held_now held_after (answers_to answer (whole_lines so_far.taken)) (answers_to answer (whole_lines (line ++ block))) output so_far.written so_far.no_output cut)));
    }

    -- all its lines are answered, and the writer failed then
    pub block_cut : {held_mid held_after : Option Text} {waiting : Text} → Puts held_now output held_mid waiting (answers_to answer (whole_lines (line ++ block))) →
        PutsFront held_mid waiting held_after [] → ServesFront (devices_of left_before left_after held_before held_after) answer
    block_cut {held_mid} {held_after} puts failed = front_in_block
        (subst (λ t. PutsFront held_now output held_after t) (append-nil (answers_to answer (whole_lines (line ++ block)))) (puts_then_front puts failed))

    -- all its lines are answered, and the answers are written
    pub block_done : {held_mid held_after : Option Text} {waiting next left : Text} →
        Puts held_now output held_mid waiting (answers_to answer (whole_lines (line ++ block))) → Appends held_mid held_after waiting →
        next ≡ unfinished (line ++ block) → left ≡ [] → 0 < length block →
        SoFar left_before left_after held_before held_after next left answer (calls + 1)
    block_done {held_mid} {held_after} {waiting} {next} {left} puts flushed next_is none some =
        let given = answers_to answer (whole_lines (line ++ block)) in
        let sent : puts.sent ++ waiting ≡ given = sym puts.split ∙ ap (λ o. o ++ given) so_far.no_output in
        record {
          taken = so_far.taken ++ block;
          read = read_next;
          written = subst (λ t. Appends held_before held_after t) (sym answers_next)
              (appends_trans held_before held_now held_after (answers_to answer (whole_lines so_far.taken)) given so_far.written
              (subst (λ t. Appends held_now held_after t) sent (appends_trans held_now held_mid held_after puts.sent waiting puts.written flushed)));
          line_is = next_is ∙ (rw so_far.line_is (sym (unfinished-append block so_far.taken)));
          no_output = none;
          at_least = omega (arith, so_far.at_least, some, length-append so_far.taken block);
        }

-- what waited is written
flushed : (h i j : Option Text) (given waiting : Text) → Puts h [] i waiting given → Appends i j waiting → Appends h j given
flushed h i j given waiting puts sent = subst (λ t. Appends h j t) (sym puts.split) (appends_trans h i j puts.sent waiting puts.written sent)

-- a front of what waited is written
record FrontWritten (h j : Option Text) (given : Text) : Type 0 where
  sent : Text
  written : Appends h j sent
  front : IsFrontOf sent given

cut : (h i j : Option Text) (given waiting : Text) → Puts h [] i waiting given → PutsFront i waiting j [] → FrontWritten h j given
cut h i j given waiting puts failed = record {
  sent = puts.sent ++ failed.sent;
  written = appends_trans h i j puts.sent failed.sent puts.written failed.written;
  front = record {
    back = failed.front.back;
    split = puts.split ∙ (ap (λ s. puts.sent ++ s) (sym (append-nil waiting) ∙ failed.front.split) ∙ sym (append_assoc puts.sent failed.sent failed.front.back));
  };
}

front_of_more : {a b : Text} (c : Text) → IsFrontOf a b → IsFrontOf a (b ++ c)
front_of_more {a} c p = record { back = p.back ++ c; split = ap (λ s. s ++ c) p.split ∙ append_assoc a p.back c }

-- a front of the answers to whole lines is one of all answers
front_of_whole : (answer : Text → Text) (bytes front : Text) → IsFrontOf front (answers_to answer (whole_lines bytes)) → IsFrontOf front (answers answer bytes)
front_of_whole answer bytes front p = subst (IsFrontOf front) (sym (all_of answer bytes)) (front_of_more (answers_to answer (unless_empty (unfinished bytes))) p)

first_of_whole : (answer : Text → Text) (lines : List Text) (n : ℕ) (front : Text) → IsFrontOf front (answers_to answer (take n lines)) → IsFrontOf front (answers_to answer lines)
first_of_whole answer lines n front p = subst (IsFrontOf front)
    (sym (flat_map-append answer (take n lines) (drop n lines)) ∙ ap (answers_to answer) (take-append-drop n lines))
    (front_of_more (answers_to answer (drop n lines)) p)

-- the outcomes of a run, once what waited is written
module _ {left_before left_after held_before held_mid held_after : Option Text} {waiting : Text} {answer : Text → Text} (sent : Appends held_mid held_after waiting) where
  pub all_written : ServesAll (devices_of left_before left_after held_before held_mid) waiting answer → AnswersAll (devices_of left_before left_after held_before held_after) answer
  all_written p = record { taken = p.taken; exchanged = record { read = p.read; written = flushed held_before held_mid held_after (answers answer p.taken) waiting p.puts sent } }

  pub first_written : ServesFirst (devices_of left_before left_after held_before held_mid) waiting answer → AnswersFirst (devices_of left_before left_after held_before held_after) answer
  first_written p = record {
    taken = p.taken;
    count = p.puts.count;
    exchanged = record { read = p.read; written = flushed held_before held_mid held_after (answers_to answer (take p.puts.count (whole_lines p.taken))) waiting p.puts.puts sent };
  }

  pub whole_written : {failed : Type 0} {bound : ℕ} → ServesWhole (devices_of left_before left_after held_before held_mid) waiting answer failed bound →
      AnswersWhole (devices_of left_before left_after held_before held_after) answer failed bound
  whole_written p = record {
    taken = p.taken;
    exchanged = record { read = p.read; written = flushed held_before held_mid held_after (answers_to answer (whole_lines p.taken)) waiting p.puts sent };
    reason = p.reason;
  }

-- the same, where the writer fails then
module _ {left_before left_after held_before held_mid held_after : Option Text} {waiting : Text} {answer : Text → Text} (failed : PutsFront held_mid waiting held_after []) where
  front_from : (taken given : Text) → Consumes left_before left_after taken → Puts held_before [] held_mid waiting given →
      ((front : Text) → IsFrontOf front given → IsFrontOf front (answers answer taken)) → AnswersFront (devices_of left_before left_after held_before held_after) answer
  front_from taken given read puts longer =
      let some = cut held_before held_mid held_after given waiting puts failed in
      record { taken = taken; given = some.sent; exchanged = record { read = read; written = some.written }; front = longer some.sent some.front }

  pub all_cut : ServesAll (devices_of left_before left_after held_before held_mid) waiting answer → AnswersFront (devices_of left_before left_after held_before held_after) answer
  all_cut p = front_from p.taken (answers answer p.taken) p.read p.puts (λ front is. is)

  pub first_cut : ServesFirst (devices_of left_before left_after held_before held_mid) waiting answer → AnswersFront (devices_of left_before left_after held_before held_after) answer
  first_cut p = front_from p.taken (answers_to answer (take p.puts.count (whole_lines p.taken))) p.read p.puts.puts
      (λ front is. front_of_whole answer p.taken front (first_of_whole answer (whole_lines p.taken) p.puts.count front is))

  pub whole_cut : {reason : Type 0} {bound : ℕ} → ServesWhole (devices_of left_before left_after held_before held_mid) waiting answer reason bound →
      AnswersFront (devices_of left_before left_after held_before held_after) answer
  whole_cut p = front_from p.taken (answers_to answer (whole_lines p.taken)) p.read p.puts (λ front is. front_of_whole answer p.taken front is)

pub front_written : {left_before left_after held_before held_after : Option Text} {answer : Text → Text} →
    ServesFront (devices_of left_before left_after held_before held_after) answer → AnswersFront (devices_of left_before left_after held_before held_after) answer
front_written p = record { taken = p.taken; given = p.puts.sent; exchanged = record { read = p.read; written = p.puts.written }; front = p.puts.front }

-- nothing was read and nothing is written
pub nothing_served : (left held : Option Text) (answer : Text → Text) → AnswersFirst (devices_of left left held held) answer
nothing_served left held answer = record { taken = []; count = 0; exchanged = record { read = consumes_nothing left; written = appends_nothing held } }
