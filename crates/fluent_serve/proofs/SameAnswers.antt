-- Engines that answer each line alike write alike.
use Rattle.std.proofs.Common.{◌≡◌, ℕ, List, [], ◌∷◌, ◌++◌, take, Option, Some, None, IfSome, refl, sym, ap, subst, ◌∙◌, append-nil}
use Rattle.std.specs.Io.KnownBytes.{Consumes, Appends, IsAtEnd}
use Rattle.fluent_serve.specs.Text.{Text}
use Rattle.fluent_serve.specs.Lines.{whole_lines, lines_of}
use Rattle.fluent_serve.specs.Frames.{answers_to, answers}
use Rattle.fluent_serve.specs.Exchange.{Devices, Exchanged, IsFrontOf, AnswersAll, AnswersFirst, AnswersWhole, AnswersFront}

module _ {f g : Text → Text} (same : (line : Text) → f line ≡ g line) where
  same_answers_to : (lines : List Text) → answers_to f lines ≡ answers_to g lines
  same_answers_to [] = refl
  same_answers_to (l ∷ ls) = ap (λ s. s ++ answers_to f ls) (same l) ∙ ap (λ s. g l ++ s) (same_answers_to ls)

  module _ {d : Devices} where
    pub same_all : AnswersAll d f → AnswersAll d g
    same_all p = record { taken = p.taken; exchanged = subst (Exchanged d p.taken) (same_answers_to (lines_of p.taken)) p.exchanged }

    pub same_first : AnswersFirst d f → AnswersFirst d g
    same_first p = record { taken = p.taken; count = p.count; exchanged = subst (Exchanged d p.taken) (same_answers_to (take p.count (whole_lines p.taken))) p.exchanged }

    pub same_whole : {failed : Type 0} {bound : ℕ} → AnswersWhole d f failed bound → AnswersWhole d g failed bound
    same_whole p = record { taken = p.taken; exchanged = subst (Exchanged d p.taken) (same_answers_to (whole_lines p.taken)) p.exchanged; reason = p.reason }

    pub same_front : AnswersFront d f → AnswersFront d g
    same_front p = record { taken = p.taken; given = p.given; exchanged = p.exchanged; front = subst (IsFrontOf p.given) (same_answers_to (lines_of p.taken)) p.front }

-- all known bytes were read
all_taken : (before after : Option Text) (taken : Text) → Consumes before after taken → IsAtEnd after → IfSome before (λ input. input ≡ taken)
all_taken None after taken read end = tt
all_taken (Some input) None taken read end = absurd read
all_taken (Some input) (Some rest) taken read end = read ∙ (ap (λ s. taken ++ s) end ∙ append-nil taken)

-- the answers to all known bytes are written
pub answers_known : {d : Devices} {f : Text → Text} → AnswersAll d f → IsAtEnd d.left_after → IfSome d.left_before (λ input. Appends d.held_before d.held_after (answers f input))
answers_known {d} {f} p end = by_known d.left_before (all_taken d.left_before d.left_after p.taken p.exchanged.read end)
  where
    by_known : (o : Option Text) → IfSome o (λ input. input ≡ p.taken) → IfSome o (λ input. Appends d.held_before d.held_after (answers f input))
    by_known None is = tt
    by_known (Some input) is = subst (λ bytes. Appends d.held_before d.held_after (answers f bytes)) (sym is) p.exchanged.written
