-- What the code's answers stand for.
use Rattle.std.specs.Prelude.{◌≡◌, ℕ, List, [], ◌∷◌, ◌++◌, Option, Some, None, option_map, codes, decimal}
use Rattle.std.specs.Global.{Vec}
use Rattle.std.specs.List.{flat_map}
use Rattle.fluent_serve.specs.Text.{Text}
use Rattle.fluent_serve.specs.Frames as frames
use Rattle.fluent_serve.specs.declared.answer.Answer.{Answer}
use Rattle.fluent_serve.specs.declared.answer.Answer.TheVariants as given

-- a text in front of others, if all are known
abbrev pub and_text : Option Text → Option (List Text) → Option (List Text)
and_text None rest = None
and_text (Some s) None = None
and_text (Some s) (Some rest) = Some (s ∷ rest)

-- what errors are shown as, if each says it
abbrev pub error_texts : {E : Type 0} → (E → Option Text) → List E → Option (List Text)
error_texts shown [] = Some []
error_texts shown (e ∷ es) = and_text (shown e) (error_texts shown es)

-- an answer, if its errors say what they are shown as
abbrev pub answer_view : {E : Type 0} → (E → Option Text) → Answer E → Option frames.Answer
answer_view shown given.Bad = Some frames.bad
answer_view shown given.Nothing = Some frames.none
answer_view shown (given.Text s es) = option_map (λ errors. frames.ok (record { text = s.now; errors = errors })) (error_texts shown es.now)

-- this text is added at the end of the bytes
abbrev pub Adds : Vec ℕ → Vec ℕ → Text → Type 0
Adds out out' text = out'.items ≡ out.items ++ text

-- and so is a line for each of these texts
abbrev pub AddsLines : Vec ℕ → Vec ℕ → List Text → Type 0
AddsLines out out' texts = Adds out out' (flat_map frames.ended texts)

-- the line before a text, with its length in bytes and the number of errors
abbrev pub head_of : ℕ → ℕ → Text
head_of text_len error_count = codes "ok " ++ (decimal text_len ++ (codes " " ++ frames.ended (decimal error_count)))
