-- What is written for a line, by whether it has arguments.
use Rattle.std.proofs.Common.{◌≡◌, true, false, List, Option, Some, None, option_map, refl, ap}
use Rattle.std.specs.Prelude.{is_some}
use Rattle.fluent_grammar.specs.Words.{Text}
use Rattle.fluent_serve.specs.Frames.{Answer, bad}
use Rattle.fluent_run.specs.DeskView.{answer_asked, values_by_name}
use Rattle.fluent_value.specs.Value.{Value}

module _ (answer : List (Text × Text) → Answer) where
  -- without arguments the line is bad
  pub bad-asked : (arguments : Option (List (Text × Text))) → false ≡ is_some arguments → bad ≡ answer_asked answer arguments
  bad-asked None is = refl
  bad-asked (Some more) is = absurd cc

  -- an answer that is the same for all arguments
  pub same-asked : (one : Answer) (arguments : Option (List (Text × Text))) → true ≡ is_some arguments → ((more : List (Text × Text)) → one ≡ answer more) → one ≡ answer_asked answer arguments
  same-asked one None is same = absurd cc
  same-asked one (Some more) is same = same more

  -- answers that are the same for all arguments
  pub like-asked : (other : List (Text × Text) → Answer) (arguments : Option (List (Text × Text))) → ((more : List (Text × Text)) → other more ≡ answer more) → answer_asked other arguments ≡ answer_asked answer arguments
  like-asked other None same = refl
  like-asked other (Some more) same = same more

-- there are no values if there are no arguments
pub valued-bad : (answer : List (Text × Text) → Answer) (arguments : Option (List (Text × Text))) → None ≡ option_map values_by_name arguments → bad ≡ answer_asked answer arguments
valued-bad answer None is = refl
valued-bad answer (Some pairs) is = absurd cc

-- an answer by the values of the arguments
pub valued-asked : (answer : List (Text × Value (Unit {0})) → Answer) (values : List (Text × Value (Unit {0}))) (arguments : Option (List (Text × Text))) →
    Some values ≡ option_map values_by_name arguments → answer values ≡ answer_asked (λ pairs. answer (values_by_name pairs)) arguments
valued-asked answer values None is = absurd cc
valued-asked answer values (Some pairs) is = let same : values ≡ values_by_name pairs = cc in ap answer same
