-- The answer to a line, by what it asks for.
use Rattle.std.proofs.Common.{◌≡◌, List, Option, Some, None, option_map, sym, ap, ◌∙◌}
use Rattle.fluent_answers.specs.Answers.{line_from, pattern_asked, reply_to, told}
use Rattle.fluent_grammar.specs.Tree.{Elements}
use Rattle.fluent_grammar.specs.Words.{Text}
use Rattle.fluent_meaning.specs.Environment.{Environment}
use Rattle.fluent_meaning.specs.Substitution.{answer_written}
use Rattle.fluent_serve.proofs.Values.{values_are_read}
use Rattle.fluent_serve.specs.Frames.{answer_line, answer_to, bad, found, frame_of}
use Rattle.fluent_serve.specs.Requests.{Request, request_of, request_with, with_values}
use Rattle.fluent_run.specs.DeskView.{answer_asked, values_by_name}
use Rattle.fluent_value.specs.Value.{Value, number_or_text}

module _ {F : Type 0} (env : Environment (Unit {0}) F) (line : Text) where
  -- what the line asks for, with values
  with-values : (o : Option (Request Text)) → o ≡ request_of (λ s. s) line → option_map (with_values (number_or_text {S = Unit {0}})) o ≡ request_of (number_or_text {S = Unit {0}}) line
  with-values o is = ap (option_map (with_values (number_or_text {S = Unit {0}}))) is ∙ sym (values_are_read (Value (Unit {0})) number_or_text line)

  -- it is no request
  pub line-bad : None ≡ request_of (λ s. s) line → frame_of bad ≡ line_from env line
  unfolding answer_line
  line-bad none = ap (λ o. frame_of (answer_to (reply_to env) o)) (with-values None none)

  -- it asks for this pattern, or for none that is there
  pub line-found : (r : Request Text) (asked : Option Elements) → Some r ≡ request_of (λ s. s) line → asked ≡ pattern_asked r.attribute (env.find r.id) →
      frame_of (found (option_map (λ es. told (answer_written env (values_by_name r.arguments) es)) asked)) ≡ line_from env line
  unfolding answer_line
  line-found r asked is there =
      ap (λ o. frame_of (found (option_map (λ es. told (answer_written env (values_by_name r.arguments) es)) o))) there
      ∙ ap (λ o. frame_of (answer_to (reply_to env) o)) (with-values (Some r) is)

  -- it asks for this pattern, or for none that is there, with arguments that are still to be read
  pub line-asked : (id : Text) (attribute : Option Text) (arguments : Option (List (Text × Text))) (asked : Option Elements) → request_with (id, attribute) arguments ≡ request_of (λ s. s) line → asked ≡ pattern_asked attribute (env.find id) →
      frame_of (answer_asked (λ ps. found (option_map (λ es. told (answer_written env (values_by_name ps) es)) asked)) arguments) ≡ line_from env line
  line-asked id attribute None asked is there = line-bad is
  line-asked id attribute (Some ps) asked is there = line-found (record { id = id; attribute = attribute; arguments = ps }) asked is there
