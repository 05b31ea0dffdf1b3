-- What formatting a message that may call functions comes to.
use Rattle.std.specs.Prelude.{◌≡◌, [], Option, None, Some, IsNone, IsSomeAnd, String, option_copied, option_map, string_bytes}
use Rattle.std.specs.declared.alloc.Global.{Global}
use denote.Ref.{Bor}
use Rattle.fluent_answers.specs.Answers.{pattern_asked, told}
use Rattle.fluent_ast.specs.declared.Pattern.{Pattern}
use Rattle.fluent_grammar.specs.Tree.{Elements}
use Rattle.fluent_grammar.specs.Words.{Text}
use Rattle.fluent_meaning.specs.Environment.{Environment}
use Rattle.fluent_meaning.specs.Ids.{Meaning, find}
use Rattle.fluent_meaning.specs.Steps.{Done}
use Rattle.fluent_meaning.specs.Substitution.{answer_written}
use Rattle.fluent_run.specs.Dated.{dated_view}
use Rattle.fluent_run.specs.DeskView.{desk_ids, elements_of, message_reply}
use Rattle.fluent_run.specs.ReplyView.{IsDone, reply_view}
use Rattle.fluent_run.specs.declared.reply.Reply.{Reply}
use Rattle.fluent_value.specs.declared.args.FluentArgs.{FluentArgs}
use Rattle.fluent_value.specs.Matching.{Plurals}
use Rattle.fluent_calls.specs.CallsView.{desk_environment}
use Rattle.fluent_calls.specs.Gathering.{AreGathered}
use Rattle.fluent_calls.specs.Functions.{Functions, IsUnanswered, Table}
use Rattle.fluent_calls.specs.declared.desk.FunctionDesk.{FunctionDesk}
use Rattle.fluent_calls.specs.declared.desk.Outcome.{Outcome}
use Rattle.fluent_calls.specs.declared.desk.Outcome.TheVariants as outcome
use Rattle.fluent_date.specs.declared.date_time.FluentDateTime.{FluentDateTime}
use Rattle.fluent_dates.specs.declared.value.DateTimeValue.{DateTimeValue}
use Rattle.fluent_calls.specs.declared.callee.Callee.{Callee}

-- what was written, or by what ids stand for a call to which the table has no answer
abbrev pub ComesTo : (Text → Option (Meaning Callee)) → Done Text → Table → Outcome → Type 0
ComesTo find done table (outcome.Text reply) = IsDone done reply
ComesTo find done table (outcome.Call call) = IsUnanswered find table (string_bytes call)

-- By what stays the same while the table's functions answer.
module _ (env : Environment FluentDateTime Callee) where
  -- there is no such message, value or attribute, or this is what it comes to with these arguments
  abbrev pub IsOutcome : Text → Option Text → Table → Table → Option Outcome → Type 0
  IsOutcome id attribute arguments table None = IsNone (pattern_asked attribute (env.find id))
  IsOutcome id attribute arguments table (Some outcome) = IsSomeAnd (pattern_asked attribute (env.find id))
      (λ elements. ComesTo env.find (answer_written env arguments elements) table outcome)

  -- the same for the code's name and answers
  abbrev pub IsOutcomeOf : Text → Option (Bor Text) → Table → FluentArgs DateTimeValue → Option Outcome → Type 0
  IsOutcomeOf id attribute arguments answers outcome = IsOutcome id (option_copied attribute) arguments (dated_view answers) outcome

-- By what a plural source means, what functions give to a call that has no answer, and what a desk has.
module _ {M : Type 0} (category_of : M → Plurals) (otherwise : Functions) (made : FunctionDesk M) where
  -- what a message comes to
  abbrev pub Formats : Text → Option (Bor Text) → Table → FluentArgs DateTimeValue → Option Outcome → Type 0
  Formats id attribute arguments answers outcome =
      IsOutcomeOf (desk_environment category_of otherwise made (dated_view answers)) id attribute arguments answers outcome

  -- the same of the code's pattern, with these arguments
  abbrev pub Resolves : Table → FluentArgs DateTimeValue → Pattern (Bor Text) → Outcome → Type 0
  Resolves arguments answers pattern outcome = ComesTo (find (desk_ids made.desk))
      (answer_written (desk_environment category_of otherwise made (dated_view answers)) arguments (elements_of pattern)) (dated_view answers) outcome

  -- what the code's pattern gives without answers to calls
  abbrev pub Writes : Table → Pattern (Bor Text) → Reply → Type 0
  Writes arguments pattern reply = reply_view reply
      ≡ told (answer_written (desk_environment category_of otherwise made []) arguments (elements_of pattern))

  -- what a message gives without answers to calls
  abbrev pub Replies : Text → Option (Bor Text) → FluentArgs DateTimeValue → Option Reply → Type 0
  Replies id attribute arguments reply =
      option_map reply_view reply ≡ message_reply (desk_environment category_of otherwise made []) id (option_copied attribute) (dated_view arguments)

  -- these lines are of the calls that are gathered of a pattern
  abbrev pub Lists : FluentArgs DateTimeValue → FluentArgs DateTimeValue → Elements → String Global → Type 0
  Lists arguments answers elements text =
      AreGathered (desk_environment category_of otherwise made (dated_view answers)) (dated_view arguments) (dated_view answers) elements (string_bytes text)

  -- there is no such message, value or attribute, or these lines are of the calls that are gathered of it
  abbrev pub ListsOf : Text → Option (Bor Text) → FluentArgs DateTimeValue → FluentArgs DateTimeValue → Option (String Global) → Type 0
  ListsOf id attribute arguments answers None = IsNone (pattern_asked (option_copied attribute) (find (desk_ids made.desk) id))
  ListsOf id attribute arguments answers (Some text) =
      IsSomeAnd (pattern_asked (option_copied attribute) (find (desk_ids made.desk) id)) (λ elements. Lists arguments answers elements text)
