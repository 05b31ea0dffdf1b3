-- Which answers there are to a question.
use Rattle.std.specs.Prelude.{◌≡◌, Bool, true, false, List, [], Option, None, Some, IsNone, IsSome, IsSomeAnd, option_copied, string_bytes}
use Rattle.std.specs.Option.{MatchOption}
use denote.Ref.{Bor}
use Rattle.fluent_answers.specs.Answers.{pattern_asked}
use Rattle.fluent_calls.specs.Functions.{IsUnanswered, Table}
use Rattle.fluent_calls.specs.Gathering.{AreGathered}
use Rattle.fluent_calls.specs.declared.desk.FunctionDesk.{FunctionDesk}
use Rattle.fluent_plurals.specs.declared.plurals.LanguagePlurals.{LanguagePlurals}
use Rattle.fluent_grammar.specs.Words.{Text}
use Rattle.fluent_ids.specs.Found.{message_in}
use Rattle.fluent_meaning.specs.Environment.{Environment}
use Rattle.fluent_meaning.specs.Ids.{Ids, Meaning, find}
use Rattle.fluent_run.specs.DeskView.{message_reply}
use Rattle.fluent_run.specs.Listing.{attribute_lines, message_lines}
use Rattle.fluent_run.specs.ReplyView.{reply_view}
use Rattle.fluent_value.specs.Value.{Value}
use Rattle.fluent_value.specs.declared.args.FluentArgs.{FluentArgs}
use Rattle.fluent_check.specs.Report.{report_text}
use Rattle.fluent_kept.specs.Catalogs.{Catalog, ForIts, IsDeskOf, calling_in, catalog_calling, catalog_entries, catalog_environment, catalog_ids}
use Rattle.fluent_kept.specs.Variables.{variable_lines}
use Rattle.fluent_kept.specs.declared.desk.KeptDesk.{KeptDesk}
use Rattle.fluent_kept.specs.declared.question.Answer.{Answer}
use Rattle.fluent_kept.specs.declared.question.Answer.TheVariants as answer
use Rattle.fluent_kept.specs.declared.question.Question.{Question}
use Rattle.fluent_kept.specs.declared.question.Question.TheVariants as question
use Rattle.fluent_date.specs.declared.date_time.FluentDateTime.{FluentDateTime}
use Rattle.fluent_dates.specs.declared.value.DateTimeValue.{DateTimeValue}
use Rattle.fluent_calls.specs.declared.callee.Callee.{Callee}
use Rattle.fluent_run.specs.Dated.{dated_view}

module _ {F : Type 0} (env : Environment FluentDateTime F) (id : Text) where
  -- there is no message of the id, or there is one
  abbrev pub IsMissing : Answer → Type 0
  IsMissing answer.Memory = ⊥
  IsMissing answer.NoMessage = IsNone (message_in (env.find id))
  IsMissing answer.NoPattern = IsSome (message_in (env.find id))
  IsMissing answer.Found = ⊥
  IsMissing (answer.Reply reply) = ⊥
  IsMissing (answer.Call call) = ⊥
  IsMissing (answer.Names text) = ⊥
  IsMissing (answer.Report text) = ⊥

  -- there is no message of the id, or it has no value, or no attribute of the name
  abbrev pub Lacks : Option Text → Answer → Type 0
  Lacks attribute answer = IsMissing answer × IsNone (pattern_asked attribute (env.find id))

  -- whether there is what was asked for
  abbrev pub IsFound : Option Text → Answer → Type 0
  IsFound attribute answer.Memory = ⊥
  IsFound attribute answer.NoMessage = Lacks attribute answer.NoMessage
  IsFound attribute answer.NoPattern = Lacks attribute answer.NoPattern
  IsFound attribute answer.Found = IsSome (pattern_asked attribute (env.find id))
  IsFound attribute (answer.Reply reply) = ⊥
  IsFound attribute (answer.Call call) = ⊥
  IsFound attribute (answer.Names text) = ⊥
  IsFound attribute (answer.Report text) = ⊥

  -- what the message gives for these arguments, unless memory ran out
  abbrev pub IsReply : Option Text → List (Text × Value FluentDateTime) → Answer → Type 0
  IsReply attribute args answer.Memory = Unit {0}
  IsReply attribute args answer.NoMessage = Lacks attribute answer.NoMessage
  IsReply attribute args answer.NoPattern = Lacks attribute answer.NoPattern
  IsReply attribute args answer.Found = ⊥
  IsReply attribute args (answer.Reply reply) = message_reply env id attribute args ≡ Some (reply_view reply)
  IsReply attribute args (answer.Call call) = ⊥
  IsReply attribute args (answer.Names text) = ⊥
  IsReply attribute args (answer.Report text) = ⊥

-- the same for the code's name and arguments
abbrev pub IsReplyTo : Environment FluentDateTime Callee → Text → Option (Bor Text) → FluentArgs DateTimeValue → Answer → Type 0
IsReplyTo env id attribute arguments answer = IsReply env id (option_copied attribute) (dated_view arguments) answer

-- what a message that may call functions gives for these arguments, or a call to which the table has no answer
abbrev pub IsCalled : Environment FluentDateTime Callee → Text → Option Text → List (Text × Value FluentDateTime) → Table → Answer → Type 0
IsCalled env id attribute args table answer.Memory = Unit {0}
IsCalled env id attribute args table answer.NoMessage = Lacks env id attribute answer.NoMessage
IsCalled env id attribute args table answer.NoPattern = Lacks env id attribute answer.NoPattern
IsCalled env id attribute args table answer.Found = ⊥
IsCalled env id attribute args table (answer.Reply reply) = message_reply env id attribute args ≡ Some (reply_view reply)
IsCalled env id attribute args table (answer.Call call) = IsSome (pattern_asked attribute (env.find id)) × IsUnanswered env.find table (string_bytes call)
IsCalled env id attribute args table (answer.Names text) = ⊥
IsCalled env id attribute args table (answer.Report text) = ⊥

-- the same for the code's desk, name and answers
abbrev pub IsCalledTo : FunctionDesk LanguagePlurals → Text → Option (Bor Text) → List (Text × Value FluentDateTime) → FluentArgs DateTimeValue → Answer → Type 0
IsCalledTo desk id attribute args answers answer =
    IsCalled (calling_in desk (dated_view answers)) id (option_copied attribute) args (dated_view answers) answer

-- the same where messages may call functions, and a plain reply where they don't
abbrev pub IsReplyOrCall : Environment FluentDateTime Callee → Option (Environment FluentDateTime Callee) → Text → Option Text → List (Text × Value FluentDateTime) → Table → Answer → Type 0
IsReplyOrCall env None id attribute args table answer = IsReply env id attribute args answer
IsReplyOrCall env (Some calling) id attribute args table answer = IsCalled calling id attribute args table answer

-- the same for the code's name, arguments and answers
abbrev pub IsReplyOrCallTo : Environment FluentDateTime Callee → (Table → Option (Environment FluentDateTime Callee)) → Text → Option (Bor Text) → FluentArgs DateTimeValue → FluentArgs DateTimeValue → Answer → Type 0
IsReplyOrCallTo env calling id attribute arguments answers answer =
    IsReplyOrCall env (calling (dated_view answers)) id (option_copied attribute) (dated_view arguments) (dated_view answers) answer

-- the same without answers to calls, for the code's name
abbrev pub IsWrittenBy : Environment FluentDateTime Callee → (Table → Option (Environment FluentDateTime Callee)) → Text → Option (Bor Text) → List (Text × Value FluentDateTime) → Answer → Type 0
IsWrittenBy env calling id attribute args answer = IsReplyOrCall env (calling []) id (option_copied attribute) args [] answer

-- the calls that are gathered of a message that may call functions, with these arguments, unless memory ran out
abbrev pub AreMet : Environment FluentDateTime Callee → Text → Option Text → List (Text × Value FluentDateTime) → Table → Answer → Type 0
AreMet env id attribute args table answer.Memory = Unit {0}
AreMet env id attribute args table answer.NoMessage = Lacks env id attribute answer.NoMessage
AreMet env id attribute args table answer.NoPattern = Lacks env id attribute answer.NoPattern
AreMet env id attribute args table answer.Found = ⊥
AreMet env id attribute args table (answer.Reply reply) = ⊥
AreMet env id attribute args table (answer.Call call) = ⊥
AreMet env id attribute args table (answer.Names text) = IsSomeAnd (pattern_asked attribute (env.find id)) (λ elements. AreGathered env args table elements (string_bytes text))
AreMet env id attribute args table (answer.Report text) = ⊥

-- the same for the code's desk, name, arguments and answers
abbrev pub AreMetBy : FunctionDesk LanguagePlurals → Text → Option (Bor Text) → FluentArgs DateTimeValue → FluentArgs DateTimeValue → Answer → Type 0
AreMetBy desk id attribute arguments answers answer =
    AreMet (calling_in desk (dated_view answers)) id (option_copied attribute) (dated_view arguments) (dated_view answers) answer

-- there are no calls of a message where there are no functions
abbrev pub AreNone : Environment FluentDateTime Callee → Text → Option Text → Answer → Type 0
AreNone env id attribute answer.Memory = ⊥
AreNone env id attribute answer.NoMessage = Lacks env id attribute answer.NoMessage
AreNone env id attribute answer.NoPattern = Lacks env id attribute answer.NoPattern
AreNone env id attribute answer.Found = ⊥
AreNone env id attribute (answer.Reply reply) = ⊥
AreNone env id attribute (answer.Call call) = ⊥
AreNone env id attribute (answer.Names text) = IsSome (pattern_asked attribute (env.find id)) × (string_bytes text ≡ [])
AreNone env id attribute (answer.Report text) = ⊥

-- the calls where messages may call functions, and none where they don't
abbrev pub AreMetOrNone : Environment FluentDateTime Callee → Option (Environment FluentDateTime Callee) → Text → Option Text → List (Text × Value FluentDateTime) → Table → Answer → Type 0
AreMetOrNone env None id attribute args table answer = AreNone env id attribute answer
AreMetOrNone env (Some calling) id attribute args table answer = AreMet calling id attribute args table answer

-- the same for the code's name, arguments and answers
abbrev pub AreMetOrNoneBy : Environment FluentDateTime Callee → (Table → Option (Environment FluentDateTime Callee)) → Text → Option (Bor Text) → FluentArgs DateTimeValue → FluentArgs DateTimeValue → Answer → Type 0
AreMetOrNoneBy env calling id attribute arguments answers answer =
    AreMetOrNone env (calling (dated_view answers)) id (option_copied attribute) (dated_view arguments) (dated_view answers) answer

-- what a message gives, of whatever catalog a desk is one of
abbrev pub IsFormatOf : KeptDesk → Text → Option (Bor Text) → FluentArgs DateTimeValue → Answer → Type 0
IsFormatOf desk id attribute arguments answer = ForIts desk (λ catalog. IsReplyTo (catalog_environment catalog) id attribute arguments answer)

-- whether there is what was asked for, of whatever catalog a desk is one of
abbrev pub IsFoundBy : KeptDesk → Text → Option (Bor Text) → Answer → Type 0
IsFoundBy desk id attribute answer = ForIts desk (λ catalog. IsFound (catalog_environment catalog) id (option_copied attribute) answer)

-- what a message that may call functions gives, of whatever catalog a desk is one of
abbrev pub IsCallOf : KeptDesk → Text → Option (Bor Text) → FluentArgs DateTimeValue → FluentArgs DateTimeValue → Answer → Type 0
IsCallOf desk id attribute arguments answers answer =
    ForIts desk (λ catalog. IsReplyOrCallTo (catalog_environment catalog) (catalog_calling catalog) id attribute arguments answers answer)

-- the calls that are gathered of a message, of whatever catalog a desk is one of
abbrev pub AreCallsOf : KeptDesk → Text → Option (Bor Text) → FluentArgs DateTimeValue → FluentArgs DateTimeValue → Answer → Type 0
AreCallsOf desk id attribute arguments answers answer =
    ForIts desk (λ catalog. AreMetOrNoneBy (catalog_environment catalog) (catalog_calling catalog) id attribute arguments answers answer)

-- the ids of the messages among these entries, unless memory ran out
abbrev pub AreMessages : Environment FluentDateTime Callee → List (Text × Meaning Callee) → Answer → Type 0
AreMessages env entries answer.Memory = Unit {0}
AreMessages env entries answer.NoMessage = ⊥
AreMessages env entries answer.NoPattern = ⊥
AreMessages env entries answer.Found = ⊥
AreMessages env entries (answer.Reply reply) = ⊥
AreMessages env entries (answer.Call call) = ⊥
AreMessages env entries (answer.Names text) = string_bytes text ≡ message_lines env.find entries
AreMessages env entries (answer.Report text) = ⊥

-- the names of the attributes of a message, unless memory ran out
abbrev pub AreAttributes : Environment FluentDateTime Callee → Text → Answer → Type 0
AreAttributes env id answer.Memory = Unit {0}
AreAttributes env id answer.NoMessage = IsNone (message_in (env.find id))
AreAttributes env id answer.NoPattern = ⊥
AreAttributes env id answer.Found = ⊥
AreAttributes env id (answer.Reply reply) = ⊥
AreAttributes env id (answer.Call call) = ⊥
AreAttributes env id (answer.Names text) = attribute_lines (message_in (env.find id)) ≡ Some (string_bytes text)
AreAttributes env id (answer.Report text) = ⊥

-- the variables that a message is shown with, unless memory ran out
abbrev pub AreVariables : Ids Callee → Text → Answer → Type 0
AreVariables ids id answer.Memory = Unit {0}
AreVariables ids id answer.NoMessage = IsNone (message_in (find ids id))
AreVariables ids id answer.NoPattern = ⊥
AreVariables ids id answer.Found = ⊥
AreVariables ids id (answer.Reply reply) = ⊥
AreVariables ids id (answer.Call call) = ⊥
AreVariables ids id (answer.Names text) = variable_lines ids id ≡ Some (string_bytes text)
AreVariables ids id (answer.Report text) = ⊥

-- the report on sources, unless memory ran out
abbrev pub IsReport : List Text → Answer → Type 0
IsReport sources answer.Memory = Unit {0}
IsReport sources answer.NoMessage = ⊥
IsReport sources answer.NoPattern = ⊥
IsReport sources answer.Found = ⊥
IsReport sources (answer.Reply reply) = ⊥
IsReport sources (answer.Call call) = ⊥
IsReport sources (answer.Names text) = ⊥
IsReport sources (answer.Report text) = string_bytes text ≡ report_text sources

-- the answer to a question, from an environment, that of messages that call functions, what ids stand for, the entries by their
-- ids, and the sources
abbrev pub IsAnswer : Environment FluentDateTime Callee → (Table → Option (Environment FluentDateTime Callee)) → Ids Callee → List (Text × Meaning Callee) → List Text → Question → Answer → Type 0
IsAnswer env calling ids entries sources (question.Format id attribute arguments spare) answer = IsReplyTo env id.now attribute arguments answer
IsAnswer env calling ids entries sources (question.Call id attribute arguments answers spare) answer = IsReplyOrCallTo env calling id.now attribute arguments answers answer
IsAnswer env calling ids entries sources (question.Calls id attribute arguments answers) answer = AreMetOrNoneBy env calling id.now attribute arguments answers answer
IsAnswer env calling ids entries sources (question.Has id attribute) answer = IsFound env id.now (option_copied attribute) answer
IsAnswer env calling ids entries sources (question.Find id attribute place) answer = IsFound env id.now (option_copied attribute) answer
IsAnswer env calling ids entries sources (question.Write place id attribute arguments) answer = IsWrittenBy env calling id.now attribute arguments answer
IsAnswer env calling ids entries sources question.Messages answer = AreMessages env entries answer
IsAnswer env calling ids entries sources (question.Attributes id) answer = AreAttributes env id.now answer
IsAnswer env calling ids entries sources (question.Variables id) answer = AreVariables ids id.now answer
IsAnswer env calling ids entries sources question.Report answer = IsReport sources answer

-- the answer by whether there is what was asked for, and whether there is the message
abbrev pub found : Bool → Bool → Answer
found true has_message = answer.Found
found false true = answer.NoPattern
found false false = answer.NoMessage

-- the answer of a catalog
abbrev pub Answers : Catalog → Question → Answer → Type 0
Answers catalog question answer = IsAnswer (catalog_environment catalog) (catalog_calling catalog) (catalog_ids catalog) (catalog_entries catalog) catalog.sources question answer

-- the answer of a catalog if it is held, and else none
abbrev pub AnswersIf : Bool → Catalog → Question → Option Answer → Type 0
AnswersIf held catalog question result = MatchOption result (held ≡ false) (λ answer. (held ≡ true) × Answers catalog question answer)

-- this is the answer of whatever catalog a desk answers as, and the desk still does
abbrev pub AnswersAsIts : KeptDesk → KeptDesk → Question → Answer → Type 0
AnswersAsIts old new question answer = (catalog : Catalog) → IsDeskOf old catalog → Answers catalog question answer × IsDeskOf new catalog
