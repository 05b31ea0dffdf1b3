-- What is written of a pattern that was looked up once.
use Rattle.std.specs.Prelude.{◌≡◌, List, Option, None, Some, option_copied, option_map}
use denote.Ref.{Bor}
use Rattle.fluent_answers.specs.Answers.{told}
use Rattle.fluent_ast.specs.declared.Message.{Message}
use Rattle.fluent_grammar.specs.Tree as t
use Rattle.fluent_grammar.specs.Words.{Text}
use Rattle.fluent_ids.specs.Found.{message_in}
use Rattle.fluent_meaning.specs.Environment.{Environment}
use Rattle.fluent_meaning.specs.Substitution.{answer_written}
use Rattle.fluent_run.specs.ReplyView.{reply_view}
use Rattle.fluent_value.specs.Value.{Value}
use Rattle.fluent_kept.specs.Answers.{IsFound, IsWrittenBy}
use Rattle.fluent_kept.specs.Catalogs.{ForIts, IsDeskOf, catalog_calling, catalog_environment}
use Rattle.fluent_kept.specs.Found.{message_told, pattern_of}
use Rattle.fluent_kept.specs.declared.desk.KeptDesk.{KeptDesk}
use Rattle.fluent_kept.specs.declared.question.Answer.{Answer}
use Rattle.fluent_kept.specs.declared.question.Answer.TheVariants as answer
use Rattle.fluent_date.specs.declared.date_time.FluentDateTime.{FluentDateTime}
use Rattle.fluent_calls.specs.declared.callee.Callee.{Callee}

-- what a message gives for these arguments, unless memory ran out: its value, or its first attribute of a name
abbrev pub IsGivenBy : Environment FluentDateTime Callee → t.Message → Option (Bor Text) → List (Text × Value FluentDateTime) → Answer → Type 0
IsGivenBy env m attribute arguments answer.Memory = Unit {0}
IsGivenBy env m attribute arguments answer.NoMessage = ⊥
IsGivenBy env m attribute arguments answer.NoPattern = pattern_of (option_copied attribute) m ≡ None
IsGivenBy env m attribute arguments answer.Found = ⊥
IsGivenBy env m attribute arguments (answer.Reply reply) =
    option_map (λ es. told (answer_written env arguments es)) (pattern_of (option_copied attribute) m) ≡ Some (reply_view reply)
IsGivenBy env m attribute arguments (answer.Call call) = ⊥
IsGivenBy env m attribute arguments (answer.Names text) = ⊥
IsGivenBy env m attribute arguments (answer.Report text) = ⊥

-- what a message gives without answers to calls, of whatever catalog a desk is one of
abbrev pub IsWrittenOf : KeptDesk → Text → Option (Bor Text) → List (Text × Value FluentDateTime) → Answer → Type 0
IsWrittenOf desk id attribute arguments answer =
    ForIts desk (λ catalog. IsWrittenBy (catalog_environment catalog) (catalog_calling catalog) id attribute arguments answer)

-- whether there is what was asked for, of whatever catalog a desk was one of, and it still is
abbrev pub Finds : KeptDesk → KeptDesk → Text → Option (Bor Text) → Answer → Type 0
Finds old new id attribute answer =
    ForIts old (λ catalog. IsFound (catalog_environment catalog) id (option_copied attribute) answer × IsDeskOf new catalog)

-- a desk answers as whatever catalog it was one of, if the message is that of the id there
abbrev pub KeepsFound : KeptDesk → KeptDesk → Text → Bor (Message (Bor Text)) → Type 0
KeepsFound old new id message =
    ForIts old (λ catalog. message_in ((catalog_environment catalog).find id) ≡ Some (message_told message) → IsDeskOf new catalog)
