-- A desk with functions answers calls as the catalog does, and a text of it is a reply.
use Rattle.std.proofs.Common.{◌≡◌, List, Option, None, Some, ap, refl, sym, subst}
use Rattle.std.specs.Prelude.{IsSome, IsSomeAnd, option_copied, option_map}
use denote.Ref.{Bor}
use Rattle.fluent_answers.specs.Answers.{told}
use Rattle.fluent_calls.specs.declared.desk.FunctionDesk.{FunctionDesk}
use Rattle.fluent_grammar.specs.Tree.{Elements}
use Rattle.fluent_grammar.specs.Words.{Text}
use Rattle.fluent_meaning.specs.Environment.{Environment}
use Rattle.fluent_meaning.specs.Substitution.{answer_written}
use Rattle.fluent_plurals.specs.declared.plurals.LanguagePlurals.{LanguagePlurals}
use Rattle.fluent_run.specs.Dated.{dated_view}
use Rattle.fluent_run.proofs.Replies.{done-told}
use Rattle.fluent_run.specs.ReplyView.{IsDone, reply_view}
use Rattle.fluent_run.specs.declared.reply.Reply.{Reply}
use Rattle.fluent_value.specs.Value.{Value}
use Rattle.fluent_value.specs.declared.args.FluentArgs.{FluentArgs}
use Rattle.fluent_kept.specs.Answers.{AreMet, AreMetBy, AreMetOrNone, IsCalled, IsCalledTo, IsReplyOrCall}
use Rattle.fluent_kept.specs.Catalogs.{CallsAs, Catalog, catalog_calling_by, catalog_environment}
use Rattle.fluent_kept.specs.declared.question.Answer.{Answer}
use Rattle.fluent_date.specs.declared.date_time.FluentDateTime.{FluentDateTime}
use Rattle.fluent_dates.specs.declared.value.DateTimeValue.{DateTimeValue}
use Rattle.fluent_calls.specs.declared.callee.Callee.{Callee}

-- what was written of a pattern is the reply
pub reply-said : (env : Environment FluentDateTime Callee) (args : List (Text × Value FluentDateTime)) (found : Option Elements) (reply : Reply) →
    IsSomeAnd found (λ es. IsDone (answer_written env args es) reply) → option_map (λ es. told (answer_written env args es)) found ≡ Some (reply_view reply)
reply-said env args None reply is = absurd is
reply-said env args (Some es) reply is = ap Some (sym (done-told (answer_written env args es) reply is))

-- a call of a pattern that is there
pub call-said : {P : Type 0} (found : Option Elements) → IsSomeAnd found (λ es. P) → IsSome found × P
call-said None is = absurd is
call-said (Some es) is = (refl, is)

-- the answer of a desk with functions is that of the catalog, whose messages call them
pub called-as : (catalog : Catalog) (functions : Option (List Text)) (desk : FunctionDesk LanguagePlurals) (id : Text) (attribute : Option (Bor Text)) (args : List (Text × Value FluentDateTime)) (answers : FluentArgs DateTimeValue) (answer : Answer) →
    IsSomeAnd functions (λ names. CallsAs names catalog desk) → IsCalledTo desk id attribute args answers answer →
    IsReplyOrCall (catalog_environment catalog) (option_map (λ names. catalog_calling_by catalog names (dated_view answers)) functions) id (option_copied attribute) args (dated_view answers) answer
called-as catalog None desk id attribute args answers answer calls is = absurd calls
called-as catalog (Some names) desk id attribute args answers answer calls is =
    subst (λ env. IsCalled env id (option_copied attribute) args (dated_view answers) answer) (calls (dated_view answers)) is

-- the same of the calls that are gathered of a message
pub met-as : (catalog : Catalog) (functions : Option (List Text)) (desk : FunctionDesk LanguagePlurals) (id : Text) (attribute : Option (Bor Text)) (arguments answers : FluentArgs DateTimeValue) (answer : Answer) →
    IsSomeAnd functions (λ names. CallsAs names catalog desk) → AreMetBy desk id attribute arguments answers answer →
    AreMetOrNone (catalog_environment catalog) (option_map (λ names. catalog_calling_by catalog names (dated_view answers)) functions) id (option_copied attribute) (dated_view arguments) (dated_view answers) answer
met-as catalog None desk id attribute arguments answers answer calls are = absurd calls
met-as catalog (Some names) desk id attribute arguments answers answer calls are =
    subst (λ env. AreMet env id (option_copied attribute) (dated_view arguments) (dated_view answers) answer) (calls (dated_view answers)) are
