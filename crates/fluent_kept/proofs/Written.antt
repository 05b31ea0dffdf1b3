-- What is given by a message that was found is what is given by its id.
use Rattle.std.proofs.Common.{◌≡◌, ◌∙◌, true, List, [], Option, None, Some, ap, inl, inr, sym, subst}
use Rattle.std.specs.Prelude.{All, is_some, option_copied, option_map, vec_items}
use Rattle.std.proofs.lemmas.List.Elements.{All-contains, All-push}
use denote.Ref.{Bor}
use Rattle.fluent_answers.specs.Answers.{told}
use Rattle.fluent_ast.specs.declared.Message.{Message}
use Rattle.fluent_grammar.specs.Tree as t
use Rattle.fluent_grammar.specs.Words.{Text}
use Rattle.fluent_ids.specs.Found.{message_in}
use Rattle.fluent_meaning.specs.Environment.{Environment}
use Rattle.fluent_meaning.specs.Substitution.{answer_written}
use Rattle.fluent_value.specs.Value.{Value}
use Rattle.fluent_kept.specs.Answers.{IsFound, IsReply, IsReplyOrCall, IsWrittenBy}
use Rattle.fluent_kept.specs.Catalogs.{Catalog, IsMessageOf, catalog_calling, catalog_calling_by, catalog_environment}
use Rattle.fluent_kept.specs.Found.{IsThereBy, Keeps, message_told, pattern_of}
use Rattle.fluent_kept.specs.Writing.{IsGivenBy}
use Rattle.fluent_kept.specs.declared.found.Found.{Found}
use Rattle.fluent_kept.specs.declared.question.Answer.{Answer}
use Rattle.fluent_kept.specs.declared.question.Answer.TheVariants as answer
use Rattle.fluent_kept.proofs.Messages.{pattern-missing, pattern-there}
use Rattle.fluent_date.specs.declared.date_time.FluentDateTime.{FluentDateTime}
use Rattle.fluent_calls.specs.declared.callee.Callee.{Callee}

-- the answer by a message that is the one asked for
given-reply : (env : Environment FluentDateTime Callee) (id : Text) (attribute : Option (Bor Text)) (arguments : List (Text × Value FluentDateTime)) (m : t.Message) (given : Answer) →
    message_in (env.find id) ≡ Some m → IsGivenBy env m attribute arguments given → IsReply env id (option_copied attribute) arguments given
given-reply env id attribute arguments m answer.Memory there is = tt
given-reply env id attribute arguments m answer.NoMessage there is = absurd is
given-reply env id attribute arguments m answer.NoPattern there is =
    (ap is_some there, ap is_some (pattern-there (option_copied attribute) (env.find id) m there ∙ is))
given-reply env id attribute arguments m answer.Found there is = absurd is
given-reply env id attribute arguments m (answer.Reply reply) there is =
    ap (option_map (λ es. told (answer_written env arguments es))) (pattern-there (option_copied attribute) (env.find id) m there) ∙ is
given-reply env id attribute arguments m (answer.Call call) there is = absurd is
given-reply env id attribute arguments m (answer.Names text) there is = absurd is
given-reply env id attribute arguments m (answer.Report text) there is = absurd is

-- messages that were found still are those of the catalog
pub kept-still : (catalog : Catalog) (old new : Found) (m : Bor (Message (Bor Text))) → Keeps old new m → IsMessageOf catalog m →
    All (IsMessageOf catalog) (vec_items old.messages) → All (IsMessageOf catalog) (vec_items new.messages)
kept-still catalog old new m (inl same) is all = subst (All (IsMessageOf catalog)) (sym same) all
kept-still catalog old new m (inr more) is all =
    subst (All (IsMessageOf catalog)) (sym more) (All-push (IsMessageOf catalog) (vec_items old.messages) m all is)

-- the message at a place is that of its id
pub there-by : (catalog : Catalog) (found : Found) (id : Text) (m : Bor (Message (Bor Text))) → All (IsMessageOf catalog) (vec_items found.messages) → IsThereBy found id m →
    Some (message_told m) ≡ message_in ((catalog_environment catalog).find id)
there-by catalog found id m all there =
    sym (All-contains (IsMessageOf catalog) (vec_items found.messages) m all there.0) ∙ ap (λ i. message_in ((catalog_environment catalog).find i)) there.1

-- A message of the catalog, or none, by its id.
module _ (catalog : Catalog) (id : Text) (attribute : Option Text) where
  abbrev plain : Environment FluentDateTime Callee
  plain = catalog_environment catalog

  -- whether there is what was asked for
  pub found-none : message_in (plain.find id) ≡ None → IsFound plain id attribute answer.NoMessage
  found-none none = (ap is_some none, ap is_some (pattern-missing attribute (plain.find id) none))

  pub found-lacking : (m : t.Message) → message_in (plain.find id) ≡ Some m → pattern_of attribute m ≡ None → IsFound plain id attribute answer.NoPattern
  found-lacking m there lacks = (ap is_some there, ap is_some (pattern-there attribute (plain.find id) m there ∙ lacks))

  pub found-there : (m : t.Message) → message_in (plain.find id) ≡ Some m → is_some (pattern_of attribute m) ≡ true → IsFound plain id attribute answer.Found
  found-there m there has = ap is_some (pattern-there attribute (plain.find id) m there) ∙ has

-- what is given where messages call no functions
pub plain-given : (catalog : Catalog) (id : Text) (attribute : Option (Bor Text)) (arguments : List (Text × Value FluentDateTime)) (m : t.Message) (given : Answer) →
    message_in ((catalog_environment catalog).find id) ≡ Some m → catalog.functions ≡ None → IsGivenBy (catalog_environment catalog) m attribute arguments given →
    IsWrittenBy (catalog_environment catalog) (catalog_calling catalog) id attribute arguments given
plain-given catalog id attribute arguments m given there none is =
    subst (λ f. IsReplyOrCall (catalog_environment catalog) (option_map (λ names. catalog_calling_by catalog names []) f) id (option_copied attribute) arguments [] given)
    (sym none) (given-reply (catalog_environment catalog) id attribute arguments m given there is)

pub plain-none : (catalog : Catalog) (id : Text) (attribute : Option (Bor Text)) (arguments : List (Text × Value FluentDateTime)) →
    message_in ((catalog_environment catalog).find id) ≡ None → catalog.functions ≡ None →
    IsWrittenBy (catalog_environment catalog) (catalog_calling catalog) id attribute arguments answer.NoMessage
plain-none catalog id attribute arguments missing none =
    subst (λ f. IsReplyOrCall (catalog_environment catalog) (option_map (λ names. catalog_calling_by catalog names []) f) id (option_copied attribute) arguments [] answer.NoMessage)
    (sym none) (ap is_some missing, ap is_some (pattern-missing (option_copied attribute) ((catalog_environment catalog).find id) missing))
