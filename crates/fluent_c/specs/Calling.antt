-- What C learns of a bundle whose messages call functions.
use Rattle.std.specs.Prelude.{◌≡◌, ◌≢◌, ◌⊎◌, ℕ, true, List, [], ◌∷◌, Option, Some, None, IsNone, IsSome, IsSomeAnd, map}
use Rattle.fluent_answers.specs.Answers.{pattern_asked, reply_to}
use Rattle.fluent_calls.specs.Functions.{IsUnanswered, Table}
use Rattle.fluent_calls.specs.declared.callee.Callee.{Callee}
use Rattle.fluent_date.specs.declared.date_time.FluentDateTime.{FluentDateTime}
use Rattle.fluent_calls.specs.Gathering.{AreGathered}
use Rattle.fluent_grammar.specs.Tree.{Elements, Message}
use Rattle.fluent_grammar.specs.Words.{Text}
use Rattle.fluent_ids.specs.Found.{message_in}
use Rattle.fluent_kept.specs.Catalogs.{catalog_calling, catalog_environment}
use Rattle.fluent_kept.specs.declared.handle.FluentBundle.{FluentBundle}
use Rattle.fluent_meaning.specs.Environment.{Environment}
use Rattle.fluent_serve.specs.Frames.{Reply}
use Rattle.fluent_serve.specs.Requests.{Request}
use Rattle.fluent_value.specs.Args.{all_set}
use Rattle.fluent_value.specs.Value.{Value}
use Rattle.fluent_c.specs.Answering.{AreUtf8, HoldsOther, plurals_in, texts_of}
use Rattle.fluent_c.specs.Arguments.{AreRefusedFor, AreTaken, HoldsBad}
use Rattle.fluent_kept.specs.Given.{pair_of}
use Rattle.fluent_c.specs.Bundles.{AreNames, HasOther, HoldReply, KeepsNone, KeepsWith, attribute_in, reply_in}
use Rattle.fluent_c.specs.Made.{Holds}
use Rattle.fluent_c.specs.Options.{dates_in, settings_in, stack_in}
use Rattle.fluent_c.specs.Statuses.{IsOneOf}
use Rattle.fluent_c.specs.declared.TheConstants.{FLUENT_READ, FLUENT_NOT_UTF8, FLUENT_NO_MEMORY, FLUENT_UNKNOWN_LOCALE, FLUENT_NO_MESSAGE, FLUENT_NO_PATTERN, FLUENT_BAD_ARGUMENT, FLUENT_NO_BUNDLE, FLUENT_CALL, FLUENT_BUNDLE_OPTIONS_SIZE}
use Rattle.fluent_c.specs.declared.answering.FluentSource.{FluentSource}
use Rattle.fluent_c.specs.declared.arguments.ArgumentRefusal.{ArgumentRefusal}
use Rattle.fluent_c.specs.declared.arguments.ArgumentRefusal.TheVariants.{Memory, NotUtf8, NoValue}
use Rattle.fluent_kept.specs.declared.given.FluentArgument.{FluentArgument}
use Rattle.fluent_c.specs.declared.options.FluentBundleOptions.{FluentBundleOptions}
use Rattle.fluent_c.specs.declared.text.FluentText.{FluentText}

-- there is a bundle of these sources, by these options, whose messages may call functions of these names
abbrev pub KeepsCalling : List FluentSource → FluentBundleOptions → List FluentSource → FluentBundle → Type 0
KeepsCalling functions options = KeepsWith (Some (texts_of functions)) (settings_in options) (dates_in options) (stack_in options) options.locale.now

-- what a call returns that makes such a bundle
pub record MakesCalling (options : FluentBundleOptions) (sources functions : List FluentSource) (status : ℕ) : Type 0 where
  pub decided : IsOneOf status (FLUENT_READ ∷ FLUENT_NOT_UTF8 ∷ FLUENT_NO_MEMORY ∷ FLUENT_UNKNOWN_LOCALE ∷ FLUENT_BAD_ARGUMENT ∷ [])
  pub bad_size : status ≡ FLUENT_BAD_ARGUMENT → options.size ≢ FLUENT_BUNDLE_OPTIONS_SIZE
  pub size : status ≢ FLUENT_BAD_ARGUMENT → options.size ≡ FLUENT_BUNDLE_OPTIONS_SIZE
  pub not_utf8 : status ≡ FLUENT_NOT_UTF8 → HoldsOther functions ⊎ HoldsOther sources
  pub utf8 : IsOneOf status (FLUENT_READ ∷ FLUENT_UNKNOWN_LOCALE ∷ []) → AreUtf8 functions × AreUtf8 sources
  pub unknown_locale : status ≡ FLUENT_UNKNOWN_LOCALE → plurals_in options.locale.now ≡ None

-- arguments by their names, and answers to calls by the calls' texts
abbrev pub answers_of : List FluentArgument → Table
answers_of answers = all_set [] (map pair_of answers)

-- where messages may call functions, what they are formatted in with these answers
abbrev pub calling_in : FluentBundle → List FluentArgument → Option (Environment FluentDateTime Callee)
calling_in bundle answers = catalog_calling bundle.catalog (answers_of answers)

-- what is asked for, in an environment with functions if there is one, and else in a plain one
abbrev pub reply_by : Option (Environment FluentDateTime Callee) → Environment FluentDateTime Callee → Request (Value FluentDateTime) → Option Reply
reply_by None plain request = reply_to plain request
reply_by (Some calling) plain request = reply_to calling request

abbrev pub message_by : Option (Environment FluentDateTime Callee) → Environment FluentDateTime Callee → Text → Option Message
message_by None plain id = message_in (plain.find id)
message_by (Some calling) plain id = message_in (calling.find id)

abbrev pub pattern_by : Option (Environment FluentDateTime Callee) → Environment FluentDateTime Callee → Text → Option Text → Option Elements
pattern_by None plain id attribute = pattern_asked attribute (plain.find id)
pattern_by (Some calling) plain id attribute = pattern_asked attribute (calling.find id)

-- what a bundle replies to a request, with these answers to calls
abbrev pub called_in : FluentBundle → Text → Text → List FluentArgument → List FluentArgument → Option Reply
called_in bundle id attribute arguments answers = reply_by (calling_in bundle answers) (catalog_environment bundle.catalog)
    (record { id = id; attribute = attribute_in attribute; arguments = map pair_of arguments })

-- texts hold such a reply
abbrev pub Gives : FluentBundle → Text → Text → List FluentArgument → List FluentArgument → FluentText → FluentText → Type 0
Gives bundle id attribute arguments answers made errors = IsSomeAnd (called_in bundle id attribute arguments answers) (HoldReply made errors)

-- they do if this is the status of a text
abbrev pub GivesOnRead : ℕ → FluentBundle → Text → Text → List FluentArgument → List FluentArgument → FluentText → FluentText → Type 0
GivesOnRead status bundle id attribute arguments answers made errors = status ≡ FLUENT_READ → Gives bundle id attribute arguments answers made errors

-- there is no message of the id
abbrev pub CallsNoMessage : FluentBundle → Text → List FluentArgument → Type 0
CallsNoMessage bundle id answers = IsNone (message_by (calling_in bundle answers) (catalog_environment bundle.catalog) id)

-- there is, and it has no value, or no attribute of the name
abbrev pub CallsNoPattern : FluentBundle → Text → Text → List FluentArgument → Type 0
CallsNoPattern bundle id attribute answers = IsSome (message_by (calling_in bundle answers) (catalog_environment bundle.catalog) id)
    × IsNone (pattern_by (calling_in bundle answers) (catalog_environment bundle.catalog) id (attribute_in attribute))

-- there are functions, and the value or the attribute that is asked for
abbrev pub MayCall : FluentBundle → Text → Text → List FluentArgument → Type 0
MayCall bundle id attribute answers = IsSome (calling_in bundle answers)
    × IsSome (pattern_by (calling_in bundle answers) (catalog_environment bundle.catalog) id (attribute_in attribute))

-- where messages may call functions, this is the text of a call of one of them to which the table has no answer
abbrev pub IsMissing : Option (Environment FluentDateTime Callee) → Table → Text → Type 0
IsMissing None table call = ⊥
IsMissing (Some calling) table call = IsUnanswered calling.find table call

-- a text is that of such a call
pub record HoldsMissing (bundle : FluentBundle) (answers : List FluentArgument) (made : FluentText) : Type 0 where
  pub call : Text
  pub held : Holds made call
  pub missing : IsMissing (calling_in bundle answers) (answers_of answers) call

-- lines of the calls that are gathered of what is asked for, and none where there are no functions
abbrev pub AreCallsBy : Option (Environment FluentDateTime Callee) → Text → Option Text → List (Text × Value FluentDateTime) → Table → Text → Type 0
AreCallsBy None id attribute args table calls = calls ≡ []
AreCallsBy (Some calling) id attribute args table calls =
    IsSomeAnd (pattern_asked attribute (calling.find id)) (λ elements. AreGathered calling args table elements calls)

-- a text holds such lines
pub record HoldsCalls (bundle : FluentBundle) (id attribute : Text) (arguments answers : List FluentArgument) (made : FluentText) : Type 0 where
  pub calls : Text
  pub held : Holds made calls
  pub gathered : AreCallsBy (calling_in bundle answers) id (attribute_in attribute) (answers_of arguments) (answers_of answers) calls

-- what a call returns whose arguments or answers aren't taken
abbrev pub refused_status : ArgumentRefusal → ℕ
refused_status Memory = FLUENT_NO_MEMORY
refused_status NotUtf8 = FLUENT_NOT_UTF8
refused_status NoValue = FLUENT_BAD_ARGUMENT

-- what a call returns that formats a message of a bundle with answers to calls
pub record Calls (bundle : FluentBundle) (id attribute : Text) (arguments answers : List FluentArgument) (status : ℕ) : Type 0 where
  pub decided : IsOneOf status (FLUENT_READ ∷ FLUENT_NOT_UTF8 ∷ FLUENT_NO_MEMORY ∷ FLUENT_NO_MESSAGE ∷ FLUENT_NO_PATTERN
      ∷ FLUENT_BAD_ARGUMENT ∷ FLUENT_NO_BUNDLE ∷ FLUENT_CALL ∷ [])
  pub not_utf8 : status ≡ FLUENT_NOT_UTF8 → HasOther id attribute arguments ⊎ AreRefusedFor answers NotUtf8
  pub no_message : status ≡ FLUENT_NO_MESSAGE → CallsNoMessage bundle id answers
  pub no_pattern : status ≡ FLUENT_NO_PATTERN → CallsNoPattern bundle id attribute answers
  pub bad_argument : status ≡ FLUENT_BAD_ARGUMENT → HoldsBad arguments ⊎ HoldsBad answers
  pub no_bundle : status ≡ FLUENT_NO_BUNDLE → KeepsNone bundle
  pub call : status ≡ FLUENT_CALL → MayCall bundle id attribute answers
  pub names : status ≢ FLUENT_NOT_UTF8 → AreNames id attribute
  pub taken : IsOneOf status (FLUENT_READ ∷ FLUENT_NO_MESSAGE ∷ FLUENT_NO_PATTERN ∷ FLUENT_NO_BUNDLE ∷ FLUENT_CALL ∷ []) → AreTaken arguments × AreTaken answers
  pub held : IsOneOf status (FLUENT_READ ∷ FLUENT_NO_MESSAGE ∷ FLUENT_NO_PATTERN ∷ FLUENT_CALL ∷ []) → bundle.held ≡ true

-- A bundle without functions replies alike, whatever the answers to calls are.
abbrev pub PlainBundlesReplyAlike : Type 0
PlainBundlesReplyAlike =
    (bundle : FluentBundle) (id attribute : Text) (arguments answers : List FluentArgument) → bundle.catalog.functions ≡ None →
    called_in bundle id attribute arguments answers ≡ reply_in bundle id attribute arguments
