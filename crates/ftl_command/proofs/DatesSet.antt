-- Dates among arguments, and what a message gives with them.
use Rattle.std.proofs.Common.{◌≡◌, Bool, false, true, if◌then◌else◌, ℕ, ◌+◌, ◌<◌, ◌||◌, List, [], ◌∷◌, ◌++◌, Option, get_or, length, take, refl, ap, sym, ◌∙◌, append-nil}
use Rattle.std.proofs.lemmas.Grind.{flat_map-append}
use Rattle.std.proofs.lemmas.List.{take_more}
use Rattle.std.specs.List.{flat_map, list_any}
use denote.Ref.{Bor}
use Rattle.fluent_answers.specs.Sources.{Settings}
use Rattle.fluent_date.specs.declared.date_time.FluentDateTime.{FluentDateTime}
use Rattle.fluent_date_tables.specs.Tables.{Row}
use Rattle.fluent_grammar.specs.Words.{Text}
use Rattle.fluent_serve.specs.RequestView.{argument_view, arguments_view}
use Rattle.fluent_value.specs.Args.{all_set, with_argument}
use Rattle.fluent_value.specs.Value.{Value}
use Rattle.fluent_run.specs.Dated.{dated_environment}
use Rattle.fluent_run.specs.DeskView.{message_reply}
use Rattle.fluent_run.specs.RunView.{no_text}
use Rattle.fluent_value.specs.declared.function.NoFunction.{NoFunction}
use Rattle.ftl_arguments.specs.Meaning.{Format}
use Rattle.ftl_command.specs.Dated.{dated_for, dates_asked, is_dated, has_date, settings_for, values_of}
use Rattle.ftl_command.specs.Plurals.{Rules, category_in}
use Rattle.ftl_command.specs.Program.{reply_for}
use Rattle.ftl_command.specs.Shown.{reply_asked}

-- whether a date is among the code's arguments
pub any-dated : (arguments : List (Bor Text × Bor Text)) → list_any (λ a. is_dated (argument_view a)) arguments ≡ has_date (arguments_view arguments)
any-dated [] = refl
any-dated (a ∷ as') = ap (λ b. is_dated (argument_view a) || b) (any-dated as')

-- arguments that are set after others
all_set-++ : {S : Type 0} (args xs ys : List (Text × Value S)) → all_set args (xs ++ ys) ≡ all_set (all_set args xs) ys
all_set-++ args [] ys = refl
all_set-++ args (x ∷ xs) ys = all_set-++ (with_argument x.0 x.1 args) xs ys

-- what one argument sets
abbrev pub values_in : Bor Text × Bor Text → List (Text × Value FluentDateTime)
values_in a = values_of (argument_view a)

-- one argument more
pub dated-next : (args : List (Text × Value FluentDateTime)) (given : List (Bor Text × Bor Text)) (k : ℕ) (d : Bor Text × Bor Text) → k < length given →
    args ≡ all_set [] (flat_map values_in (take k given)) →
    all_set args (values_in (get_or given k d)) ≡ all_set [] (flat_map values_in (take (k + 1) given))
dated-next args given k d inside before =
    ap (λ a. all_set a (values_in (get_or given k d))) before
    ∙ sym (all_set-++ [] (flat_map values_in (take k given)) (values_in (get_or given k d)))
    ∙ ap (all_set []) (sym (ap (flat_map values_in) (take_more given k d inside)
    ∙ flat_map-append values_in (take k given) (get_or given k d ∷ [])
    ∙ ap (λ vs. flat_map values_in (take k given) ++ vs) (append-nil (values_in (get_or given k d)))))

-- the code's arguments, and what they stand for
pub dated-viewed : (given : List (Bor Text × Bor Text)) → flat_map values_in given ≡ flat_map values_of (arguments_view given)
dated-viewed [] = refl
dated-viewed (a ∷ as') = ap (λ vs. values_in a ++ vs) (dated-viewed as')

-- what the code found among its arguments
pub found-dated : (given lent : List (Bor Text × Bor Text)) (found is : Bool) → found ≡ list_any (λ a. is_dated (argument_view a)) lent → lent ≡ given → found ≡ is → has_date (arguments_view given) ≡ is
found-dated given lent found is looked same known = sym (any-dated given) ∙ (ap (list_any (λ a. is_dated (argument_view a))) (sym same) ∙ (sym looked ∙ known))

-- what a message gives by the settings, the dates and the values that are asked for
pub dated-reply : (by : Rules) (f : Format) (sources : List Text) {settings : Settings} {dates : Option Row} {args : List (Text × Value FluentDateTime)} →
    settings ≡ settings_for by f → dates ≡ dates_asked f.plain_numbers f.locale → args ≡ all_set [] (flat_map values_of f.request.arguments) →
    message_reply (dated_environment (category_in by.plurals) settings dates sources) f.request.id f.request.attribute args ≡ dated_for by f sources
dated-reply by f sources {settings} {dates} {args} set asked given =
    ap (λ s. message_reply (dated_environment (category_in by.plurals) s dates sources) f.request.id f.request.attribute args) set
    ∙ ap (λ d. message_reply (dated_environment (category_in by.plurals) (settings_for by f) d sources) f.request.id f.request.attribute args) asked
    ∙ ap (message_reply (dated_environment (category_in by.plurals) (settings_for by f) (dates_asked f.plain_numbers f.locale) sources) f.request.id f.request.attribute) given

-- what the sources have for a message, by whether a date is among the arguments
pub with-date : (by : Rules) (f : Format) (sources : List Text) → has_date f.request.arguments ≡ true → dated_for by f sources ≡ reply_for by f sources
with-date by f sources is =
    sym (ap (λ b. if b then dated_for by f sources else reply_asked NoFunction (category_in by.plurals) no_text (settings_for by f) sources f.request) is)

pub without-date : (by : Rules) (f : Format) (sources : List Text) → has_date f.request.arguments ≡ false →
    reply_asked NoFunction (category_in by.plurals) no_text (settings_for by f) sources f.request ≡ reply_for by f sources
without-date by f sources is =
    sym (ap (λ b. if b then dated_for by f sources else reply_asked NoFunction (category_in by.plurals) no_text (settings_for by f) sources f.request) is)
