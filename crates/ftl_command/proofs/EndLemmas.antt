-- What devices tell of a run of the program, and when words are refused.
use Rattle.std.proofs.Common.{◌≡◌, ◌∙◌, ℕ, Bool, List, [], ◌∷◌, Option, None, Some, Result, Ok, Err, IfErr, ap, option_map, string_bytes, subst, sym, inl, inr}
use Rattle.std.specs.Global.{Global}
use Rattle.std.specs.Prelude.{String}
use Rattle.fluent_serve.specs.Text.{Text}
use Rattle.fluent_serve.proofs.Outcomes.{on_ok_always}
use Rattle.fluent_serve.specs.declared.stream.Sink.{Ghosts as SinkGhosts}
use Rattle.ftl_arguments.specs.CommandView.{AskFor, IsBad, command_view}
use Rattle.ftl_arguments.specs.Commands.{program_app}
use Rattle.ftl_arguments.specs.Version.{version_line}
use Rattle.ftl_arguments.specs.declared.errors.CommandError.{CommandError}
use Rattle.ftl_arguments.specs.declared.errors.CommandError.TheVariants as why
use Rattle.ftl_arguments.specs.declared.commands.Command.{Command}
use Rattle.ftl_arguments.specs.declared.commands.Invocation.{Invocation}
use Rattle.ftl_arguments.specs.declared.commands.Invocation.TheVariants as of
use denote.Ref.{Bor}
use Rattle.clap.specs.Words.{IsAmong, Kinds, subcommand_of}
use Rattle.clap.specs.declared.error.kind.ErrorKind.{ErrorKind}
use Rattle.clap.specs.declared.error.kind.ErrorKind.TheVariants.{DisplayHelp, DisplayVersion}
use Rattle.ftl_arguments.specs.Meaning.{AskForExplanation, AskForHelp, AskForText, AskForVersion, AskForVersionAlone, Asked, asked_of, command_of, faults_of, without_faults, run, format, check, lint, lint_input, lint_project, status, tidy_files, tidy_input, tidy}
use Rattle.ftl_command.specs.Ends.{seen, IsUntouched}
use Rattle.ftl_command.specs.Faults.{IsBadLine, SaysUnknown, status_of}
use Rattle.std.proofs.lemmas.Result.{IfErr-weaker}
use Rattle.ftl_command.specs.Program.{IsRefused, ShowsVersionOn, WithoutInput, locale_named}
use Rattle.ftl_command.specs.Refusals.{AnswersHelp, IsRight}
use Rattle.ftl_command.specs.declared.ended.Ended.{Ended}
use Rattle.ftl_command.specs.declared.fault.Fault.{Fault}
use Rattle.ftl_command.specs.declared.fault.Fault.TheVariants.{CarriageReturn, NotNormal, NotTree, NotJson, NoMessage, CommandLine, Project, UnknownLocale, FileUnreadable, FileNotUtf8, Input, Output, Memory}
use Rattle.ftl_command.specs.declared.plurals.RunPlurals.TheVariants.{Language}
use Rattle.fluent_plurals.specs.Plurals.{plurals_for}
use Rattle.ftl_command.specs.Plurals.{plurals_asked}

-- a device that is as it was is untouched
pub untouched : {D : Type 0} (bytes : D → Option Text) (failures : D → ℕ) {before after : D} → after ≡ before → IsUntouched (seen bytes failures before after)
untouched bytes failures same = (ap bytes same, ap failures same)

pub without_input : {P Q : Type 0} (asked : Option Asked) → (P → Q) → WithoutInput asked P → WithoutInput asked Q
without_input None f p = f p
without_input (Some (run r)) f p = tt
without_input (Some (format x)) f p = f p
without_input (Some (check files)) f p = f p
without_input (Some (lint l)) f p = f p
without_input (Some (lint_input l)) f p = tt
without_input (Some (lint_project l)) f p = f p
without_input (Some (status s)) f p = f p
without_input (Some (tidy_files t)) f p = f p
without_input (Some (tidy_input checked)) f p = tt
without_input (Some (tidy t)) f p = f p

-- a locale without plural rules is asked for
refused_run : (asked : Option Asked) (tag : Text) → locale_named asked ≡ Some tag → plurals_for tag ≡ None → IsRefused asked
refused_run None tag named unknown = tt
refused_run (Some (run r)) tag named unknown = ap plurals_asked named ∙ ap (option_map Language) unknown
refused_run (Some (format f)) tag named unknown = ap plurals_asked named ∙ ap (option_map Language) unknown
refused_run (Some (check files)) tag named unknown = absurd cc
refused_run (Some (lint l)) tag named unknown = tt
refused_run (Some (lint_input l)) tag named unknown = tt
refused_run (Some (lint_project l)) tag named unknown = tt
refused_run (Some (status s)) tag named unknown = tt
refused_run (Some (tidy_files t)) tag named unknown = tt
refused_run (Some (tidy_input checked)) tag named unknown = absurd cc
refused_run (Some (tidy t)) tag named unknown = absurd cc

-- a project is wrong only if one is asked for
refused_project : (contents : Text → Option Text) (asked : Option Asked) (text : String Global) → IsRight contents asked (Project text) → IsRefused asked
refused_project contents None text right = tt
refused_project contents (Some (run r)) text right = absurd right
refused_project contents (Some (format f)) text right = absurd right
refused_project contents (Some (check files)) text right = absurd right
refused_project contents (Some (lint l)) text right = tt
refused_project contents (Some (lint_input l)) text right = tt
refused_project contents (Some (lint_project l)) text right = tt
refused_project contents (Some (status s)) text right = tt
refused_project contents (Some (tidy_files t)) text right = tt
refused_project contents (Some (tidy_input checked)) text right = absurd right
refused_project contents (Some (tidy t)) text right = absurd right

-- words with status 2 are refused
pub refused_by : (contents : Text → Option Text) (asked : Option Asked) (fault : Fault) → (IsBadLine fault → asked ≡ None) → SaysUnknown (locale_named asked) fault →
    IsRight contents asked fault → status_of fault ≡ 2 → IsRefused asked
refused_by contents asked (CarriageReturn place) bad says right is = absurd cc
refused_by contents asked (NotNormal report) bad says right is = absurd cc
refused_by contents asked NotTree bad says right is = absurd cc
refused_by contents asked NotJson bad says right is = absurd cc
refused_by contents asked (NoMessage meant) bad says right is = absurd cc
refused_by contents asked (CommandLine advice) bad says right is = rw (bad tt) tt
refused_by contents asked (Project text) bad says right is = refused_project contents asked text right
refused_by contents asked (UnknownLocale tag) bad says right is = refused_run asked tag.now says.0 says.1
refused_by contents asked (FileUnreadable file why meant) bad says right is = absurd cc
refused_by contents asked (FileNotUtf8 file row) bad says right is = absurd cc
refused_by contents asked Input bad says right is = absurd cc
refused_by contents asked Output bad says right is = absurd cc
refused_by contents asked Memory bad says right is = absurd cc

-- with a fault of the words nothing is asked for
pub nothing_asked : (colours : Bool) (words : List Text) (kind : ErrorKind) → faults_of words ≡ kind ∷ [] → command_of colours words ≡ None
nothing_asked colours words kind alone = ap (λ kinds. without_faults kinds (asked_of colours (subcommand_of program_app words))) alone

-- so no locale is named
no_locale_named : (colours : Bool) (words : List Text) (kind : ErrorKind) (tag : Text) → faults_of words ≡ kind ∷ [] → locale_named (command_of colours words) ≡ Some tag → ⊥
no_locale_named colours words kind tag alone named =
    let both : ◌≡◌ {A = Option Text} None (Some tag) = sym (ap locale_named (nothing_asked colours words kind alone)) ∙ named in
    absurd cc

-- nor is a project
no_project_asked : (contents : Text → Option Text) (colours : Bool) (words : List Text) (kind : ErrorKind) (text : String Global) → faults_of words ≡ kind ∷ [] →
    IsRight contents (command_of colours words) (Project text) → ⊥
no_project_asked contents colours words kind text alone right =
    let nothing : IsRight contents None (Project text) = subst (λ asked. IsRight contents asked (Project text)) (nothing_asked colours words kind alone) right in
    nothing

-- words with status 2 are no request for help alone, or for the version alone
pub not_alone_by : (contents : Text → Option Text) (colours : Bool) (words : List Text) (kind : ErrorKind) (fault : Fault) → (IsBadLine fault → faults_of words ≡ kind ∷ [] → ⊥) →
    SaysUnknown (locale_named (command_of colours words)) fault → IsRight contents (command_of colours words) fault → status_of fault ≡ 2 → faults_of words ≡ kind ∷ [] → ⊥
not_alone_by contents colours words kind (CarriageReturn place) bad says right is alone = absurd cc
not_alone_by contents colours words kind (NotNormal report) bad says right is alone = absurd cc
not_alone_by contents colours words kind NotTree bad says right is alone = absurd cc
not_alone_by contents colours words kind NotJson bad says right is alone = absurd cc
not_alone_by contents colours words kind (NoMessage meant) bad says right is alone = absurd cc
not_alone_by contents colours words kind (CommandLine advice) bad says right is alone = bad tt alone
not_alone_by contents colours words kind (Project text) bad says right is alone = no_project_asked contents colours words kind text alone right
not_alone_by contents colours words kind (UnknownLocale tag) bad says right is alone = no_locale_named colours words kind tag.now alone says.0
not_alone_by contents colours words kind (FileUnreadable file why meant) bad says right is alone = absurd cc
not_alone_by contents colours words kind (FileNotUtf8 file row) bad says right is alone = absurd cc
not_alone_by contents colours words kind Input bad says right is alone = absurd cc
not_alone_by contents colours words kind Output bad says right is alone = absurd cc
not_alone_by contents colours words kind Memory bad says right is alone = absurd cc

-- words that ask for one of the texts alone name no command
pub no_command_asked : (colours : Bool) (words : List Text) (kind : ErrorKind) (asked : Asked) → faults_of words ≡ kind ∷ [] → command_of colours words ≡ Some asked → ⊥
no_command_asked colours words kind asked alone named =
    let both : ◌≡◌ {A = Option Asked} None (Some asked) = sym (nothing_asked colours words kind alone) ∙ named in
    absurd cc

-- words that ask for the version alone ask for no help
pub no_help_asked : (words : List Text) → AskForVersionAlone words → AskForHelp words → ⊥
no_help_asked words alone help = one (rw alone at help)
  where
    one : IsAmong DisplayHelp (DisplayVersion ∷ []) → ⊥
    one (inl same) = absurd cc
    one (inr none) = absurd none

-- nor for what a code means
pub no_explanation_asked : (words : List Text) → AskForVersionAlone words → AskForExplanation words → ⊥
no_explanation_asked words alone asked = let both : ◌≡◌ {A = Kinds} [] (DisplayVersion ∷ []) = sym asked.0 ∙ alone in absurd cc

-- the words are no command
pub is_bad : {error : CommandError} {advice : Option (String Global)} → error ≡ why.Bad advice → IsBad error
is_bad is = rw is tt

module _ (colours : Bool) (words : List Text) {invocation : Invocation} where
  -- the words ask for a command
  pub asked_command : {command : Command} → invocation ≡ of.Command command → AskFor colours words invocation → command_of colours words ≡ Some (command_view command)
  asked_command is asked = rw is at asked

  -- or for help
  pub asked_help : {text : String Global} → invocation ≡ of.Help text → AskFor colours words invocation → (command_of colours words ≡ None) × AskForHelp words
  asked_help is asked = rw is at asked

  -- or for what a code means
  pub asked_explanation : {text : Bor Text} → invocation ≡ of.Explanation text → AskFor colours words invocation → (command_of colours words ≡ None) × AskForExplanation words
  asked_explanation is asked = rw is at asked

  -- or for the version, which is this line
  pub asked_version : {line : String Global} → invocation ≡ of.Version line → AskFor colours words invocation →
      (command_of colours words ≡ None) × (AskForVersion words × (string_bytes line ≡ version_line))
  asked_version is asked = rw is at asked

on_err_always : {T E : Type 0} {P : E → Type 0} (result : Result T E) → ((error : E) → P error) → IfErr result P
on_err_always (Ok x) p = tt
on_err_always (Err error) p = p error

-- a command is no text that words ask for
pub command_helps : {W : Type 0} (sink : SinkGhosts W) (writer writer' : W) (colours : Bool) (words : List Text) (asked : Asked) (result : Result Ended Fault) →
    command_of colours words ≡ Some asked → AnswersHelp sink writer writer' colours words result
command_helps sink writer writer' colours words asked result named = record {
  text = on_ok_always result (λ none. let both : ◌≡◌ {A = Option Asked} None (Some asked) = sym none ∙ named in absurd cc);
  version = λ alone. absurd (no_command_asked colours words DisplayVersion asked alone named);
  not_help = on_err_always result (λ fault bad alone. no_command_asked colours words DisplayHelp asked alone named);
  not_version = on_err_always result (λ fault bad alone. no_command_asked colours words DisplayVersion asked alone named);
}

-- a text is written that the words ask for
pub text_helps : {W : Type 0} (sink : SinkGhosts W) (writer writer' : W) (colours : Bool) (words : List Text) (result : Result Ended Fault) →
    AskForText words → (AskForVersionAlone words → ShowsVersionOn sink writer writer' result) → IfErr result (λ fault. fault ≡ Output) →
    AnswersHelp sink writer writer' colours words result
text_helps sink writer writer' colours words result asked shows fault = record {
  text = on_ok_always result (λ none. asked);
  version = shows;
  not_help = IfErr-weaker result _ _ (λ f is bad. absurd (rw is at bad)) fault;
  not_version = IfErr-weaker result _ _ (λ f is bad. absurd (rw is at bad)) fault;
}
