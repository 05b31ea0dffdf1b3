-- What a parse by `clap` says of the words.
use Rattle.std.proofs.Common.{◌≡◌, ◌∙◌, Bool, true, List, [], ◌∷◌, Option, None, Result, Ok, Err, ap, refl, subst, sym, inl, inr}
use Rattle.std.specs.Prelude.{IsErrOf, is_some}
use Rattle.clap.specs.Words.{App, HasKind, HasMatchesOf, IsAmong, Kinds, Text, fault_of, is_simple, is_simple_and_free, kind_of, subcommand_of, subcommand_rows_of}
use Rattle.clap.specs.declared.error.Error.{Error}
use Rattle.clap.specs.declared.error.kind.ErrorKind.{ErrorKind}
use Rattle.clap.specs.declared.error.kind.ErrorKind.TheVariants.{DisplayHelp, DisplayVersion, OutOfMemory}
use Rattle.clap.specs.declared.parser.matches.ArgMatches.{ArgMatches}
use Rattle.ftl_arguments.specs.CommandView.{AskFor, IfBad, IsMet, IsTextOf}
use Rattle.ftl_arguments.specs.Commands.{program_app}
use Rattle.ftl_arguments.specs.declared.commands.Invocation.{Invocation}
use Rattle.ftl_arguments.specs.declared.commands.Invocation.TheVariants.{Command, Explanation, Help, Version}
use Rattle.ftl_arguments.specs.declared.errors.CommandError.{CommandError}
use Rattle.ftl_arguments.specs.declared.errors.CommandError.TheVariants.{Memory, Bad}
use Rattle.ftl_arguments.specs.Meaning.{Asked, asked_of, command_of, explained_of, faults_of, without_faults}

program_is_simple : is_simple program_app ≡ true
unfolding program_app
program_is_simple = refl

program_is_free : is_simple_and_free program_app ≡ true
unfolding program_app
program_is_free = refl

module _ (app : App) (is : app ≡ program_app) (words : List Text) where
  pub no_faults : (is_simple_and_free app ≡ true → fault_of app words ≡ []) → faults_of words ≡ []
  no_faults taken = ap (λ a. fault_of a words) (sym is) ∙ taken (ap is_simple_and_free is ∙ program_is_free)

  -- what was found for the command
  pub rows_are : (m : ArgMatches) → HasMatchesOf app words m → subcommand_of program_app words ≡ subcommand_rows_of m
  rows_are m matches = ap (λ a. subcommand_of a words) (sym is) ∙ sym (matches (ap is_simple is ∙ program_is_simple)).1

  -- what is asked, where nothing is wrong
  pub asked : (colours : Bool) (m : ArgMatches) → HasMatchesOf app words m → faults_of words ≡ [] →
      command_of colours words ≡ asked_of colours (subcommand_rows_of m)
  asked colours m matches none =
      ap (λ k. without_faults k (asked_of colours (subcommand_of program_app words))) none
      ∙ ap (asked_of colours) (rows_are m matches)

  -- and what was met is what the words ask for
  pub met_asked : (colours : Bool) (m : ArgMatches) → HasMatchesOf app words m → faults_of words ≡ [] →
      (i : Invocation) → IsMet colours m i → AskFor colours words i
  met_asked colours m matches none (Command command) met = asked colours m matches none ∙ met
  met_asked colours m matches none (Help text) met = absurd met
  met_asked colours m matches none (Version line) met = absurd met
  met_asked colours m matches none (Explanation text) met =
      (asked colours m matches none ∙ met.0, (none, subst (λ found. is_some (explained_of found) ≡ true) (sym (rows_are m matches)) met.1))

  -- an error that tells of no refused growth has a kind that the words make
  pub among : (e : Error) → (is_simple_and_free app ≡ true → HasKind (fault_of app words) e) → (kind_of e ≡ OutOfMemory → ⊥) → IsAmong (kind_of e) (faults_of words)
  among e has_kind not_memory = told (ap (λ a. fault_of a words) is) (has_kind (ap is_simple_and_free is ∙ program_is_free))
    where
      told : {kinds : Kinds} → kinds ≡ faults_of words → HasKind kinds e → IsAmong (kind_of e) (faults_of words)
      told same (inl memory) = absurd (not_memory memory)
      told same (inr one) = rw (← same) one

-- with a fault nothing is asked
refused : (k : ErrorKind) (kinds : Kinds) (meant : Option Asked) → IsAmong k kinds → without_faults kinds meant ≡ None
refused k [] meant one = absurd one
refused k (x ∷ xs) meant one = refl

pub nothing_asked : (colours : Bool) (words : List Text) (k : ErrorKind) → IsAmong k (faults_of words) → command_of colours words ≡ None
nothing_asked colours words k one = refused k (faults_of words) (asked_of colours (subcommand_of program_app words)) one

among_one : (k x : ErrorKind) → IsAmong k (x ∷ []) → k ≡ x
among_one k x (inl same) = same
among_one k x (inr none) = absurd none

-- what was told is not this, so the words don't ask for it alone
pub not_alone : (words : List Text) (asked k : ErrorKind) → IsAmong k (faults_of words) → (k ≡ asked → ⊥) → faults_of words ≡ asked ∷ [] → ⊥
not_alone words asked k one other alone = other (among_one k asked (rw alone at one))

-- with nothing wrong, the words ask for none of the texts
pub none_asked : (words : List Text) (asked : ErrorKind) → faults_of words ≡ [] → faults_of words ≡ asked ∷ [] → ⊥
none_asked words asked none alone = let both : ◌≡◌ {A = Kinds} [] (asked ∷ []) = sym none ∙ alone in absurd cc

-- what is so of the words is so of any that are bad
pub bad_always : {T Fact : Type 0} (result : Result T CommandError) → Fact → IfBad result Fact
bad_always (Ok value) fact = tt
bad_always (Err error) fact = λ bad. fact

-- the text that an error stands for is what the words ask for
module _ (colours : Bool) (words : List Text) (k : ErrorKind) (among : (k ≡ OutOfMemory → ⊥) → IsAmong k (faults_of words)) where
  of_kind : (asked : ErrorKind) → k ≡ asked → (asked ≡ OutOfMemory → ⊥) → IsAmong k (faults_of words)
  of_kind asked is other = among (λ memory. other (sym is ∙ memory))

  pub text_asked : (i : Invocation) → IsTextOf k i → AskFor colours words i
  text_asked (Command command) none = absurd none
  text_asked (Help text) is =
      let one = of_kind DisplayHelp is (λ memory. absurd cc) in
      (nothing_asked colours words k one, subst (λ kind. IsAmong kind (faults_of words)) is one)
  text_asked (Explanation text) none = absurd none
  text_asked (Version line) is =
      let one = of_kind DisplayVersion is.0 (λ memory. absurd cc) in
      (nothing_asked colours words k one, (subst (λ kind. IsAmong kind (faults_of words)) is.0 one, is.1))

  -- with an error, and not for want of memory, the words ask for no command
  pub refused_unasked : {T : Type 0} (result : Result T CommandError) → (k ≡ OutOfMemory → IsErrOf result Memory) →
      IfBad result (command_of colours words ≡ None)
  refused_unasked (Ok value) memory = tt
  refused_unasked (Err Memory) memory = λ bad. absurd bad
  refused_unasked (Err (Bad advice)) memory = λ bad. nothing_asked colours words k (among (λ is. let no = memory is in absurd cc))

  -- and what was told is none of the texts, so they don't ask for one alone
  pub bad_not_alone : {T : Type 0} (asked : ErrorKind) (result : Result T CommandError) → (k ≡ OutOfMemory → IsErrOf result Memory) →
      IfBad result (k ≡ asked → ⊥) → IfBad result (faults_of words ≡ asked ∷ [] → ⊥)
  bad_not_alone asked (Ok value) memory other = tt
  bad_not_alone asked (Err Memory) memory other = λ bad. absurd bad
  bad_not_alone asked (Err (Bad advice)) memory other = λ bad.
      not_alone words asked k (among (λ is. let no = memory is in absurd cc)) (other bad)
