-- What the program does before it answers.
use Rattle.std.proofs.Common.{ℕ, ◌+◌, ◌<◌, List, [], ◌∷◌, ◌++◌, length, take, map, get_or, ◌≡◌, Option, Some, None, IsSomeAnd, Result, Ok, Err, IfErr, IfOk, OnErr, OnOk, refl}
use Rattle.std.proofs.lemmas.List.{take_more, map-append}
use denote.Ref.{Bor}
use Rattle.std.specs.Prelude.{◌≢◌, ⊤, IfSome, IsErrOf}
use Rattle.std.specs.Io.KnownBytes.{Appends}
use Rattle.fluent_serve.specs.Text.{Text}
use Rattle.fluent_serve.specs.Exchange.{Devices, devices_of, AnswersFirst}
use Rattle.fluent_serve.specs.Texts.{texts}
use Rattle.ftl_arguments.specs.Meaning.{Asked, Run, run, format, check, lint, lint_input, lint_project, status, tidy_files, tidy_input, tidy}
use Rattle.ftl_command.specs.declared.ended.Ended.{Ended}
use Rattle.ftl_command.specs.declared.ended.Ended.TheVariants.{Done}
use Rattle.ftl_command.specs.declared.fault.Fault.{Fault}
use Rattle.ftl_command.specs.declared.fault.Fault.TheVariants.{Output}
use Rattle.ftl_command.specs.Files.{AreHeld}
use Rattle.ftl_command.specs.Plurals.{Rules, rules_asked}
use Rattle.ftl_arguments.specs.Version.{version_line}
use Rattle.ftl_command.specs.Program.{OnRun, OnRunBy, AfterMemory, AnswersFirstBy, ShowsVersion, WithoutInput, WritesFront, line_for}
use Rattle.fluent_serve.proofs.Runs.{nothing_served}

-- what a file holds, or nothing where that is not known
held_or_nothing : Option Text → Text
held_or_nothing None = []
held_or_nothing (Some held) = held

is_held : (known : Option Text) → IfSome known (λ held. held_or_nothing known ≡ held)
unfolding held_or_nothing
is_held None = tt
is_held (Some held) = refl

texts_of : (Text → Option Text) → List Text → List Text
texts_of contents [] = []
texts_of contents (f ∷ fs) = held_or_nothing (contents f) ∷ texts_of contents fs

are_held : (contents : Text → Option Text) (files : List Text) → AreHeld contents files (texts_of contents files)
unfolding texts_of
are_held contents [] = tt
are_held contents (f ∷ fs) = (is_held (contents f), are_held contents fs)

-- one more file
pub held_behind : (contents : Text → Option Text) (fs ss : List Text) (f s : Text) → AreHeld contents fs ss → IfSome (contents f) (λ held. s ≡ held) → AreHeld contents (fs ++ f ∷ []) (ss ++ s ∷ [])
held_behind contents [] [] f s each one = (one, tt)
held_behind contents [] (t ∷ ss) f s each one = absurd each
held_behind contents (g ∷ fs) [] f s each one = absurd each
held_behind contents (g ∷ fs) (t ∷ ss) f s each one = (each.0, held_behind contents fs ss f s each.1 one)

pub held_next : {X : Type 0} (text : X → Text) (contents : Text → Option Text) (files : List (Bor Text)) (i : ℕ) (d : Bor Text) (sources : List X) (source : X) → i < length files →
    AreHeld contents (texts (take i files)) (map text sources) → IfSome (contents (get_or files i d).now) (λ held. text source ≡ held) →
    AreHeld contents (texts (take (i + 1) files)) (map text (sources ++ source ∷ []))
held_next text contents files i d sources source inside each one =
    rw (take_more files i d inside, map-append (λ (f : Bor Text). f.now) (take i files) (get_or files i d ∷ []), map-append text sources (source ∷ []))
    (held_behind contents (texts (take i files)) (map text sources) (get_or files i d).now (text source) each one)

-- what holds of known bytes for all that fits holds for each of it
pub known_alike : {O : Type 0} (Fits : O → Type 0) (left : Option Text) (P : Text → O → Type 0) → IfSome left (λ input. (o : O) → Fits o → P input o) → (o : O) → Fits o → IfSome left (λ input. P input o)
known_alike Fits None P all o fits = tt
known_alike Fits (Some input) P all o fits = all o fits

-- the outcome holds by plural rules, which are those that are asked for
pub by_plurals : {X : Type 0} (asked : Option X) (plurals : X) (Outcome : X → Type 0) → asked ≡ Some plurals → Outcome plurals → IsSomeAnd asked Outcome
by_plurals asked plurals Outcome known outcome = rw known outcome

-- nothing is read and nothing written: no line is answered
nothing_by : (plurals : Rules) (contents : Text → Option Text) (r : Run) (left held : Option Text) → OnRunBy plurals contents r (AnswersFirst (devices_of left left held held))
nothing_by plurals contents r left held = record {
  sources = texts_of contents r.files;
  held = are_held contents r.files;
  outcome = nothing_served left held (line_for plurals r (texts_of contents r.files));
}

pub before_answers : (plurals : Rules) (contents : Text → Option Text) (r : Run) (left held : Option Text) → rules_asked r.plain_numbers r.locale ≡ Some plurals → OnRun contents r (AnswersFirst (devices_of left left held held))
before_answers plurals contents r left held known = by_plurals (rules_asked r.plain_numbers r.locale) plurals _ known (nothing_by plurals contents r left held)

-- the same where it is not known whether the locale has plural rules
first_none : (asked : Option Rules) (contents : Text → Option Text) (r : Run) (left held : Option Text) → AnswersFirstBy asked contents (devices_of left left held held) r
first_none None contents r left held = refl
first_none (Some plurals) contents r left held = nothing_by plurals contents r left held

-- the first lines are answered by the plural rules that are asked for
pub first_by : (asked : Option Rules) (contents : Text → Option Text) (d : Devices) (r : Run) → IsSomeAnd asked (λ plurals. OnRunBy plurals contents r (AnswersFirst d)) → AnswersFirstBy asked contents d r
first_by None contents d r outcome = absurd outcome
first_by (Some plurals) contents d r outcome = outcome

-- the same of every command: nothing is done
pub nothing_done : (contents : Text → Option Text) (left held : Option Text) (asked : Option Asked) → AfterMemory contents (devices_of left left held held) asked
nothing_done contents left held None = refl
nothing_done contents left held (Some (run r)) = first_none (rules_asked r.plain_numbers r.locale) contents r left held
nothing_done contents left held (Some (format f)) = refl
nothing_done contents left held (Some (check files)) = refl
nothing_done contents left held (Some (lint l)) = refl
nothing_done contents left held (Some (lint_input l)) = refl
nothing_done contents left held (Some (lint_project l)) = refl
nothing_done contents left held (Some (status s)) = refl
nothing_done contents left held (Some (tidy_files t)) = refl
nothing_done contents left held (Some (tidy_input checked)) = refl
nothing_done contents left held (Some (tidy t)) = refl

pub kept_input : {R : Type 0} (asked : Option Asked) (reader : R) → WithoutInput asked (reader ≡ reader)
kept_input None reader = refl
kept_input (Some (run r)) reader = tt
kept_input (Some (format f)) reader = refl
kept_input (Some (check files)) reader = refl
kept_input (Some (lint l)) reader = refl
kept_input (Some (lint_input l)) reader = tt
kept_input (Some (lint_project l)) reader = refl
kept_input (Some (status s)) reader = refl
kept_input (Some (tidy_files t)) reader = refl
kept_input (Some (tidy_input checked)) reader = tt
kept_input (Some (tidy t)) reader = refl

-- nothing is said of an end
pub if_ok_any : (r : Result Ended Fault) → IfOk r (λ end. ⊤)
if_ok_any (Ok end) = tt
if_ok_any (Err fault) = tt

-- a run that is answered is done
pub done_by : (r : Result Ended Fault) (P : Type 0) → IfOk r (λ end. end ≡ Done) → OnOk r P → IfOk r (λ end. (end ≡ Done) × P)
done_by (Ok end) P is answered = (is, answered)
done_by (Err fault) P is answered = tt

-- after a fault but `Output` a value is as it was
pub kept_by : {W : Type 0} {now before : W} (r : Result Ended Fault) (fault : Fault) → IsErrOf r fault → fault ≢ Output → IfErr r (λ e. e ≢ Output → now ≡ before) → now ≡ before
kept_by r fault is other kept = (rw is at kept) other

-- a fault that doesn't come
pub never_by : (r : Result Ended Fault) (fault : Fault) → IsErrOf r fault → IfErr r (λ e. e ≢ fault) → ⊥
never_by r fault is never = (rw is at never) refl

-- only `Output` comes
pub other_by : (r : Result Ended Fault) (fault : Fault) → IsErrOf r fault → fault ≢ Output → IfErr r (λ e. e ≡ Output) → ⊥
other_by r fault is other only = other (rw is at only)

-- the line of the version was written
pub shows_line : (before after : Option Text) (result : Result Ended Fault) (text : Text) → text ≡ version_line → OnOk result (Appends before after text) →
    OnErr result (WritesFront before after text) → ShowsVersion before after result
shows_line before after (Ok end) text is written front = record { shown = rw is at written; output = λ output. absurd cc }
shows_line before after (Err fault) text is written front = record { shown = tt; output = λ output. rw is at front }
