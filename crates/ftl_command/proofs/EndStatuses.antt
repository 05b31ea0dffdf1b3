-- An end without a fault whose status is 2: a path stands for no file, of those that are linted or tidied in place.
use Rattle.std.proofs.Common.{◌≡◌, ◌∙◌, ℕ, Bool, true, false, List, [], ◌∷◌, Option, None, Some, IsSomeAnd, ap, subst, sym}
use Rattle.fluent_serve.specs.Text.{Text}
use Rattle.fluent_serve.specs.Exchange.{Devices}
use Rattle.clap.specs.declared.error.kind.ErrorKind.{ErrorKind}
use Rattle.ftl_arguments.specs.Meaning.{Asked, Format, command_of, faults_of, run, format, check, lint, lint_input, lint_project, status, tidy_files, tidy_input, tidy}
use Rattle.ftl_files.specs.Tidying.{FileEnd, kept, changed, failed, refused, out_of_memory}
use Rattle.fluent_serve.specs.Frames.{Reply, ended}
use Rattle.ftl_command.specs.Faults.{end_status}
use Rattle.ftl_command.specs.Files.{OnTexts}
use Rattle.ftl_command.specs.Input.{said_of}
use Rattle.ftl_command.specs.Plurals.{rules_asked}
use Rattle.ftl_command.specs.Program.{EndsWith, IsDone, IsRefused, OnReply, Writes, end_by, reply_for}
use Rattle.ftl_command.specs.Reported.{files_status}
use Rattle.ftl_command.specs.declared.ended.Ended.{Ended}
use Rattle.ftl_command.specs.declared.ended.Ended.TheVariants.{Done}
use Rattle.ftl_command.proofs.EndLemmas.{nothing_asked}

from_some : {X Q : Type 0} {P : X → Type 0} (o : Option X) → ((x : X) → P x → Q) → IsSomeAnd o P → Q
from_some None f p = absurd p
from_some (Some x) f p = f x p

-- it isn't that of what is done
done_isnt : (end : Ended) → end ≡ Done → end_status end ≡ 2 → ⊥
done_isnt end is two = let zero : ◌≡◌ {A = ℕ} 0 2 = sym (ap end_status is) ∙ two in absurd cc

-- nor that of a text with errors
text_isnt : (errors : List Text) (end : Ended) → EndsWith errors end → end_status end ≡ 2 → ⊥
text_isnt [] end ends two = let zero : ◌≡◌ {A = ℕ} 0 2 = sym ends.1 ∙ two in absurd cc
text_isnt (e ∷ es) end ends two = let one : ◌≡◌ {A = ℕ} 1 2 = sym ends.1 ∙ two in absurd cc

format_isnt : (contents : Text → Option Text) (d : Devices) (f : Format) (end : Ended) →
    OnReply contents f (λ reply. Writes d (ended reply.text) × EndsWith reply.errors end) → end_status end ≡ 2 → ⊥
format_isnt contents d f end done two =
    from_some {P = λ by. OnTexts contents f.files (λ sources. IsSomeAnd (reply_for by f sources) (λ reply. Writes d (ended reply.text) × EndsWith reply.errors end))}
    (rules_asked f.plain_numbers f.locale)
    (λ by on. from_some {P = λ (reply : Reply). Writes d (ended reply.text) × EndsWith reply.errors end} (reply_for by f on.sources)
    (λ reply shown. text_isnt reply.errors end shown.1 two) on.outcome)
    done

-- nor that of a check
check_isnt : (text : Text) (end : Ended) → end ≡ end_by text → end_status end ≡ 2 → ⊥
check_isnt [] end is two = done_isnt end is two
check_isnt (b ∷ bs) end is two = let one : ◌≡◌ {A = ℕ} 1 2 = sym (ap end_status is) ∙ two in absurd cc

-- nor that of standard input
input_isnt : (checked : Bool) (end : FileEnd) → files_status (said_of checked end).reported (said_of checked end).has_found ≡ 2 → ⊥
input_isnt checked kept two = absurd cc
input_isnt true (changed text) two = absurd cc
input_isnt false (changed text) two = absurd cc
input_isnt checked (failed f why) two = absurd cc
input_isnt checked (refused report) two = absurd cc
input_isnt checked (out_of_memory report) two = absurd cc

pub refused_end : (contents : Text → Option Text) (d : Devices) (asked : Option Asked) (end : Ended) → IsDone contents d asked end → end_status end ≡ 2 → IsRefused asked
refused_end contents d None end done two = tt
refused_end contents d (Some (run r)) end done two = absurd (done_isnt end done.0 two)
refused_end contents d (Some (format f)) end done two = absurd (format_isnt contents d f end done two)
refused_end contents d (Some (check files)) end done two = absurd (check_isnt _ end done.outcome.1 two)
refused_end contents d (Some (lint l)) end done two = tt
refused_end contents d (Some (lint_input l)) end done two = tt
refused_end contents d (Some (lint_project l)) end done two = tt
refused_end contents d (Some (status s)) end done two = tt
refused_end contents d (Some (tidy_files t)) end done two = tt
refused_end contents d (Some (tidy_input checked)) end done two =
    absurd (input_isnt checked done.tidied.end (sym done.tidied.outcome.1.status ∙ two))
refused_end contents d (Some (tidy t)) end done two = absurd (done_isnt end done.0 two)

-- words that ask for one of the texts alone don't end so
pub not_alone_end : (contents : Text → Option Text) (d : Devices) (colours : Bool) (words : List Text) (kind : ErrorKind) (end : Ended) → IsDone contents d (command_of colours words) end →
    end_status end ≡ 2 → faults_of words ≡ kind ∷ [] → ⊥
not_alone_end contents d colours words kind end done two alone =
    let shown : IsDone contents d None end = subst (λ asked. IsDone contents d asked end) (nothing_asked colours words kind alone) done in
    done_isnt end shown two
