-- What the text of a message has come to.
use Rattle.std.proofs.Common.{◌≡◌, ◌∙◌, List, [], ◌∷◌, Option, None, Some, IsSomeAnd, ap, option_map, refl, subst}
use Rattle.std.specs.Global.{Global}
use Rattle.std.specs.Prelude.{String}
use Rattle.std.specs.Io.KnownBytes.{Appends}
use Rattle.std.specs.List.{flat_map}
use Rattle.fluent_serve.specs.Text.{Text}
use Rattle.fluent_serve.specs.Frames.{Reply, ended}
use Rattle.ftl_command.specs.Shown.{Shown, error_line, shown}
use Rattle.ftl_arguments.specs.Meaning.{Format, format}
use Rattle.ftl_command.specs.Faults.{end_status}
use Rattle.ftl_command.specs.Plurals.{rules_asked}
use Rattle.ftl_command.specs.Program.{EndsWith, IsFound, OnFound, errors_in, reply_for, status_by}
use Rattle.ftl_command.specs.Refusals.{IsEarlyFault}
use Rattle.ftl_command.specs.declared.ended.Ended.{Ended}
use Rattle.ftl_command.specs.declared.fault.Fault.TheVariants.{NoMessage}
use Rattle.ftl_files.specs.declared.folder.Folder.{Ghosts as FolderGhosts}
use Rattle.ftl_command.proofs.Refusals.{of_refusal}

pub if_some : {X : Type 0} {P Q : X → Type 0} (o : Option X) → ((x : X) → P x → Q x) → IsSomeAnd o P → IsSomeAnd o Q
if_some None f p = absurd p
if_some (Some x) f p = f x p

-- what holds of all that is found for a message holds of this
pub on_found : {P Q : Option Reply → Type 0} (contents : Text → Option Text) (f : Format) → ((found : Option Reply) → P found → Q found) →
    OnFound contents f P → OnFound contents f Q
on_found contents f each found =
    if_some (rules_asked f.plain_numbers f.locale) (λ by on. record { sources = on.sources; held = on.held; outcome = each (reply_for by f on.sources) on.outcome }) found

-- a reply that is written so
pub on_shown : {P : Reply → Type 0} (written : Shown) → ((reply : Reply) → written ≡ shown reply → P reply) →
    (found : Option Reply) → Some written ≡ option_map shown found → IsSomeAnd found P
on_shown written each None is = absurd cc
on_shown written each (Some reply) is = each reply cc

-- or none is
nothing_shown : (found : Option Reply) → None ≡ option_map shown found → found ≡ None
nothing_shown None is = refl
nothing_shown (Some reply) is = absurd cc

-- there is no such message
pub not_found : {F : Type 0} (folders : FolderGhosts F) (before after : F) (f : Format) (meant : Option (String Global)) →
    folders.failures after ≡ folders.failures before → IsFound (folders.contents before) f None →
    IsEarlyFault folders before after (format f) (NoMessage meant)
not_found folders before after f meant same found =
    of_refusal folders before after (format f) (NoMessage meant) tt same (on_found (folders.contents before) f (λ o is. nothing_shown o is) found)

-- there are lines where there are errors
status_same : (errors : List Text) → status_by (flat_map error_line errors) ≡ status_by errors
status_same [] = refl
status_same (e ∷ es) = refl

ends_with : (errors : List Text) (end : Ended) (lines : Text) → errors_in end ≡ lines → end_status end ≡ status_by lines → lines ≡ flat_map error_line errors →
    EndsWith errors end
ends_with errors end lines reported status are = (reported ∙ are, status ∙ (ap status_by are ∙ status_same errors))

-- the text is written, and the end is that of its errors
pub written_so : (before after : Option Text) (end : Ended) (text : Text) (written : Shown) (found : Option Reply) →
    Appends before after text → text ≡ written.text → errors_in end ≡ written.errors → end_status end ≡ status_by written.errors → Some written ≡ option_map shown found →
    IsSomeAnd found (λ reply. Appends before after (ended reply.text) × EndsWith reply.errors end)
written_so before after end text written found wrote text_is reported status is =
    on_shown {P = λ reply. Appends before after (ended reply.text) × EndsWith reply.errors end} written
    (λ reply same. (subst (Appends before after) (text_is ∙ ap (λ s. s.text) same) wrote, ends_with reply.errors end written.errors reported status (ap (λ s. s.errors) same)))
    found is
