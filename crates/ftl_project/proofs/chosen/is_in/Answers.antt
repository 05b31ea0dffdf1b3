use Rattle.std.proofs.Common.{◌≡◌, ◌∙◌, None, Some, ap, sym, option_map}
use Rattle.fluent_project.specs.Taking.{after}
use Rattle.ftl_project.proofs.ChosenPaths.{in_by_rest, in_if_empty, in_if_other}
use Rattle.ftl_project.proofs.chosen.is_in.Goals as goal

pub returns-in-Some-empty : goal.returns-in-Some-empty
returns-in-Some-empty c =
    let folder = c.args.folder.now in
    let path = c.args.path.now in
    let rest = c.in-Some-empty.field-0.now in
    let is : after folder path ≡ Some rest =
    ap (λ t. after t path) (sym c.as_bytes.ensures.value) ∙ ap (after c.as_bytes.result.now) (sym c.as_bytes-2.ensures.value)
    ∙ sym c.after.ensures.rest ∙ ap (option_map (λ r. r.now)) c.in-Some-empty.is in
    sym (in_by_rest folder path (Some rest) is ∙ in_if_empty folder rest c.in-Some-empty.len_below)

pub returns-else-byte-eq47 : goal.returns-else-byte-eq47
returns-else-byte-eq47 c =
    let folder = c.args.folder.now in
    let path = c.args.path.now in
    let rest = c.in-Some-len1-up.field-0.now in
    let is : after folder path ≡ Some rest =
    ap (λ t. after t path) (sym c.as_bytes.ensures.value) ∙ ap (after c.as_bytes.result.now) (sym c.as_bytes-2.ensures.value)
    ∙ sym c.after.ensures.rest ∙ ap (option_map (λ r. r.now)) c.in-Some-len1-up.is in
    c.is_empty.ensures ∙ sym (in_by_rest folder path (Some rest) is ∙ in_if_other folder rest c.in-Some-len1-up.len_at_least c.if-byte-eq47.false)

pub returns-in-None : goal.returns-in-None
returns-in-None c =
    let folder = c.args.folder.now in
    let path = c.args.path.now in
    let is : after folder path ≡ None =
    ap (λ t. after t path) (sym c.as_bytes.ensures.value) ∙ ap (after c.as_bytes.result.now) (sym c.as_bytes-2.ensures.value)
    ∙ sym c.after.ensures.rest ∙ ap (option_map (λ r. r.now)) c.in-None.is in
    sym (in_by_rest folder path None is)
