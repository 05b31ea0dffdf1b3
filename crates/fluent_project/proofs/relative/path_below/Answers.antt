use Rattle.std.proofs.Common.{◌≡◌, ◌∙◌, Some, ap, sym}
use Rattle.std.specs.Prelude.{option_and_then}
use Rattle.fluent_project.specs.Relative.{after_slash, below}
use Rattle.fluent_project.proofs.Below.{rest_utf8, text_there}
use Rattle.fluent_project.proofs.relative.path_below.Goals as goal

pub returns : goal.returns
returns c =
    let rest = c.in_ok-rest.rest.now in
    let is : below c.args.folder.now c.args.path.now ≡ Some rest =
    ap (below c.args.folder.now) (sym c.as_bytes.ensures.value)
    ∙ ap (option_and_then after_slash) (sym c.in_ok-after.ensures.rest)
    ∙ sym c.in_ok-rest.ensures in
    text_there _ c.from_utf8.result rest c.ok.result c.ok.ensures.value c.from_utf8.ensures.cases
    (rest_utf8 c.args.folder.now c.args.path.now rest c.utf8.path is)
    ∙ sym is
