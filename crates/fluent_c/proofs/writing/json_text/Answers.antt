use Rattle.std.proofs.Common.{rules, ap, ◌∙◌}
use Rattle.serde_json.specs.Written.{compact_text, has_float}
use Rattle.fluent_syntax.specs.Tiling.{tree}
use Rattle.fluent_json.specs.Json.{json}
use Rattle.fluent_json.proofs.NoFloats.{has_no_float}
use Rattle.fluent_c.proofs.writing.json_text.Goals as goal

pub returns : goal.returns
returns c =
    let same = c.in_ok-value.ensures ∙ ap json c.in_ok-resource.ensures in
    let text = c.in_ok-written.ensures.text (ap has_float same ∙ has_no_float (tree c.args.text.now)) ∙ ap compact_text same in
    search rules
