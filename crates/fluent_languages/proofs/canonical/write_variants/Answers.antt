use Rattle.std.proofs.Common.{◌++◌, ◌∷◌, sym, ap, ◌∙◌, append_assoc, map, rules}
use Rattle.std.proofs.Output.{has_written_append}
use Rattle.fluent_languages.specs.Canonical.{all_dashed}
use Rattle.fluent_languages.specs.Tags.{small}
use Rattle.fluent_languages.proofs.canonical.write_variants.Goals as goal

pub loop-variant-preserved : goal.loop-variant-preserved
loop-variant-preserved g c =
    λ plain.
    let now = c.loop-variant.invariant plain in
    let variant = 45 ∷ small c.in-Some.variant.now in (
      now.0 ++ variant,
      has_written_append _ _ _ _ _ _ now.1 (search rules),
      append_assoc now.0 variant _ ∙ ap (λ t. now.0 ++ t) (sym (ap (λ left. all_dashed (map small left)) c.in-Some.ensures.steps)) ∙ now.2,
    )
