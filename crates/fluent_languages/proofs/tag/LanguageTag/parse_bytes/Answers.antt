use Rattle.std.proofs.Common.{◌∙◌, subst, sym}
use Rattle.std.specs.Str.{IsAscii}
use Rattle.fluent_languages.proofs.Ascii.{region_is_ascii, script_is_ascii, variants_are_ascii}
use Rattle.fluent_languages.specs.Tags.{more_parts}
use Rattle.fluent_languages.proofs.tag.LanguageTag.parse_bytes.Goals as goal

pub text_of-requires-then-are_variants : goal.text_of-requires-then-are_variants
text_of-requires-then-are_variants c =
    subst IsAscii (sym c.split_script-script.ensures.part) (script_is_ascii (more_parts c.split_part-language.result.rest.now))

pub text_of-requires-then-are_variants-2 : goal.text_of-requires-then-are_variants-2
text_of-requires-then-are_variants-2 c =
    subst IsAscii (sym c.split_region-region.ensures.part) (region_is_ascii (more_parts c.split_script-script.result.rest.now))

pub text_of-requires-then-are_variants-3 : goal.text_of-requires-then-are_variants-3
text_of-requires-then-are_variants-3 c =
    variants_are_ascii c.split_region-region.result.rest.now c.split_region-region.ensures.follows (sym c.are_variants.ensures ∙ c.if-are_variants.true)

pub invariant_of-result : goal.invariant_of-result
invariant_of-result c = record {
  is_ascii = subst IsAscii (sym c.text_of-then-are_variants-3.ensures)
      (variants_are_ascii c.split_region-region.result.rest.now c.split_region-region.ensures.follows (sym c.are_variants.ensures ∙ c.if-are_variants.true));
}
