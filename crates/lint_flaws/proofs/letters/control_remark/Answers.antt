use Rattle.std.proofs.Common.{◌≡◌, ◌∙◌, ◌∷◌, ◌/◌, ◌%◌, ◌<◌, List, ℕ, [], true, false, codes, Option, Some, option_map, IfSome, string_bytes, ap, subst, rules}
use Rattle.std.specs.Fmt.{◌++?◌, digit_glyph, digits, padded_integral, radix_prefix, shown_prefix, styled_digits_output}
use Rattle.std.proofs.lemmas.Fmt.{hex_byte}
use Rattle.lint_findings.specs.Finding.{remark, warning}
use Rattle.lint_flaws.proofs.letters.control_remark.Goals as goal

pub returns : goal.returns
returns c =
    let n = c.args.byte in
    let low : n < 256 = search rules in
    -- what `{:02X}` writes of the byte
    let glyphs : styled_digits_output c.in_radix.result c.laid_out.result ≡ Some (digit_glyph true (n / 16) ∷ digit_glyph true (n % 16) ∷ []) =
    ap (option_map (padded_integral c.laid_out.result false (shown_prefix c.laid_out.result (radix_prefix c.in_radix.result.base)))) c.in_radix.ensures
    ∙ ap (λ spec. Some (padded_integral spec false (shown_prefix spec (radix_prefix c.in_radix.result.base)) (digits 16 true n))) c.laid_out.ensures
    ∙ ap Some (hex_byte true n low) in
    let written = subst (λ (o : Option (List ℕ)). IfSome (Some (codes "U+00") ++? (o ++? Some (codes " is a control character"))) (λ bs. string_bytes c.in_ok-text.text ≡ bs)) glyphs c.in_ok-text.ensures.ok in
    c.warning.ensures ∙ ap (λ t. remark warning (codes "control-character") t) written
