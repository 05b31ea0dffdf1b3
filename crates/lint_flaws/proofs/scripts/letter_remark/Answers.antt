use Rattle.std.proofs.Common.{◌≡◌, ◌∙◌, ◌++◌, ◌/◌, ◌%◌, ◌<◌, List, ℕ, true, false, codes, Option, Some, option_map, IfSome, string_bytes, ap, subst, rules, arith}
use Rattle.std.specs.Fmt.{◌++?◌, digits, padded_integral, radix_prefix, shown_prefix, styled_digits_output}
use Rattle.std.proofs.lemmas.Fmt.{hex_byte}
use Rattle.lint_findings.specs.Finding.{remark, warning}
use Rattle.lint_findings.specs.Scripts.{script_words}
use Rattle.lint_flaws.specs.Letters.{script_view}
use Rattle.lint_flaws.proofs.HexNumbers.{four_glyphs, two_glyphs}
use Rattle.lint_flaws.proofs.scripts.letter_remark.Goals as goal

pub returns : goal.returns
returns c =
    let n = c.args.letter.number in
    let range : n < 65536 = search rules in
    let high : n / 256 < 256 = omega (arith, range) in
    let low : n % 256 < 256 = omega arith in
    let one = c.script_words-script.result.now in
    let other = c.script_words-other.result.now in
    -- what `{:02X}` writes of both bytes
    let first : styled_digits_output c.in_radix.result c.laid_out.result ≡ Some (two_glyphs (n / 256)) =
    ap (option_map (padded_integral c.laid_out.result false (shown_prefix c.laid_out.result (radix_prefix c.in_radix.result.base)))) c.in_radix.ensures
    ∙ ap (λ spec. Some (padded_integral spec false (shown_prefix spec (radix_prefix c.in_radix.result.base)) (digits 16 true (n / 256)))) c.laid_out.ensures
    ∙ ap Some (hex_byte true (n / 256) high) in
    let second : styled_digits_output c.in_radix-2.result c.laid_out-2.result ≡ Some (two_glyphs (n % 256)) =
    ap (option_map (padded_integral c.laid_out-2.result false (shown_prefix c.laid_out-2.result (radix_prefix c.in_radix-2.result.base)))) c.in_radix-2.ensures
    ∙ ap (λ spec. Some (padded_integral spec false (shown_prefix spec (radix_prefix c.in_radix-2.result.base)) (digits 16 true (n % 256)))) c.laid_out-2.ensures
    ∙ ap Some (hex_byte true (n % 256) low) in
    let rest = codes " is a " ++ (one ++ (codes " letter in a " ++ (other ++ codes " word"))) in
    let half = subst (λ (o : Option (List ℕ)). IfSome (Some (codes "U+") ++? (o ++? (styled_digits_output c.in_radix-2.result c.laid_out-2.result ++? Some rest))) (λ bs. string_bytes c.in_ok-text.text ≡ bs)) first c.in_ok-text.ensures.ok in
    let written = subst (λ (o : Option (List ℕ)). IfSome (Some (codes "U+") ++? (Some (two_glyphs (n / 256)) ++? (o ++? Some rest))) (λ bs. string_bytes c.in_ok-text.text ≡ bs)) second half in
    let words = ap (λ x. codes " is a " ++ (x ++ (codes " letter in a " ++ (other ++ codes " word")))) c.script_words-script.ensures
    ∙ ap (λ x. codes " is a " ++ (script_words (script_view c.args.letter.script) ++ (codes " letter in a " ++ (x ++ codes " word")))) c.script_words-other.ensures in
    c.warning.ensures ∙ ap (λ t. remark warning (codes "mixed-scripts") t) (written ∙ ap (λ z. codes "U+" ++ (two_glyphs (n / 256) ++ (two_glyphs (n % 256) ++ z))) words ∙ ap (λ z. z ++ (codes " is a " ++ (script_words (script_view c.args.letter.script) ++ (codes " letter in a " ++ (script_words (script_view c.args.other) ++ codes " word"))))) (four_glyphs n range))
