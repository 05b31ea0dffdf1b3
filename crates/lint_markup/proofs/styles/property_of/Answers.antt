use Rattle.std.proofs.Common.{◌≡◌, ◌∙◌, Option, Some, None, true, false, option_map, drop, take, sym, ap, arith}
use Rattle.std.specs.Prelude.{◌==◌}
use Rattle.std.specs.List.{prefix_len}
use Rattle.std.proofs.lemmas.Bool.Decides.{nat_tests}
use Rattle.std.proofs.lemmas.Grind.{common_steps}
use Rattle.fluent_grammar.specs.Words.{Text, is_name_byte}
use Rattle.fluent_tokens.proofs.Counted.{cut_names}
use Rattle.lint_findings.specs.Styles as s
use Rattle.lint_findings.specs.Tags.{skip_blanks}
use Rattle.lint_markup.specs.Pieces.{value_after}
use Rattle.lint_markup.proofs.StyleParts.{unnamed, valued}
use Rattle.lint_markup.proofs.styles.property_of.Goals as goal

abbrev property : Text → Option Text → s.Property
property name unit = record { name = name; unit = unit }

pub range_from-requires : goal.range_from-requires
range_from-requires c = λ _. (cut_names c.args.text.now c.name_len-len.result (c.name_len-len.ensures ∙ ap (prefix_len is_name_byte) c.as_bytes.ensures.value)).boundary c.utf8.text

pub returns-then-len-eq0 : goal.returns-then-len-eq0
returns-then-len-eq0 c =
    let text = c.args.text.now in
    let n = c.name_len-len.result in
    let is : n ≡ prefix_len is_name_byte text = c.name_len-len.ensures ∙ ap (prefix_len is_name_byte) c.as_bytes.ensures.value in
    let none : (n == 0) ≡ true = grind (arith, nat_tests, c.if-len-eq0.true) in
    sym (ap (s.property_named text) (sym is) ∙ unnamed text n none)

pub returns-in-None : goal.returns-in-None
returns-in-None c =
    let text = c.args.text.now in
    let n = c.name_len-len.result in
    let is : n ≡ prefix_len is_name_byte text = c.name_len-len.ensures ∙ ap (prefix_len is_name_byte) c.as_bytes.ensures.value in
    let some : (n == 0) ≡ false = grind (arith, nat_tests, c.if-len-eq0.false) in
    let rest : c.range_from.result.now ≡ drop n text = grind (arith, common_steps, c.range_from.ensures.value) in
    let found : value_after (skip_blanks (drop n text)) ≡ None =
    ap (λ u. value_after (skip_blanks u)) (sym rest) ∙ ap value_after (sym c.skip_blanks.ensures) ∙ sym c.value_after.ensures ∙ ap (option_map (λ s. s.now)) c.in-None.is in
    sym (ap (s.property_named text) (sym is) ∙ valued text n None some found)

pub returns-in-Some : goal.returns-in-Some
returns-in-Some c =
    let text = c.args.text.now in
    let n = c.name_len-len.result in
    let v = c.in-Some.value.now in
    let is : n ≡ prefix_len is_name_byte text = c.name_len-len.ensures ∙ ap (prefix_len is_name_byte) c.as_bytes.ensures.value in
    let some : (n == 0) ≡ false = grind (arith, nat_tests, c.if-len-eq0.false) in
    let rest : c.range_from.result.now ≡ drop n text = grind (arith, common_steps, c.range_from.ensures.value) in
    let found : value_after (skip_blanks (drop n text)) ≡ Some v =
    ap (λ u. value_after (skip_blanks u)) (sym rest) ∙ ap value_after (sym c.skip_blanks.ensures) ∙ sym c.value_after.ensures ∙ ap (option_map (λ s. s.now)) c.in-Some.is in
    let name : c.range.result.now ≡ take n text = grind (arith, common_steps, c.range.ensures.value) in
    ap (λ (x : Text). Some (property x (option_map (λ s. s.now) c.unit_of.result))) name
    ∙ ap (λ (u : Option Text). Some (property (take n text) u)) c.unit_of.ensures
    ∙ sym (ap (s.property_named text) (sym is) ∙ valued text n (Some v) some found)
