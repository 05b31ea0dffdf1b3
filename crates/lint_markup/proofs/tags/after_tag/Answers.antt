use Rattle.std.proofs.Common.{◌≡◌, ◌∙◌, ◌+◌, Some, length, option_map, refl, sym, ap, arith}
use Rattle.lint_findings.specs.Numbers.{tag_len}
use Rattle.lint_findings.specs.Tags as t
use Rattle.lint_markup.specs.InCode.{tag_view}
use Rattle.lint_markup.proofs.InTags.{after_is, cut_tag, tag_is_whole, tag_len_is}
use Rattle.lint_markup.proofs.tags.after_tag.Goals as goal

pub overflow_add-tag-in-Some : goal.overflow_add-tag-in-Some
overflow_add-tag-in-Some c =
    let s = c.args.text.now in
    let tag = tag_view c.in-Some.tag in
    let found : t.tag_at s ≡ Some tag = sym c.tag_at.ensures ∙ ap (option_map tag_view) c.in-Some.is in
    omega (arith, (tag_is_whole s tag found).within, tag_len_is tag, c.signs.ensures)

pub range_from-requires : goal.range_from-requires
range_from-requires c =
    let s = c.args.text.now in
    let tag = tag_view c.in-Some.tag in
    let found : t.tag_at s ≡ Some tag = sym c.tag_at.ensures ∙ ap (option_map tag_view) c.in-Some.is in
    let len : length tag.element + length tag.inside + c.signs.result ≡ tag_len (Some tag) = omega (arith, tag_len_is tag, c.signs.ensures) in
    λ _. rw len ((cut_tag s tag found).boundary c.utf8.text)

pub returns-in-Some : goal.returns-in-Some
returns-in-Some c =
    let s = c.args.text.now in
    let tag = tag_view c.in-Some.tag in
    let found : t.tag_at s ≡ Some tag = sym c.tag_at.ensures ∙ ap (option_map tag_view) c.in-Some.is in
    let len : length tag.element + length tag.inside + c.signs.result ≡ tag_len (Some tag) = omega (arith, tag_len_is tag, c.signs.ensures) in
    after_is s c.range_from.result.now tag found (c.range_from.ensures.value ∙ rw len refl)
