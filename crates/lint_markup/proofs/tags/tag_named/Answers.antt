use Rattle.std.proofs.Common.{◌≡◌, ◌∙◌, Some, None, sym, ap}
use Rattle.lint_findings.specs.Tags as t
use Rattle.lint_markup.proofs.InTags.{cut_inside}
use Rattle.lint_markup.proofs.tags.tag_named.Goals as goal

pub range-requires-2-clause-end_boundary : goal.range-requires-2-clause-end_boundary
range-requires-2-clause-end_boundary c =
    let rest = c.range_from-rest.result.now in
    let is : t.inside_len None rest ≡ Some c.in-Some.inside = ap (t.inside_len None) (sym c.as_bytes-2.ensures.value) ∙ sym c.inside_len.ensures ∙ c.in-Some.is in
    (cut_inside rest c.in-Some.inside is).boundary c.range_from-rest.utf8
