use Rattle.lint_findings.proofs.Splits.{starts_between, split_line, split_after}
use Rattle.lint_findings.proofs.places.SourcePosition.split.Goals as goal

pub range-requires-clause-start_boundary : goal.range-requires-clause-start_boundary
range-requires-clause-start_boundary c = λ some.
    starts_between c.args.source.now c.utf8.source c.after_character-place.result c.after_character-place.ensures.place c.after_character-place.ensures.boundary

pub returns-clause-line : goal.returns-clause-line
returns-clause-line c =
    split_line c.args.source.now c.utf8.source c.after_character-place.result c.after_character-place.ensures.place c.after_character-place.ensures.boundary
    c.args.self.line_start c.end_of_front-end.result c.as_bytes.result.now c.range.result.now c.range_from.result.now
    c.after_character-place.ensures.line_start c.as_bytes.ensures.value c.end_of_front-end.ensures c.range.ensures.value c.range_from.ensures.value

pub returns-clause-column : goal.returns-clause-column
returns-clause-column c =
    split_after c.args.source.now c.utf8.source c.after_character-place.result c.after_character-place.ensures.place c.after_character-place.ensures.boundary
    c.args.self.column c.end_of_front-end.result c.as_bytes.result.now c.range.result.now c.range_from.result.now
    c.after_character-place.ensures.column c.as_bytes.ensures.value c.end_of_front-end.ensures c.range.ensures.value c.range_from.ensures.value
