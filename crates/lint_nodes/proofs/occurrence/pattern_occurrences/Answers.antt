use Rattle.std.proofs.Common.{◌∙◌, ◌++◌, map, ap, sym}
use Rattle.fluent_ast.specs.Borrowed.{elements_of}
use Rattle.fluent_grammar.specs.Refusal.{got}
use Rattle.lint_nodes.specs.OccurrenceView.{occurrence_view}
use Rattle.lint_nodes.specs.TreeOccurrences.{pattern_found}
use Rattle.lint_nodes.proofs.OccurrencesAreFound.{occurrences_are_found, rests_are_read}
use Rattle.lint_nodes.proofs.occurrence.pattern_occurrences.Goals as goal

pub returns-clause-occurrences : goal.returns-clause-occurrences
returns-clause-occurrences c =
    let s = c.args.text.now in
    let es = elements_of c.args.pattern.now in
    c.in_ok-rest.ensures.added ∙ ap (λ os. map occurrence_view os ++ pattern_found es s) c.new-occurrences.ensures.items ∙ sym (occurrences_are_found s es c.requires.0 c.requires.1)

pub returns-clause-rest : goal.returns-clause-rest
returns-clause-rest c =
    let s = c.args.text.now in
    let es = elements_of c.args.pattern.now in
    c.requires.1 ∙ ap (got es) (sym (rests_are_read s es c.requires.0 c.requires.1) ∙ sym c.in_ok-rest.ensures.rest)
