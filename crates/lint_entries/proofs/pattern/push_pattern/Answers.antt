use Rattle.std.proofs.Common.{◌∙◌, ◌++◌, None, ap, map, refl, sym}
use Rattle.fluent_ast.specs.Borrowed.{elements_of}
use Rattle.lint_findings.specs.View.{finding_view}
use Rattle.lint_findings.specs.Encodings.{wrong_encodings}
use Rattle.lint_findings.specs.EntryFindings.{finding_in, read_text}
use Rattle.lint_findings.specs.Letters.{letters}
use Rattle.lint_findings.specs.Scripts.{mixed_words}
use Rattle.lint_nodes.specs.OccurrenceView.{occurrence_view}
use Rattle.lint_entries.specs.CatalogView.{ids_in, reference_in}
use Rattle.lint_entries.specs.FoundAt.{nodes_of}
use Rattle.lint_entries.specs.Labels.{label_text}
use Rattle.lint_entries.proofs.CodeNodes.{nodes_are}
use Rattle.lint_entries.proofs.PatternFound.{pattern_added}
use Rattle.lint_entries.proofs.pattern.push_pattern.Goals as goal

pub returns-clause-added : goal.returns-clause-added
returns-clause-added c =
    let catalog = c.args.catalog.now in
    let name = c.args.name.now in
    let es = elements_of c.args.pattern.now in
    let found = c.in_ok-found.found.occurrences.items in
    let walked = c.deref-2.result.now in
    pattern_added (ids_in catalog) (reference_in catalog) catalog.plurals name.source.now (label_text name.label) name.at.now es c.args.text.now c.requires.0 c.requires.1 None (ids_in catalog) refl
    (map occurrence_view walked) (ap (map occurrence_view) c.deref-2.ensures.value ∙ c.in_ok-found.ensures.occurrences) (nodes_of c.deref.result.now) (ap nodes_of (c.deref.ensures.value ∙ sym c.deref-2.ensures.value) ∙ nodes_are walked)
    (map finding_view c.args.findings.now.items) (map finding_view c.push_endless.new.findings.items) (map finding_view c.push_occurrences.new.findings.items) (map finding_view c.push_letters.new.findings.items)
    c.in_ok-push_endless.ensures c.in_ok-push_occurrences.ensures
    (c.in_ok-push_letters.ensures
    ∙ ap (λ w. map finding_view c.push_occurrences.new.findings.items
    ++ map (finding_in name.source.now (label_text name.label) c.args.text.now) (letters w ++ (mixed_words w ++ wrong_encodings w)))
    (ap (read_text c.args.text.now) (sym c.in_ok-found.ensures.rest)))
