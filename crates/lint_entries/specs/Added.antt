-- What each call adds to the findings.
use Rattle.std.specs.Prelude.{◌≡◌, ◌-◌, List, [], ◌++◌, length, map, take, Option, Vec}
use Rattle.std.specs.Global.{Global}
use denote.Ref.{Bor}
use Rattle.fluent_ast.specs.Borrowed.{attributes_of, elements_of}
use Rattle.fluent_ast.specs.declared.Attribute.{Attribute}
use Rattle.fluent_ast.specs.declared.Pattern.{Pattern}
use Rattle.lint_findings.specs.declared.records.Finding.{Finding}
use Rattle.lint_findings.specs.View.{remark_view}
use Rattle.lint_findings.specs.declared.remark.Remark.{Remark}
use Rattle.lint_findings.specs.Encodings.{wrong_encodings}
use Rattle.lint_findings.specs.EntryFindings.{finding_in}
use Rattle.lint_findings.specs.Finding as f
use Rattle.lint_findings.specs.Letters.{letters}
use Rattle.lint_findings.specs.Occurrences.{pattern_read}
use Rattle.lint_findings.specs.Scripts.{mixed_words}
use Rattle.fluent_grammar.specs.Refusal.{got}
use Rattle.fluent_grammar.specs.Tree.{Elements}
use Rattle.fluent_grammar.specs.Words.{Text}
use Rattle.fluent_meaning.specs.Ids.{Ids}
use Rattle.lint_entries.specs.Labels.{label_text}
use Rattle.lint_nodes.specs.NodeView.{node_view}
use Rattle.lint_nodes.specs.declared.nodes.Node.{Node}
use Rattle.lint_nodes.specs.OccurrenceView.{occurrence_view}
use Rattle.lint_nodes.specs.declared.occurrence.Occurrence.{Occurrence}
use Rattle.lint_entries.specs.AttributesFound.{attributes_found}
use Rattle.lint_entries.specs.FirstEndless.{first_entered}
use Rattle.lint_entries.specs.FoundAt.{endless_found, node_found, nodes_of, occurrences_found, pattern_found, value_found}
use Rattle.lint_entries.specs.Made.{Adds, made_of}
use Rattle.lint_entries.specs.declared.catalog.Catalog.{Catalog}
use Rattle.lint_entries.specs.declared.finding.EntryPoint.{EntryPoint}
use Rattle.lint_entries.specs.declared.label.Label.{Label}

-- a pattern is read at the front of a text, and leaves this rest
abbrev pub LeavesAfter : Elements → Text → Text → Type 0
LeavesAfter es s rest = pattern_read s ≡ got es rest

-- the findings of a pattern with a name at this place, in the source from its first byte on
abbrev pub AddsPattern : Catalog → EntryPoint → Text → Pattern (Bor Text) → Vec Finding Global → Vec Finding Global → Type 0
AddsPattern catalog name s pattern old new = Adds old new (pattern_found catalog name s (elements_of pattern))

-- those of the characters that stand before a rest, of a pattern whose owner is that of this place
abbrev pub AddsLetters : EntryPoint → Text → Text → Vec Finding Global → Vec Finding Global → Type 0
AddsLetters name s rest old new =
    let written = take (length s - length rest) s in
    Adds old new (map (finding_in name.source.now (label_text name.label) s)
    (letters written ++ (mixed_words written ++ wrong_encodings written)))

-- those of a value, which may be none
abbrev pub AddsValue : Catalog → EntryPoint → Text → Option Elements → Vec Finding Global → Vec Finding Global → Type 0
AddsValue catalog name s value old new = Adds old new (value_found catalog name s value)

-- those of the attributes of an entry at this place, in the source from the line of the first one on
abbrev pub AddsAttributes : Catalog → EntryPoint → List (Attribute (Bor Text)) → Text → Vec Finding Global → Vec Finding Global → Type 0
AddsAttributes catalog entry attributes s old new = Adds old new (attributes_found catalog entry [] (attributes_of attributes) s)

-- the finding of a pattern with these occurrences and a name at this place, if its references never end
abbrev pub endless_among : Ids (Unit {0}) → EntryPoint → List Occurrence → List f.Finding
endless_among ids name occurrences = endless_found name (first_entered ids (nodes_of occurrences))

-- those of a node at a place
abbrev pub AddsNode : Catalog → EntryPoint → Node → Vec Finding Global → Vec Finding Global → Type 0
AddsNode catalog place node old new = Adds old new (node_found catalog place (node_view node))

-- those of remarks at a place
abbrev pub AddsRemarks : EntryPoint → List Remark → Vec Finding Global → Vec Finding Global → Type 0
AddsRemarks place remarks old new = Adds old new (map (made_of place) (map remark_view remarks))

-- those of occurrences in a source
abbrev pub AddsOccurrences : Catalog → Text → Label → List Occurrence → Vec Finding Global → Vec Finding Global → Type 0
AddsOccurrences catalog source label occurrences old new =
    Adds old new (occurrences_found catalog source label (map occurrence_view occurrences))
