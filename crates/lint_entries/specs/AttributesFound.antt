-- The findings of attributes, and of an entry with its attributes.
use Rattle.std.specs.Prelude.{List, [], ◌∷◌, ◌++◌, Some, if◌then◌else◌, Vec}
use Rattle.std.specs.Global.{Global}
use denote.Ref.{Bor}
use Rattle.fluent_grammar.specs.Words.{Text, is_among}
use Rattle.fluent_grammar.specs.Tree as t
use Rattle.lint_findings.specs.EntryFindings.{taken_remark}
use Rattle.lint_findings.specs.Finding.{Finding}
use Rattle.lint_findings.specs.declared.records.Finding as code
use Rattle.fluent_meaning.specs.Fallback.{with_attribute}
use Rattle.lint_entries.specs.CatalogView.{ids_in, reference_in}
use Rattle.lint_entries.specs.EntryParts.{attributes_at}
use Rattle.lint_entries.specs.HasNames.{HasNames}
use Rattle.lint_entries.specs.Made.{Adds, made_of}
use Rattle.lint_entries.specs.declared.catalog.Catalog.{Catalog}
use Rattle.lint_entries.specs.declared.finding.EntryPoint.{EntryPoint}
use Rattle.lint_entries.specs.declared.names.Names.{Names}

-- an attribute whose name is one of these
abbrev pub taken_found : List Text → Text → EntryPoint → List Finding
taken_found before name place = if is_among name before then made_of place taken_remark ∷ [] else []

-- the finding of an attribute is added, if its name is one of those of a set
abbrev pub AddsIfTaken : Names → Text → EntryPoint → Vec code.Finding Global → Vec code.Finding Global → Type 0
AddsIfTaken names name place old new = (before : List Text) → HasNames names before → Adds old new (taken_found before name place)

-- the place of an attribute of an entry
abbrev pub place_of_attribute : EntryPoint → Bor Text → Bor Text → EntryPoint
place_of_attribute entry name at = record {
  source = entry.source;
  at = at;
  label = record { sign = entry.label.sign; id = entry.label.id; attribute = Some name };
}

-- a label of an entry, with the name of an attribute
abbrev pub label_with : EntryPoint → Text → Text
label_with entry name = with_attribute (entry.label.sign.now ++ entry.label.id.now) (Some name)

-- the findings of attributes of an entry, after those with these names, from the line of the first one on
abbrev pub attributes_found : Catalog → EntryPoint → List Text → List t.Attribute → Text → List Finding
attributes_found catalog entry before as' s =
    attributes_at (ids_in catalog) (reference_in catalog) catalog.plurals entry.source.now (entry.label.sign.now ++ entry.label.id.now) before as' s
