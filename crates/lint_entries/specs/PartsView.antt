-- What the code's parts of an entry stand for, and what is known of its catalog.
use Rattle.std.specs.Prelude.{◌≡◌, map, Option, option_map, Vec}
use Rattle.std.specs.Global.{Global}
use denote.Ref.{Bor}
use Rattle.fluent_ast.specs.Borrowed.{attributes_of, elements_of}
use Rattle.fluent_ast.specs.declared.Pattern.{Pattern}
use Rattle.fluent_grammar.specs.Tree as t
use Rattle.fluent_grammar.specs.Words.{Text}
use Rattle.lint_entries.specs.CatalogView.{ids_in, reference_in}
use Rattle.lint_entries.specs.EntryParts.{LeaveRest, Parts, parts_found}
use Rattle.lint_entries.specs.declared.catalog.Catalog.{Catalog}
use Rattle.lint_entries.specs.declared.entry_parts.EntryParts.{EntryParts}
use Rattle.lint_findings.specs.View.{finding_view}
use Rattle.lint_findings.specs.declared.records.Finding.{Finding}

-- the value of an entry, if it has one
abbrev pub value_of : Option (Bor (Pattern (Bor Text))) → Option t.Elements
value_of value = option_map (λ pattern. elements_of pattern.now) value

abbrev pub parts_view : EntryParts → Parts
parts_view parts = record {
  sign = parts.sign.now;
  id = parts.id.now;
  value = value_of parts.value;
  attributes = attributes_of parts.attributes.now;
}

-- the parts of an entry are read at the front of a text
abbrev pub AreReadAt : EntryParts → Text → Type 0
AreReadAt parts s = (rest : Text) × LeaveRest (parts_view parts) s rest

-- the findings of the parts of an entry of this source, at the front of a text
abbrev pub AreFoundOf : Catalog → Text → EntryParts → Text → Vec Finding Global → Type 0
AreFoundOf catalog source parts s found =
    map finding_view found.items ≡ parts_found (ids_in catalog) (reference_in catalog) catalog.plurals source (parts_view parts) s
