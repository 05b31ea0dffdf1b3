-- The findings of a message, by the reference.
use Rattle.std.specs.Prelude.{◌≡◌, ℕ, List, map, Option, Vec}
use Rattle.std.specs.Global.{Global}
use Rattle.std.specs.Option.{option_to_list}
use Rattle.lint_findings.specs.View.{finding_view}
use Rattle.lint_findings.specs.declared.records.Finding.{Finding}
use Rattle.lint_findings.specs.Comparison.{Difference}
use Rattle.lint_findings.specs.ComparisonFindings as c
use Rattle.lint_findings.specs.Tiles.{entry_tile}
use Rattle.fluent_grammar.specs.Tree as t
use Rattle.fluent_grammar.specs.Words.{Text}
use Rattle.fluent_meaning.specs.Ids.{Ids}
use Rattle.lint_nodes.specs.HasNames.{HasNames}
use Rattle.lint_nodes.specs.declared.name_set.Names.{Names}

-- the findings of how a message of a catalog differs from this reference, in this source
abbrev pub AreFoundIn : Ids (Unit {0}) → Ids (Unit {0}) → Text → t.Message → Text → Vec Finding Global → Type 0
AreFoundIn ids reference source m s found = map finding_view found.items ≡ c.difference_findings ids reference source m s

-- of an entry of the reference, at any offset
abbrev pub IsMissingIn : Ids (Unit {0}) → Text → t.Entry → Text → Option Finding → Type 0
IsMissingIn ids source e s found = (at : ℕ) → map finding_view (option_to_list found) ≡ c.missing_findings ids source (entry_tile at s e)

-- ---- of differences of the message of an id at the front of a text, if the message of the reference is shown with the
-- variables that are listed

abbrev pub IsFindingBy : Text → Text → Text → Names → Difference → Finding → Type 0
IsFindingBy source id s names d found = (known : List Text) → HasNames names known → finding_view found ≡ c.difference_finding source id s known d

abbrev pub AreFindingsBy : Text → Text → Text → Names → List Difference → Vec Finding Global → Type 0
AreFindingsBy source id s names ds found = (known : List Text) → HasNames names known → map finding_view found.items ≡ map (c.difference_finding source id s known) ds
