-- Findings as SARIF 2.1.0, which code scanning reads.
use Rattle.std.specs.Prelude.{ℕ, Bool, ◌&&◌, ◌||◌, ◌==◌, if◌then◌else◌, List, [], ◌∷◌, ◌++◌, codes}
use Rattle.std.specs.Char.{is_ascii, is_ascii_alphanumeric}
use Rattle.std.specs.List.{flat_map, list_any}
use Rattle.std.specs.Option.{option_map_or}
use Rattle.percent_encoding.specs.Percent.{percent_encode_byte}
use Rattle.serde_json.specs.Data.{Data, string, number, unsigned, array, item, no_items, object, no_members, member}
use Rattle.fluent_grammar.specs.Words.{Text}
use Rattle.lint_findings.specs.Finding.{Finding}
use Rattle.lint_findings.specs.Findings.{FileFinding}
use Rattle.lint_findings.specs.Listed.{listed}
use Rattle.lint_findings.specs.Position.{Position, position_of}
use Rattle.lint_findings.specs.Report.{labelled_text, severity_text}

-- a byte of a path that a URI has as it is
abbrev pub is_uri_byte : ℕ → Bool
is_uri_byte c = is_ascii c && (is_ascii_alphanumeric c || list_any (λ sign. c == sign) (codes "-._~/"))

abbrev pub uri_byte : ℕ → Text
uri_byte c = if is_uri_byte c then c ∷ [] else percent_encode_byte c

-- what is wrong, after its entry, and the hint in brackets
abbrev pub message_text : Finding → Text
message_text f = labelled_text f ++ option_map_or (λ hint. codes " (" ++ (hint ++ codes ")")) f.hint []

abbrev pub sarif_region : Position → Data
sarif_region p =
    object (member (codes "startColumn") (number (unsigned p.column))
    (member (codes "startLine") (number (unsigned p.line)) no_members))

-- a place in the file of this path
abbrev pub sarif_place : Text → Position → Data
sarif_place path p =
    object (member (codes "artifactLocation") (object (member (codes "uri") (string (flat_map uri_byte path)) no_members))
    (member (codes "region") (sarif_region p) no_members))

abbrev pub sarif_location : FileFinding → Data
sarif_location f =
    object (member (codes "physicalLocation") (sarif_place f.file.name (position_of f.file.source f.finding.offset)) no_members)

-- The keys are in the order of their bytes.
abbrev pub sarif_result : FileFinding → Data
sarif_result f =
    object (member (codes "level") (string (severity_text f.finding.severity))
    (member (codes "locations") (array (item (sarif_location f) no_items))
    (member (codes "message") (object (member (codes "text") (string (message_text f.finding)) no_members))
    (member (codes "ruleId") (string f.finding.code) no_members))))

abbrev pub sarif_head : Text
sarif_head =
    codes "{\"$schema\":\"https://json.schemastore.org/sarif-2.1.0.json\",\"version\":\"2.1.0\",\"runs\":[{\"tool\":{\"driver\":{\"name\":\"ftl\"}},\"columnKind\":\"unicodeCodePoints\",\"results\":["

abbrev pub sarif_tail : Text
sarif_tail = codes "\n]}]}\n"

-- a result a line, in one run
abbrev pub report_sarif : List FileFinding → Text
report_sarif fs = sarif_head ++ (listed sarif_result fs ++ sarif_tail)
