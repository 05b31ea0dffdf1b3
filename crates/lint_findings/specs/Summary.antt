-- The counts at the end of a report with a reference.
use Rattle.std.specs.Prelude.{ℕ, ◌==◌, Bool, true, false, ◌&&◌, if◌then◌else◌, List, [], ◌++◌, map, Option, Some, None, codes, decimal}
use Rattle.std.specs.List.{flat_map, count_by, sum_by}
use Rattle.std.specs.Option.{option_map_or}
use Rattle.std.specs.Str.{bytes_eq}
use Rattle.serde_json.specs.Data.{Data, null, string, number, unsigned, object, no_members, member}
use Rattle.fluent_grammar.specs.Words.{Text}
use Rattle.fluent_grammar.specs.Tree as t
use Rattle.lint_findings.specs.Tiles.{Tile, entry_tile, tiles}
use Rattle.lint_findings.specs.Files.{File}
use Rattle.lint_findings.specs.Findings.{FileFinding}
use Rattle.lint_findings.specs.ShownLine.{masked_text}
use Rattle.lint_findings.specs.JsonReport.{json_line}

-- The counts of a file. A file of the catalog has obsolete and untranslated messages, and one of the reference
-- missing ones.
pub record Summary : Type 0 where
  pub file : Text
  pub messages : ℕ
  pub missing : Option ℕ
  pub obsolete : Option ℕ
  pub untranslated : Option ℕ

-- ---- counting

abbrev pub is_message : Tile → Bool
is_message (entry_tile at s (t.message m)) = true
is_message _ = false

abbrev pub message_count : File → ℕ
message_count file = count_by is_message (tiles file.source)

-- a message or a term
abbrev pub has_id : Tile → Bool
has_id (entry_tile at s (t.message m)) = true
has_id (entry_tile at s (t.term m)) = true
has_id _ = false

-- how many messages and terms these files have
abbrev pub entry_count : List File → ℕ
entry_count files = sum_by (λ (file : File). count_by has_id (tiles file.source)) files

-- how many findings in files of this name have this code
abbrev pub finding_count : Text → Text → List FileFinding → ℕ
finding_count name code fs = count_by (λ (f : FileFinding). bytes_eq f.file.name name && bytes_eq f.finding.code code) fs

abbrev pub catalog_summary : List FileFinding → File → Summary
catalog_summary fs file = record {
  file = file.name;
  messages = message_count file;
  missing = None;
  obsolete = Some (finding_count file.name (codes "obsolete-message") fs);
  untranslated = Some (finding_count file.name (codes "untranslated") fs);
}

abbrev pub reference_summary : List FileFinding → File → Summary
reference_summary fs file = record {
  file = file.name;
  messages = message_count file;
  missing = Some (finding_count file.name (codes "missing-message") fs);
  obsolete = None;
  untranslated = None;
}

-- of all files, from all findings of a catalog with its reference
abbrev pub summaries : List File → List File → List FileFinding → List Summary
summaries references files fs = map (catalog_summary fs) files ++ map (reference_summary fs) references

-- ---- as text

abbrev pub count_text : Text → ℕ → Text
count_text what n = codes ", " ++ (decimal n ++ (codes " " ++ what))

abbrev pub messages_text : ℕ → Text
messages_text n = decimal n ++ (if n == 1 then codes " message" else codes " messages")

-- such as `de.ftl: 120 messages, 2 obsolete, 5 untranslated` and `en.ftl: 121 messages, 3 missing`
abbrev pub summary_line : Summary → Text
summary_line s =
    masked_text s.file ++ (codes ": " ++ (messages_text s.messages
    ++ (option_map_or (count_text (codes "missing")) s.missing []
    ++ (option_map_or (count_text (codes "obsolete")) s.obsolete []
    ++ (option_map_or (count_text (codes "untranslated")) s.untranslated [] ++ codes "\n")))))

abbrev pub summary_text : List Summary → Text
summary_text ss = flat_map summary_line ss

-- ---- as JSON

abbrev pub number_or_null : Option ℕ → Data
number_or_null None = null
number_or_null (Some n) = number (unsigned n)

-- The keys are in the order of their bytes.
abbrev pub summary_data : Summary → Data
summary_data s =
    object (member (codes "file") (string s.file)
    (member (codes "messages") (number (unsigned s.messages))
    (member (codes "missing") (number_or_null s.missing)
    (member (codes "obsolete") (number_or_null s.obsolete)
    (member (codes "untranslated") (number_or_null s.untranslated) no_members)))))

abbrev pub summary_json : List Summary → Text
summary_json ss = flat_map (λ s. json_line (summary_data s)) ss
