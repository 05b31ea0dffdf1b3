-- Worked rows: the other formats, and summaries.
use Rattle.std.specs.Prelude.{◌≡◌, [], ◌∷◌, ◌++◌, List, true, false, codes}
use Rattle.std.proofs.Common.{refl}
use Rattle.percent_encoding.specs.Percent.{percent_encode_byte}
use Rattle.serde_json.proofs.OnLiterals.{serde_json_on_literals}
use Rattle.std.specs.List.{flat_map}
use Rattle.fluent_grammar.specs.Words.{Text}
use Rattle.lint_findings.specs.SarifReport.{uri_byte}
use Rattle.lint_findings.specs.Files.{File}
use Rattle.lint_findings.specs.Findings.{FileFinding, findings, findings_with_reference}
use Rattle.lint_findings.specs.Report.{shown, has_failed}
use Rattle.lint_findings.specs.Summary.{Summary, summaries, summary_text, summary_json}
use Rattle.lint_findings.specs.Output.{Format, terminal, lines, json, github, sarif, gitlab, output}
use Rattle.lint_findings.proofs.Computing.{computing_findings, file, one, options_with}

-- What is written of files in a format.
Writes : Format → List File → Text → Type 0
Writes format files written = output format one (findings (options_with []) files) [] ≡ written

in_lines : Writes lines (file (codes "a.ftl") (codes "a = { -b }\nc\n") ∷ [])
    (codes "a.ftl:1:7: error: a: there is no term `-b` [unknown-term]\na.ftl:2:2: error: c: expected `=` after `c`, found the end of the line [syntax]\n")
unfolding computing_findings file Writes
in_lines = refl

in_colours : Writes terminal (file (codes "a.ftl") (codes "a = { -b }\n") ∷ [])
    (27 ∷ codes "[1ma.ftl:1:7" ++ (27 ∷ codes "[0m: " ++ (27 ∷ codes "[1;31merror" ++ (27 ∷ codes "[0m: a: there is no term `-b` [unknown-term]\n1 | a = { -b }\n  |       "
    ++ (27 ∷ codes "[1;31m^" ++ (27 ∷ codes "[0m\n"))))))
unfolding computing_findings file Writes
in_colours = refl

in_json : Writes json (file (codes "a.ftl") (codes "key1=Value 1\ng@Rb@ge\nkey2 = x\n") ∷ [])
    (codes "{\"code\":\"syntax\",\"column\":2,\"entry\":\"g\",\"file\":\"a.ftl\",\"hint\":\"a line that continues a text begins with at least one space\",\"line\":2,\"offset\":14,\"severity\":\"error\",\"text\":\"expected `=` after `g`, found `@`\"}\n")
unfolding computing_findings serde_json_on_literals file Writes
in_json = refl

in_commands : Writes github (file (codes "a.ftl") (codes "a = { b } { -c } { d.e } { D() }\n    .t = { -t.u ->\n       *[x] y\n    }\n-t = T\n") ∷ [])
    (codes "::error file=a.ftl,line=1,col=7,title=unknown-message::a: there is no message `b`\n::error file=a.ftl,line=1,col=13,title=unknown-term::a: there is no term `-c`\n::error file=a.ftl,line=1,col=20,title=unknown-attribute::a: there is no attribute `d.e`\n::warning file=a.ftl,line=1,col=28,title=unknown-function::a: there is no function `D`\n::error file=a.ftl,line=2,col=12,title=unknown-attribute::a.t: there is no attribute `-t.u`\n")
unfolding computing_findings file Writes
in_commands = refl

-- The findings of files with a reference.
with_a_reference : List File → List File → List FileFinding
with_a_reference references files = findings_with_reference (options_with []) references files

-- What is written of them in a format, but for notes.
WritesWithReference : List File → List File → Format → Text → Type 0
WritesWithReference references files format written = output format one (shown false (with_a_reference references files)) [] ≡ written

-- Their summaries.
Summarizes : List File → List File → (List Summary → Text) → Text → Type 0
Summarizes references files form written = form (summaries references files (with_a_reference references files)) ≡ written

a_uri : flat_map uri_byte (codes "l 1/" ++ (195 ∷ 188 ∷ codes ".ftl")) ≡ codes "l%201/%C3%BC.ftl"
unfolding percent_encode_byte
a_uri = refl

in_sarif : Writes sarif (file (codes "l 1/" ++ (195 ∷ 188 ∷ codes ".ftl")) (codes "a = { -b }\n    { F() }\n") ∷ [])
    (codes "{\"$schema\":\"https://json.schemastore.org/sarif-2.1.0.json\",\"version\":\"2.1.0\",\"runs\":[{\"tool\":{\"driver\":{\"name\":\"ftl\"}},\"columnKind\":\"unicodeCodePoints\",\"results\":[\n{\"level\":\"error\",\"locations\":[{\"physicalLocation\":{\"artifactLocation\":{\"uri\":\"l%201/%C3%BC.ftl\"},\"region\":{\"startColumn\":7,\"startLine\":1}}}],\"message\":{\"text\":\"a: there is no term `-b`\"},\"ruleId\":\"unknown-term\"},\n{\"level\":\"warning\",\"locations\":[{\"physicalLocation\":{\"artifactLocation\":{\"uri\":\"l%201/%C3%BC.ftl\"},\"region\":{\"startColumn\":7,\"startLine\":2}}}],\"message\":{\"text\":\"a: there is no function `F`\"},\"ruleId\":\"unknown-function\"}\n]}]}\n")
unfolding computing_findings serde_json_on_literals percent_encode_byte file Writes
in_sarif = refl

no_finding_in_sarif : Writes sarif (file (codes "a.ftl") (codes "a = b\n") ∷ [])
    (codes "{\"$schema\":\"https://json.schemastore.org/sarif-2.1.0.json\",\"version\":\"2.1.0\",\"runs\":[{\"tool\":{\"driver\":{\"name\":\"ftl\"}},\"columnKind\":\"unicodeCodePoints\",\"results\":[\n]}]}\n")
unfolding computing_findings serde_json_on_literals file Writes
no_finding_in_sarif = refl

for_gitlab : Writes gitlab (file (codes "a.ftl") (codes "key1=Value 1\ng@Rb@ge\nkey2 = { F() }\n") ∷ [])
    (codes "[\n{\"check_name\":\"syntax\",\"description\":\"g: expected `=` after `g`, found `@` (a line that continues a text begins with at least one space)\",\"fingerprint\":\"syntax:a.ftl:g:expected `=` after `g`, found `@`\",\"location\":{\"lines\":{\"begin\":2},\"path\":\"a.ftl\"},\"severity\":\"major\"},\n{\"check_name\":\"unknown-function\",\"description\":\"key2: there is no function `F`\",\"fingerprint\":\"unknown-function:a.ftl:key2:there is no function `F`\",\"location\":{\"lines\":{\"begin\":3},\"path\":\"a.ftl\"},\"severity\":\"minor\"}\n]\n")
unfolding computing_findings serde_json_on_literals file Writes
for_gitlab = refl

in_json_with_a_reference : WritesWithReference (file (codes "en.ftl") (codes "hi = Hello, { $name }!\nbye = Bye, { $name }!\n") ∷ []) (file (codes "de.ftl") (codes "hi = Hallo, { $nmae }!\nbye = { hi }\n") ∷ []) json
    (codes "{\"code\":\"unknown-variable\",\"column\":15,\"entry\":\"hi\",\"file\":\"de.ftl\",\"hint\":\"did you mean `$name`?\",\"line\":1,\"offset\":14,\"severity\":\"error\",\"text\":\"the reference has no variable `$nmae`\"}\n{\"code\":\"unknown-variable\",\"column\":1,\"entry\":\"bye\",\"file\":\"de.ftl\",\"hint\":\"did you mean `$name`?\",\"line\":2,\"offset\":23,\"severity\":\"error\",\"text\":\"the reference has no variable `$nmae`\"}\n")
unfolding computing_findings serde_json_on_literals file with_a_reference WritesWithReference
in_json_with_a_reference = refl

escapes_in_commands : Writes github (file (codes "a,b:c%.ftl") (codes "%\n") ∷ [])
    (codes "::error file=a%2Cb%3Ac%25.ftl,line=1,col=1,title=syntax::expected a message, a term or a comment, found `%25`\n")
unfolding computing_findings file Writes
escapes_in_commands = refl

missing_messages : Summarizes (file (codes "en.ftl") (codes "a = b\nb = c\n") ∷ []) (file (codes "de.ftl") (codes "a = x\n") ∷ []) summary_text
    (codes "de.ftl: 1 message, 0 obsolete, 0 untranslated\nen.ftl: 2 messages, 1 missing\n")
unfolding computing_findings file with_a_reference Summarizes
missing_messages = refl

a_masked_name : Summarizes [] (file (27 ∷ codes "c") (codes "a = b\n") ∷ []) summary_text
    (0xEF ∷ 0xBF ∷ 0xBD ∷ codes "c: 1 message, 1 obsolete, 0 untranslated\n")
unfolding computing_findings file with_a_reference Summarizes
a_masked_name = refl

obsolete_and_untranslated_messages : Summarizes (file (codes "en.ftl") (codes "a = b\n# c\n") ∷ []) (file (codes "de.ftl") (codes "a = b\nd = x\n-t = y\nj\n") ∷ []) summary_json
    (codes "{\"file\":\"de.ftl\",\"messages\":2,\"missing\":null,\"obsolete\":1,\"untranslated\":1}\n{\"file\":\"en.ftl\",\"messages\":1,\"missing\":0,\"obsolete\":null,\"untranslated\":null}\n")
unfolding computing_findings serde_json_on_literals file with_a_reference Summarizes
obsolete_and_untranslated_messages = refl

-- a warning
twice : List FileFinding
twice = findings (options_with []) (file (codes "a.ftl") (codes "a = b\n    .t = 1\n    .t = 2\n") ∷ [])

warnings_do_not_fail : has_failed false twice ≡ false
unfolding computing_findings file twice
warnings_do_not_fail = refl

strictly_they_do : has_failed true twice ≡ true
unfolding computing_findings file twice
strictly_they_do = refl

errors_fail : has_failed false (findings (options_with []) (file (codes "a.ftl") (codes "a\n") ∷ [])) ≡ true
unfolding computing_findings file
errors_fail = refl
