-- Worked rows: the lines of sources.
use Rattle.std.specs.Prelude.{◌≡◌, ⊤, codes}
use Rattle.std.proofs.Common.{refl}
use Rattle.fluent_grammar.specs.Words.{Text}
use Rattle.json.specs.Print.{escape_byte, print_from}
use Rattle.lint_findings.proofs.Computing.{computing_findings}
use Rattle.fluent_symbols.specs.Sources.{occurrence_lines}

unfoldable computing_lines : ⊤
unfolding computing_findings escape_byte print_from
computing_lines = tt

-- the lines of a source are these
unfoldable AreLinesOf : Text → Text → Type 0
AreLinesOf source lines = occurrence_lines source ≡ lines

references : AreLinesOf (codes "a = { b.c }{ $d }\n")
    (codes "{\"definition\":true,\"end\":1,\"kind\":\"message\",\"name\":\"a\",\"owner\":null,\"start\":0}\n{\"definition\":false,\"end\":7,\"kind\":\"message\",\"name\":\"b\",\"owner\":null,\"start\":6}\n{\"definition\":false,\"end\":9,\"kind\":\"attribute\",\"name\":\"c\",\"owner\":\"b\",\"start\":8}\n{\"definition\":false,\"end\":15,\"kind\":\"variable\",\"name\":\"d\",\"owner\":\"a\",\"start\":14}\n")
unfolding computing_lines AreLinesOf
references = refl

a_term_and_its_attribute : AreLinesOf (codes "-a = x\n  .b = y\n")
    (codes "{\"definition\":true,\"end\":2,\"kind\":\"term\",\"name\":\"a\",\"owner\":null,\"start\":1}\n{\"definition\":true,\"end\":11,\"kind\":\"attribute\",\"name\":\"b\",\"owner\":\"-a\",\"start\":10}\n")
unfolding computing_lines AreLinesOf
a_term_and_its_attribute = refl

arguments_of_a_term : AreLinesOf (codes "a = { -b($c, d: 1) }\n")
    (codes "{\"definition\":true,\"end\":1,\"kind\":\"message\",\"name\":\"a\",\"owner\":null,\"start\":0}\n{\"definition\":false,\"end\":8,\"kind\":\"term\",\"name\":\"b\",\"owner\":null,\"start\":7}\n{\"definition\":false,\"end\":11,\"kind\":\"variable\",\"name\":\"c\",\"owner\":\"a\",\"start\":10}\n{\"definition\":false,\"end\":14,\"kind\":\"variable\",\"name\":\"d\",\"owner\":\"-b\",\"start\":13}\n")
unfolding computing_lines AreLinesOf
arguments_of_a_term = refl

arguments_of_a_function : AreLinesOf (codes "-a = { F(-b, $c, d: 1) }\n")
    (codes "{\"definition\":true,\"end\":2,\"kind\":\"term\",\"name\":\"a\",\"owner\":null,\"start\":1}\n{\"definition\":false,\"end\":8,\"kind\":\"function\",\"name\":\"F\",\"owner\":null,\"start\":7}\n{\"definition\":false,\"end\":11,\"kind\":\"term\",\"name\":\"b\",\"owner\":null,\"start\":10}\n{\"definition\":false,\"end\":15,\"kind\":\"variable\",\"name\":\"c\",\"owner\":\"-a\",\"start\":14}\n")
unfolding computing_lines AreLinesOf
arguments_of_a_function = refl

a_select : AreLinesOf (codes "a = { -b.c ->\n *[d] { e }\n}{ f }\n")
    (codes "{\"definition\":true,\"end\":1,\"kind\":\"message\",\"name\":\"a\",\"owner\":null,\"start\":0}\n{\"definition\":false,\"end\":8,\"kind\":\"term\",\"name\":\"b\",\"owner\":null,\"start\":7}\n{\"definition\":false,\"end\":10,\"kind\":\"attribute\",\"name\":\"c\",\"owner\":\"-b\",\"start\":9}\n{\"definition\":false,\"end\":23,\"kind\":\"message\",\"name\":\"e\",\"owner\":null,\"start\":22}\n{\"definition\":false,\"end\":30,\"kind\":\"message\",\"name\":\"f\",\"owner\":null,\"start\":29}\n")
unfolding computing_lines AreLinesOf
a_select = refl

attributes_alone : AreLinesOf (codes "a =\n .b = { $c }\n\n .d = e\n")
    (codes "{\"definition\":true,\"end\":1,\"kind\":\"message\",\"name\":\"a\",\"owner\":null,\"start\":0}\n{\"definition\":true,\"end\":7,\"kind\":\"attribute\",\"name\":\"b\",\"owner\":\"a\",\"start\":6}\n{\"definition\":false,\"end\":14,\"kind\":\"variable\",\"name\":\"c\",\"owner\":\"a\",\"start\":13}\n{\"definition\":true,\"end\":21,\"kind\":\"attribute\",\"name\":\"d\",\"owner\":\"a\",\"start\":20}\n")
unfolding computing_lines AreLinesOf
attributes_alone = refl

entries_around_junk : AreLinesOf (codes "a = b\nc\n# { d }\ne = {{ \"$f\" }}\n")
    (codes "{\"definition\":true,\"end\":1,\"kind\":\"message\",\"name\":\"a\",\"owner\":null,\"start\":0}\n{\"definition\":true,\"end\":17,\"kind\":\"message\",\"name\":\"e\",\"owner\":null,\"start\":16}\n")
unfolding computing_lines AreLinesOf
entries_around_junk = refl
