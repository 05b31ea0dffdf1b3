-- The plain placeables that those of string literals stand for.
use Rattle.std.specs.Prelude.{◌++◌}
use Rattle.fluent_grammar.specs.Words.{Text}
use Rattle.lint_findings.specs.Quoted as q
use Rattle.lint_flaws.specs.declared.quoted.Quoted.{Quoted}
use Rattle.lint_flaws.specs.declared.quoted.Reference.{Reference}

abbrev pub reference_text : Reference → Text
reference_text found = found.sign.now ++ found.name.now

abbrev pub quoted_view : Quoted → q.Quoted
quoted_view found = record { inside = found.inside; reference = reference_text found.reference }
