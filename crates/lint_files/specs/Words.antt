-- What the names and sentences of the code say.
use Rattle.std.specs.Prelude.{◌++◌, ◌∷◌, codes}
use Rattle.fluent_grammar.specs.Words.{Text, backslash}
use Rattle.lint_findings.specs.SyntaxErrors.{expected_at, in_backticks}
use Rattle.lint_files.specs.declared.names.Name.{Name}
use Rattle.lint_files.specs.declared.words.Sentence.{Sentence}
use Rattle.lint_files.specs.declared.words.Sentence.TheVariants as sentence

abbrev pub name_text : Name → Text
name_text name = name.sign.now ++ name.id.now

abbrev pub sentence_text : Sentence → Text
sentence_text (sentence.Statement words) = words.now
sentence_text (sentence.Expected words at) = expected_at at.now words.now
sentence_text (sentence.ExpectedEquals name at) = expected_at at.now (codes "`=` after " ++ in_backticks (name_text name))
sentence_text (sentence.UnknownEscape character) = codes "unknown escape " ++ in_backticks (backslash ∷ character.now)
sentence_text (sentence.TwoArguments name) = codes "there are two arguments " ++ in_backticks name.now
