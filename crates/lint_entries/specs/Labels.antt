-- The texts of labels.
use Rattle.std.specs.Prelude.{◌++◌, option_map}
use Rattle.fluent_grammar.specs.Words.{Text}
use Rattle.fluent_meaning.specs.Fallback.{with_attribute}
use Rattle.lint_entries.specs.declared.label.Label.{Label}

abbrev pub label_text : Label → Text
label_text label = with_attribute (label.sign.now ++ label.id.now) (option_map (λ s. s.now) label.attribute)
