use Rattle.std.proofs.Common.{◌≡◌, ◌++◌, drop}
use Rattle.lint_findings.specs.Tags as t
use Rattle.lint_markup.specs.InCode.{tags_of, texts_of}
use Rattle.lint_markup.proofs.tags.tags.Given as goal

-- those of the texts so far were added
abbrev pub invariant-loop-text : goal.invariant-loop-text
invariant-loop-text l = tags_of l.tags.items ++ t.tags (texts_of (drop l.text-index l.texts)) ≡ t.tags (texts_of l.texts)
