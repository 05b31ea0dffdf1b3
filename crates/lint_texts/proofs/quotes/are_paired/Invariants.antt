use Rattle.std.proofs.Common.{◌≡◌, drop}
use Rattle.std.specs.List.{list_all}
use Rattle.lint_findings.specs.Typing as t
use Rattle.lint_markup.specs.InCode.{texts_of}
use Rattle.lint_texts.proofs.quotes.are_paired.Given as goal

-- all so far are
abbrev pub invariant-loop-text : goal.invariant-loop-text
invariant-loop-text l = list_all t.is_paired (texts_of (drop l.text-index l.texts)) ≡ list_all t.is_paired (texts_of l.texts)
