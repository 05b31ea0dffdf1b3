use Rattle.std.proofs.Common.{◌≡◌, drop}
use Rattle.lint_nodes.specs.HasNames.{texts}
use Rattle.lint_findings.specs.Comparison.{without}
use Rattle.lint_findings.specs.Typing.{first_of}
use Rattle.lint_markup.specs.InCode.{texts_in}
use Rattle.lint_texts.proofs.addresses.first_gone.Given as goal

-- none so far is gone
abbrev pub invariant-loop-host : goal.invariant-loop-host
invariant-loop-host l =
    first_of (without (texts (drop l.host-index l.known)) (texts_in l.hosts)) ≡ first_of (without (texts l.known) (texts_in l.hosts))
