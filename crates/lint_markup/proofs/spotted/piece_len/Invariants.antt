use Rattle.std.proofs.Common.{◌≡◌, ◌++◌, take, drop}
use Rattle.lint_findings.specs.Runs.{piece}
use Rattle.lint_markup.proofs.spotted.piece_len.Given as goal

-- the bytes so far are in it
abbrev pub invariant-loop-place : goal.invariant-loop-place
invariant-loop-place l = take l.place l.text ++ piece (drop l.place l.text) ≡ piece l.text
