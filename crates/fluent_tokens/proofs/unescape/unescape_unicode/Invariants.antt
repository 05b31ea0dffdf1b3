use Rattle.std.proofs.Common.{length}
use denote.Text.{Utf8}
use denote.Shadow.{shadow}
use Rattle.fluent_grammar.specs.Escapes.{unescaped}
use Rattle.fluent_tokens.proofs.Unescaped.{Took}
use Rattle.fluent_tokens.proofs.unescape.unescape_unicode.Given as goal

abbrev pub invariant-loop-place : goal.invariant-loop-place
invariant-loop-place g l =
    let text = g.W.TextWrite.text in
    shadow (Utf8 l.rest) × Took (text l.initial.w) (text l.w) (unescaped l.initial.rest) (unescaped l.rest)

abbrev pub decreases-loop-place : goal.decreases-loop-place
decreases-loop-place g l = length l.rest
