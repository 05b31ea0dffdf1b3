use Rattle.std.proofs.Common.{◌≡◌, ◌∙◌, ◌-◌, ◌<◌, length, ap, subst, rules}
use Rattle.std.specs.Prelude.{unwrap_or}
use Rattle.fluent_grammar.specs.Words.{skip_blank}
use Rattle.memchr.specs.Find.{FindsNeedle}
use Rattle.lint_comparison.proofs.FoundPieces.{place_is}
use Rattle.lint_comparison.proofs.texts.place_of.Goals as goal

pub returns-else-is_empty : goal.returns-else-is_empty
returns-else-is_empty c =
    let s = c.args.written.now in
    let begins : c.saturating_sub-begins.result ≡ length s - length (skip_blank s) = search rules in
    let finds : FindsNeedle s c.args.piece.now 0 c.find.result = subst (λ p. FindsNeedle s p 0 c.find.result) c.as_bytes.ensures.value c.find.ensures in
    let some : 0 < length c.args.piece.now = search rules in
    c.unwrap_or.ensures ∙ ap (unwrap_or c.find.result) begins ∙ place_is c.args.piece.now s c.find.result some finds
