use Rattle.std.proofs.Common.{ℕ, List, subst}
use Rattle.fluent_tokens.specs.Counted.{Cuts}
use Rattle.fluent_parser.proofs.arguments.identifier.Goals as goal

pub range-requires-clause-end_boundary : goal.range-requires-clause-end_boundary
range-requires-clause-end_boundary c =
    let cuts : Cuts c.args.text.now c.identifier_len.result = subst (λ (s : List ℕ). Cuts s c.identifier_len.result) c.as_bytes.ensures.value c.identifier_len.ensures.cuts in
    cuts.boundary c.utf8.text
