use Rattle.std.proofs.Common.{arith, ◌∙◌, ap₂, Some}
use Rattle.std.proofs.lemmas.Bool.{eqb-true}
use Rattle.std.proofs.lemmas.Str.{IsCharBoundary-after_ascii}
use Rattle.fluent_serve.proofs.Cuts.{cut_none, cut_some, range-front}
use Rattle.fluent_serve.proofs.cut.cut.Goals as goal

pub range_from-requires : goal.range_from-requires
range_from-requires c =
    let found = rw c.as_bytes.ensures.value at c.in-Some.ensures in
    λ _. IsCharBoundary-after_ascii c.args.text.now c.in-Some.place c.utf8.text found.0.high (omega (arith, eqb-true _ _ found.1, c.requires))

pub returns-in-Some : goal.returns-in-Some
returns-in-Some c =
    let found = rw c.as_bytes.ensures.value at c.in-Some.ensures in
    ap₂ (λ a b. (a, Some b)) (c.range.ensures.value ∙ range-front c.in-Some.place c.args.text.now) c.range_from.ensures.value
    ∙ cut_some c.args.separator c.args.text.now c.in-Some.place found

pub returns-in-None : goal.returns-in-None
returns-in-None c =
    let found = rw c.as_bytes.ensures.value at c.in-None.ensures in
    cut_none c.args.separator c.args.text.now found
