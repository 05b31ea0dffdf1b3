use Rattle.std.proofs.Common.{◌-◌, ℕ, List, length, sym, subst}
use Rattle.std.specs.Str.{IsUtf8, IsCharBoundary}
use Rattle.fluent_tokens.proofs.Counted.{place_of_tail}
use Rattle.fluent_parser.proofs.parser.Parser.take.Goals as goal

pub slice-part-requires-clause-start_boundary : goal.slice-part-requires-clause-start_boundary
slice-part-requires-clause-start_boundary g c =
    let p = c.args.self.now in
    let u : IsUtf8 p.rest.now = subst IsUtf8 c.bytes-rest.ensures.value c.bytes-rest.ensures.utf8 in
    let b = place_of_tail p.text.now p.rest.now p.is_tail u in
    let t : IsCharBoundary (g.T.Texts.text p.source.now) (length p.text.now - length p.rest.now) = subst (λ (x : List ℕ). IsCharBoundary x (length p.text.now - length p.rest.now)) (sym p.tied) b in
    subst (λ (x : List ℕ). IsCharBoundary (g.T.Texts.text p.source.now) (length p.text.now - length x)) (sym c.bytes-rest.ensures.value) t
