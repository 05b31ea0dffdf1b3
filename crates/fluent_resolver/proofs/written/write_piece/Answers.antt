use Rattle.fluent_resolver.proofs.Depth.{never-past}
use Rattle.fluent_resolver.proofs.Pieces.{piece-refused, stops}
use Rattle.fluent_resolver.proofs.written.write_piece.Goals as goal

pub returns-in_err-write_str : goal.returns-in_err-write_str
returns-in_err-write_str g c =
    let was = c.in_ok-write_placeable.ensures in
    stops c.from_residual-in_err-write_str.ensures.0 (piece-refused _ was.wrote c.in_err-write_str.ensures.refused) (never-past was.stack)
