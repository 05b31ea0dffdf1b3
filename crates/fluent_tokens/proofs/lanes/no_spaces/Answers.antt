use Rattle.std.proofs.Common.{ℕ, refl, arith}
use Rattle.std.proofs.lemmas.Simd.{zip2_splat}
use Rattle.fluent_tokens.specs.Bytes.{is_no_space}
use Rattle.fluent_tokens.proofs.Masked.{masked}
use Rattle.fluent_tokens.proofs.lanes.no_spaces.Goals as goal

pub returns : goal.returns
returns c =
    let v = c.args.bytes in
    let long = c.fits-bytes.0 in
    masked _ is_no_space v _ (omega arith) c.fits-bytes.1 (zip2_splat {Y = ℕ} _ v 16 32 long) refl
