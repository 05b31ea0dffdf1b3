use Rattle.std.proofs.Common.{ℕ, bit_or, refl, arith}
use Rattle.std.proofs.lemmas.Simd.{zip2_splat, zip2_of_maps}
use Rattle.fluent_tokens.specs.Bytes.{is_brace}
use Rattle.fluent_tokens.proofs.Masked.{masked}
use Rattle.fluent_tokens.proofs.lanes.braces.Goals as goal

pub returns : goal.returns
returns c =
    let v = c.args.bytes in
    let long = c.fits-bytes.0 in
    masked _ is_brace v _ (omega arith) c.fits-bytes.1 (zip2_of_maps bit_or _ _ v (zip2_splat {Y = ℕ} _ v 64 123 long) (zip2_splat {Y = ℕ} _ v 64 125 long)) refl
