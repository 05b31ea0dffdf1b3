use Rattle.std.proofs.Common.{ℕ, leb, cond, bit_and, refl, arith}
use Rattle.std.proofs.lemmas.Simd.{zip2_splat, zip2_of_maps, splat_is_map}
use Rattle.fluent_tokens.specs.Bytes.{is_no_name_byte}
use Rattle.fluent_tokens.proofs.Masked.{masked}
use Rattle.fluent_tokens.proofs.lanes.no_name_bytes.Goals as goal

abbrev at_most : ℕ → ℕ → ℕ
at_most a b = cond (leb a b) 255 0

pub returns : goal.returns
returns c =
    let v = c.args.bytes in
    let long = c.fits-bytes.0 in
    let from_a = zip2_of_maps _ _ _ v (zip2_splat {Y = ℕ} _ v 16 32 long) (splat_is_map v 16 97 long) in
    let no_letter = zip2_of_maps at_most _ _ v (splat_is_map v 16 26 long) from_a in
    let no_digit = zip2_of_maps at_most _ _ v (splat_is_map v 16 10 long) (zip2_splat {Y = ℕ} _ v 16 48 long) in
    let no_sign = zip2_of_maps bit_and _ _ v (zip2_splat {Y = ℕ} _ v 16 45 long) (zip2_splat {Y = ℕ} _ v 16 95 long) in
    masked _ is_no_name_byte v _ (omega arith) c.fits-bytes.1 (zip2_of_maps bit_and _ _ v (zip2_of_maps bit_and _ _ v no_letter no_digit) no_sign) refl
