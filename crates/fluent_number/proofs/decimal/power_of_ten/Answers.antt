use Rattle.std.proofs.Common.{refl, arith}
use Rattle.std.proofs.Math.Nat.{one-le-pow}
use Rattle.fluent_number.proofs.Powers.{power_at}
use Rattle.fluent_number.proofs.decimal.power_of_ten.Goals as goal

pub returns : goal.returns
returns c =
    let value = power_at _ 19 c.args.exponent refl (omega arith) in
    record { value = value; positive = omega (arith, value, one-le-pow c.args.exponent 10 (omega arith)) }
