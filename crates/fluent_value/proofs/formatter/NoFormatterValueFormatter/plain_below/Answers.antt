use Rattle.fluent_value.proofs.Digits.{integer-text}
use Rattle.fluent_value.proofs.formatter.NoFormatterValueFormatter.plain_below.Goals as goal

pub returns : goal.returns
returns g c plurals n small shown = integer-text n
