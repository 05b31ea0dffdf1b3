use Rattle.std.proofs.Common.{◌≡◌, Option, Some, option_map, unwrap_or, [], ap, sym, codes}
use Rattle.std.specs.Fmt.{digits}
use Rattle.fluent_number.specs.Digits.{last_digits}
use Rattle.fluent_number.specs.Number.{Number}
use Rattle.fluent_number.specs.Reading.{read_number}
use Rattle.fluent_number.specs.Text.{number_text}
use Rattle.example_callers.proofs.number.price.Goals as goal

-- the text of the number that 7.50 is
text_is : (number : Number) → read_number (codes "7.50") ≡ Some number → number_text number ≡ codes "7.50"
unfolding read_number number_text last_digits digits
text_is number is = ap (λ (read : Option Number). unwrap_or (option_map number_text read) []) (sym is)

pub returns : goal.returns
returns c = rw (← text_is _ c.in-Ok.ensures) c.as_string.ensures

pub unreachable-requires : goal.unreachable-requires
unfolding read_number
unreachable-requires c = let none = c.in-Err.ensures {u = tt} in cc none
