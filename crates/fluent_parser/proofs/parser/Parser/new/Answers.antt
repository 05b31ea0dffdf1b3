use Rattle.std.proofs.Common.{◌≡◌, ◌-◌, ◌∙◌, ℕ, length, drop, sym, ap, arith}
use Rattle.fluent_parser.proofs.parser.Parser.new.Goals as goal

pub invariant_of-result : goal.invariant_of-result
invariant_of-result g c =
    let text = c.as_str-text.result.now in
    let none : 0 ≡ length text - length text = omega arith in
    record {
      tied = sym c.as_str-text.ensures;
      is_tail = ap (λ (n : ℕ). drop n text) none;
      lined = c.new.ensures ∙ c.as_bytes.ensures.value;
    }
