use Rattle.std.proofs.Common.{option_map, string_bytes}
use Rattle.fluent_number.proofs.options.FluentNumberOptions.merge_counts.Goals as goal

pub returns : goal.returns
returns g c =
    let before = c.args.self.now in
    λ i. record {
      number_type = before.number_type;
      style = before.style;
      currency = option_map string_bytes before.currency;
      currency_display = before.currency_display;
      use_grouping = before.use_grouping;
      minimum_integer_digits = c.merge_count.ensures i;
      minimum_fraction_digits = c.merge_count-2.ensures i;
      maximum_fraction_digits = c.merge_count-3.ensures i;
      minimum_significant_digits = c.merge_count-4.ensures i;
      maximum_significant_digits = c.merge_count-5.ensures i;
    }
