use Rattle.std.proofs.Common.{◌-◌, ◌∙◌, arith, unsigned_abs}
use Rattle.fluent_number.specs.Options.{options_of}
use Rattle.fluent_numerals.specs.Rounding.{most_fraction_digits}
use Rattle.fluent_numerals.proofs.Steps.{whole_shown}
use Rattle.fluent_numerals.proofs.rounding.whole_parts.Goals as goal

pub returns-clause-parts : goal.returns-clause-parts
returns-clause-parts c =
    let o = options_of c.args.options.now in
    let most = most_fraction_digits c.args.least c.args.most o in
    let shown = whole_shown (18 - most) (unsigned_abs c.args.value) (omega arith) c.requires in
    (c.from.ensures ∙ c.whole.ensures ∙ shown.0, shown.1, c.fraction_counts.ensures.least)
