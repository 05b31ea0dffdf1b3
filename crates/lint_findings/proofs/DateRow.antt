-- The row of `DATETIME` has the texts that `merge` reads: each text of an option is read as a value of its own.
use Rattle.std.specs.Prelude.{◌≡◌, true, false, [], ◌∷◌, map, Some, codes}
use Rattle.std.proofs.Common.{refl}
use Rattle.fluent_date.specs.Merge.{cycle_named, month_width_named, number_width_named, style_named, text_width_named, truth_named, zone_named}
use Rattle.fluent_date.specs.declared.options.DateStyle.TheVariants.{Full, Long, Medium, Short}
use Rattle.fluent_date.specs.declared.options.HourCycle.TheVariants.{H11, H12, H23, H24}
use Rattle.fluent_date.specs.declared.options.MonthWidth.TheVariants as month
use Rattle.fluent_date.specs.declared.options.NumberWidth.TheVariants as number_width
use Rattle.fluent_date.specs.declared.options.TextWidth.TheVariants as text_width
use Rattle.fluent_date.specs.declared.options.ZoneName.TheVariants as zone
use Rattle.lint_findings.specs.Builtins.{date_styles, digit_widths, name_widths}

-- what the texts of each option are read as
styles : map style_named date_styles ≡ map Some (Full ∷ Long ∷ Medium ∷ Short ∷ [])
styles = refl

truths : map truth_named (codes "true" ∷ codes "false" ∷ []) ≡ map Some (true ∷ false ∷ [])
truths = refl

cycles : map cycle_named (codes "h11" ∷ codes "h12" ∷ codes "h23" ∷ codes "h24" ∷ []) ≡ map Some (H11 ∷ H12 ∷ H23 ∷ H24 ∷ [])
cycles = refl

widths : map text_width_named name_widths ≡ map Some (text_width.Narrow ∷ text_width.Short ∷ text_width.Long ∷ [])
widths = refl

digits : map number_width_named digit_widths ≡ map Some (number_width.Numeric ∷ number_width.TwoDigit ∷ [])
digits = refl

months : map month_width_named (codes "numeric" ∷ codes "2-digit" ∷ name_widths)
    ≡ map Some (month.Number number_width.Numeric ∷ month.Number number_width.TwoDigit ∷ month.Text text_width.Narrow ∷ month.Text text_width.Short ∷ month.Text text_width.Long ∷ [])
months = refl

zones : map zone_named (codes "short" ∷ codes "long" ∷ codes "shortOffset" ∷ codes "longOffset" ∷ codes "shortGeneric" ∷ codes "longGeneric" ∷ [])
    ≡ map Some (zone.Short ∷ zone.Long ∷ zone.ShortOffset ∷ zone.LongOffset ∷ zone.ShortGeneric ∷ zone.LongGeneric ∷ [])
zones = refl
