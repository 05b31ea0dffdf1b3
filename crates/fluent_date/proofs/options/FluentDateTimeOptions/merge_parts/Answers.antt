use Rattle.std.proofs.Common.{refl}
use Rattle.fluent_date.proofs.options.FluentDateTimeOptions.merge_parts.Goals as goal

pub returns : goal.returns
returns g c =
    rw c.digits-self.ensures (rw c.zone_name-self.ensures (rw c.number-places.ensures (rw c.text.ensures refl)))
