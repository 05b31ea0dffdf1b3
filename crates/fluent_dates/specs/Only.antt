-- What the only named argument of a call stands for.
use Rattle.std.specs.Prelude.{ℕ, List, [], ◌∷◌}
use Rattle.fluent_date.specs.declared.date_time.FluentDateTime.{FluentDateTime}
use Rattle.fluent_dates.specs.declared.merging.Only.{Only}
use Rattle.fluent_value.specs.Value.{Value}
use Rattle.fluent_value.specs.View.{value_view}

abbrev pub only_view : Only → List (List ℕ × Value FluentDateTime)
only_view only = (only.name.now, value_view (λ c. c.0) only.value.now) ∷ []
