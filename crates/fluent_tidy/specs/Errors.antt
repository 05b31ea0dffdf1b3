-- Which error a call makes of another's.
use Rattle.fluent_json.specs.declared.error.FromValueError.{FromValueError}
use Rattle.fluent_json.specs.declared.error.FromValueError.TheVariants as value
use Rattle.fluent_tidy.specs.declared.error.CleanError.{CleanError}
use Rattle.fluent_tidy.specs.declared.error.CleanError.TheVariants as clean
use Rattle.fluent_tidy.specs.declared.error.NormalizeError.{NormalizeError}
use Rattle.fluent_tidy.specs.declared.error.NormalizeError.TheVariants as normalize
use Rattle.fluent_tidy.specs.declared.error.ImportError.{ImportError}
use Rattle.fluent_tidy.specs.declared.error.ImportError.TheVariants as import

abbrev pub as_normalize : CleanError → NormalizeError
as_normalize clean.Memory = normalize.Memory
as_normalize clean.CarriageReturn = normalize.CarriageReturn

abbrev pub as_import : FromValueError → ImportError
as_import value.Memory = import.Memory
as_import value.Shape = import.Shape
