-- What the errors show.
use Rattle.std.specs.Prelude.{ℕ, List, codes}
use Rattle.fluent_tidy.specs.declared.error.CleanError.{CleanError}
use Rattle.fluent_tidy.specs.declared.error.CleanError.TheVariants as clean
use Rattle.fluent_tidy.specs.declared.error.NormalizeError.{NormalizeError}
use Rattle.fluent_tidy.specs.declared.error.NormalizeError.TheVariants as normalize
use Rattle.fluent_tidy.specs.declared.error.ImportError.{ImportError}
use Rattle.fluent_tidy.specs.declared.error.ImportError.TheVariants as import
use Rattle.fluent_tidy.specs.declared.tidy_error.TidyError.{TidyError}
use Rattle.fluent_tidy.specs.declared.tidy_error.TidyError.TheVariants as tidy

abbrev pub clean_message : CleanError → List ℕ
clean_message clean.Memory = codes "out of memory"
clean_message clean.CarriageReturn = codes "carriage return"

abbrev pub normalize_message : NormalizeError → List ℕ
normalize_message normalize.Memory = codes "out of memory"
normalize_message normalize.CarriageReturn = codes "carriage return"
normalize_message normalize.NotNormal = codes "not normal"

abbrev pub import_message : ImportError → List ℕ
import_message import.Memory = codes "out of memory"
import_message import.NotNormal = codes "not normal"
import_message import.Shape = codes "not a tree"

abbrev pub tidy_message : TidyError → List ℕ
tidy_message tidy.Memory = codes "out of memory"
tidy_message tidy.CarriageReturn = codes "a carriage return that ends no line"
tidy_message (tidy.Damaged errors) = codes "damaged"
tidy_message (tidy.NotTidy offset) = codes "no tidy text"
