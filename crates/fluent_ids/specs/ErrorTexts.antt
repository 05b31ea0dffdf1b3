-- What the errors of adding show.
use Rattle.std.specs.Prelude.{ℕ, List, codes}
use Rattle.fluent_ids.specs.declared.error.AddResourceError.{AddResourceError}
use Rattle.fluent_ids.specs.declared.error.AddResourceError.TheVariants as resource
use Rattle.fluent_ids.specs.declared.error.AddFunctionError.{AddFunctionError}
use Rattle.fluent_ids.specs.declared.error.AddFunctionError.TheVariants as function

abbrev pub add_resource_text : AddResourceError → List ℕ
add_resource_text (resource.Overriding notices) = codes "entries would override others"
add_resource_text resource.Memory = codes "out of memory"

abbrev pub add_function_text : AddFunctionError → List ℕ
add_function_text (function.Overriding notice) = codes "the function would override another entry"
add_function_text function.Memory = codes "out of memory"
