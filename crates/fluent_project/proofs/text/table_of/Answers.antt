use Rattle.std.proofs.Common.{◌≡◌, arith}
use Rattle.std.specs.Prelude.{None}
use Rattle.toml.specs.Errors.{IsMemory, IsWithin, span_start}
use Rattle.toml.specs.Parse.{parse_document}
use Rattle.toml.specs.declared.de.error.Error.{Error}
use Rattle.fluent_project.specs.declared.text.TextError.{TextError}
use Rattle.fluent_project.specs.declared.text.TextError.TheVariants as text_error
use Rattle.fluent_project.specs.Patterns.{Text}
use Rattle.fluent_project.specs.TextViews.{IsNoToml, IsToldBy}
use Rattle.fluent_project.proofs.text.table_of.Goals as goal

told : (text : Text) (error : Error) (told : TextError) → IsToldBy text error told
    → (¬ (IsMemory error) → parse_document text ≡ None) → IsWithin text error → IsNoToml text told
told text error text_error.Memory is refused within = tt
told text error (text_error.NotToml line) is refused within =
    (refused is.0, span_start error, omega (arith, within.0, within.1), is.1)

pub returns-in-Err-clause-refused : goal.returns-in-Err-clause-refused
returns-in-Err-clause-refused c =
    told c.args.text.now c.in-Err.error c.text_error.result c.text_error.ensures c.in-Err.ensures.refused c.in-Err.ensures.span
