-- The objects that are read, by the values of their parts, and what a refusal says.
use Rattle.std.specs.Prelude.{◌≡◌, List, Result, IfErr}
use Rattle.serde_json.specs.Data.{Data}
use Rattle.serde_json.specs.View.{view, items_view}
use Rattle.serde_json.specs.declared.value.Value.{Value}
use Rattle.fluent_json_write.specs.Objects.{message, term, term_reference}
use Rattle.fluent_json.specs.declared.error.FromValueError.{FromValueError}
use Rattle.fluent_json.specs.declared.error.FromValueError.TheVariants.{Shape}

-- the fact holds if the value was refused for its shape
abbrev pub IfShape : {T : Type 0} → Result T FromValueError → Type 0 → Type 0
IfShape result Fact = IfErr result (λ e. e ≡ Shape → Fact)

-- a message of these values
abbrev pub message_of : Value → Value → List Value → Value → Data
message_of id pattern attributes comment = message (view id) (view pattern) (items_view attributes) (view comment)

-- a term of these values
abbrev pub term_of : Value → Value → List Value → Value → Data
term_of id pattern attributes comment = term (view id) (view pattern) (items_view attributes) (view comment)

-- a term reference of these values
abbrev pub term_reference_of : Value → Value → Value → Data
term_reference_of id attribute arguments = term_reference (view id) (view attribute) (view arguments)
