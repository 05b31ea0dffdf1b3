use Rattle.std.proofs.Common.{◌≡◌, ◌∙◌, Option, None, codes, Result, Err, ap, sym, subst}
use Rattle.fluent_project.specs.declared.faults.Fault as code
use Rattle.fluent_project.specs.declared.faults.FaultKind.TheVariants.{NoText}
use Rattle.fluent_project.specs.declared.faults.FileError.{FileError}
use Rattle.fluent_project.specs.declared.faults.FileError.TheVariants as error
use Rattle.fluent_project.specs.Files.{Fault, fault, variable}
use Rattle.fluent_project.specs.FileViews.{IsRefusedBy, fault_view}
use Rattle.fluent_project.specs.Patterns.{Text}
use Rattle.fluent_project.specs.Places.{Place, inside}
use Rattle.fluent_project.proofs.variables.variable.Goals as goal

-- a value that is no text
none_of : (name : Text) (read : Option Text) (place : Place) → None ≡ read → place ≡ inside (codes "env") 0 name
    → variable name read ≡ Err (fault place NoText)
none_of name read place none there =
    let at : Place → Result (Text × Text) Fault = λ p. Err (fault p NoText) in
    ap (variable name) (sym none) ∙ ap at (sym there)

refused : (result : Result (Text × Text) Fault) (f : code.Fault) (e : FileError) → e ≡ error.Fault f → result ≡ Err (fault_view f) → IsRefusedBy result e
refused result f e is this = subst (IsRefusedBy result) (sym is) this

pub returns-in-Some-clause-variable : goal.returns-in-Some-clause-variable
returns-in-Some-clause-variable c = ap (variable c.args.name.now) (sym c.in-Some.ensures)

pub returns-in-None-clause-refused : goal.returns-in-None-clause-refused
returns-in-None-clause-refused c =
    refused _ (record { place = c.in_table.result; kind = NoText }) c.fault.result c.fault.ensures
    (none_of c.args.name.now _ _ c.in-None.ensures c.in_table.ensures)
