-- The rows of the definition that those of the code stand for.
use Rattle.std.specs.Prelude.{List, [], ◌∷◌, Option, None, Some}
use Rattle.std.specs.Borrow.{Bor}
use Rattle.fluent_grammar.specs.Words.{Text}
use Rattle.lint_findings.specs.Builtins as b
use Rattle.lint_flaws.specs.declared.builtins.Takes.{Takes}
use Rattle.lint_flaws.specs.declared.builtins.Takes.TheVariants as takes
use Rattle.lint_flaws.specs.declared.builtins.Operand.{Operand}
use Rattle.lint_flaws.specs.declared.builtins.Operand.TheVariants as operand
use Rattle.lint_flaws.specs.declared.builtins.FunctionOption.{FunctionOption}
use Rattle.lint_flaws.specs.declared.builtins.Builtin.{Builtin}

abbrev pub texts : List (Bor Text) → List Text
texts [] = []
texts (s ∷ rest) = s.now ∷ texts rest

abbrev pub takes_view : Takes → b.Takes
takes_view takes.Number = b.a_number
takes_view takes.AnyText = b.any_text
takes_view (takes.OneOf values) = b.one_of (texts values.now)

abbrev pub operand_view : Operand → b.Operand
operand_view operand.Number = b.number
operand_view operand.Date = b.date

abbrev pub option_view : FunctionOption → b.FunctionOption
option_view o = record { name = o.name.now; takes = takes_view o.takes }

abbrev pub option_views : List FunctionOption → List b.FunctionOption
option_views [] = []
option_views (o ∷ rest) = option_view o ∷ option_views rest

abbrev pub builtin_view : Builtin → b.Builtin
builtin_view row = record {
  name = row.name.now;
  operand = operand_view row.operand;
  options = option_views row.options.now;
  styles = texts row.styles.now;
  components = texts row.components.now;
}

abbrev pub builtin_views : List Builtin → List b.Builtin
builtin_views [] = []
builtin_views (row ∷ rest) = builtin_view row ∷ builtin_views rest

-- what was found
abbrev pub found_builtin : Option (Bor Builtin) → Option b.Builtin
found_builtin None = None
found_builtin (Some row) = Some (builtin_view row.now)

abbrev pub found_takes : Option Takes → Option b.Takes
found_takes None = None
found_takes (Some takes) = Some (takes_view takes)
