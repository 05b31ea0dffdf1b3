-- What the code's variables and tokens stand for.
use Rattle.std.specs.Prelude.{◌≡◌, ◌++◌, Bool, List, Result, Err, map}
use Rattle.std.specs.Option.{option_to_list}
use Rattle.fluent_project.specs.declared.part.Part.{Part}
use Rattle.fluent_project.specs.declared.reading.PatternError.{PatternError}
use Rattle.fluent_project.specs.declared.reading.PatternError.TheVariants.{Memory, NoVariable}
use Rattle.fluent_project.specs.declared.reading.Token as code
use Rattle.fluent_project.specs.declared.reading.Variable as variable
use Rattle.fluent_project.specs.Patterns.{Text}
use Rattle.fluent_project.specs.Written.{Token, Variable, parts_after, token}

abbrev pub views : List variable.Variable → List Variable
views = map (λ v. (v.name.now, v.parts.now))

-- the parts of the rest of a pattern
abbrev pub read : List variable.Variable → Bool → Text → Result (List Part) Text
read variables at_start text = parts_after (views variables) 0 at_start text

abbrev pub token_view : code.Token → Token
token_view t = token (option_to_list t.part ++ t.parts.now) t.extra t.at_start

-- the text isn't a pattern, and this is where its first fault is
abbrev pub IsRefusedAs : Result (List Part) Text → PatternError → Type 0
IsRefusedAs result Memory = Unit {0}
IsRefusedAs result (NoVariable rest) = result ≡ Err rest.now
