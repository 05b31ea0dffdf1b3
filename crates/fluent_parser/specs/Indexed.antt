-- The names that the parser keeps of the named arguments of a call.
use Rattle.std.specs.Prelude.{◌≡◌, ℕ, List, drop, map}
use Rattle.std.specs.List.{list_any}
use Rattle.std.specs.Str.{bytes_eq}
use Rattle.std.specs.Ordering.{nat_cmp}
use Rattle.std.specs.Cmp.Lexicographic.{slice_cmp}
use Rattle.std.specs.BTreeSet.{contains_by}
use Rattle.fluent_parser.specs.declared.named_arguments.NamedArguments.{NamedArguments}
use Rattle.fluent_parser.specs.declared.named_arguments.TheConstants.{FEW}
use Rattle.fluent_parser.specs.Steps.{names_of}
use Rattle.fluent_ast.specs.declared.NamedArgument.{NamedArgument}
use Rattle.fluent_ast.specs.View.{named_view}

module _ (S : Type 0) (text_of : S → List ℕ) where
  -- the names of the arguments, the last one first
  abbrev pub names_in : NamedArguments S → List (List ℕ)
  names_in n = names_of (map (named_view S text_of) n.all.items)

  -- the set has the names of all but the first few
  abbrev pub IsIndexed : NamedArguments S → Type 0
  IsIndexed n = (name : List ℕ) → contains_by (λ k. slice_cmp nat_cmp name k.now) n.later ≡ list_any (λ x. bytes_eq (named_view S text_of x).name name) (drop FEW n.all.items)

-- The set goes on having them, by whatever the bytes of a text are, after one more argument whose name is this text.
abbrev pub StaysIndexed : (S : Type 0) → NamedArguments S → NamedArguments S → NamedArgument S → List ℕ → Type 0
StaysIndexed S old new argument name = (text_of : S → List ℕ) → (named_view S text_of argument).name ≡ name → IsIndexed S text_of old → IsIndexed S text_of new
