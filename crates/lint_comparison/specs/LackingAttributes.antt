-- The attributes that one of two messages lacks.
use denote.Ref.{Bor}
use Rattle.fluent_ast.specs.Borrowed.{attributes_of}
use Rattle.fluent_ast.specs.declared.Attribute.{Attribute}
use Rattle.std.specs.Prelude.{Bool, true, false, ◌&&◌, List, [], ◌∷◌, map, Vec}
use Rattle.std.specs.Str.{bytes_eq}
use Rattle.std.specs.Global.{Global}
use Rattle.lint_findings.specs.declared.difference.Difference.{Difference}
use Rattle.lint_findings.specs.Comparison.{union}
use Rattle.fluent_grammar.specs.Tree as t
use Rattle.fluent_grammar.specs.Words.{Text}
use Rattle.lint_comparison.specs.Lacks.{Adds, AddsLacking, lacking}
use Rattle.lint_comparison.specs.declared.lack.Lack.{Lack}
use Rattle.lint_nodes.specs.declared.name_set.Names.{Names}

abbrev pub names_of : List t.Attribute → List Text
names_of as' = map (λ (a : t.Attribute). a.id) as'

-- the names, each once
abbrev pub known_names : List t.Attribute → List Text
known_names as' = union [] (names_of as')

-- these have the same names, in the same order
abbrev pub have_same_names : List t.Attribute → List t.Attribute → Bool
have_same_names [] [] = true
have_same_names (a ∷ as') (b ∷ bs) = bytes_eq a.id b.id && have_same_names as' bs
have_same_names _ _ = false

-- those of attributes whose names aren't listed
abbrev pub AddsLackingNames : Lack → List t.Attribute → Names → Vec Difference Global → Vec Difference Global → Type 0
AddsLackingNames lack as' names old new = AddsLacking lack (names_of as') names old new

-- those of attributes whose names none of the others has
abbrev pub AddsLackingAttributes : Lack → List t.Attribute → List t.Attribute → Vec Difference Global → Vec Difference Global → Type 0
AddsLackingAttributes lack as' others old new = Adds old new (lacking lack (names_of as') (names_of others))

-- the same of the code's attributes
abbrev pub AddsLackingOf : Lack → List (Attribute (Bor Text)) → List (Attribute (Bor Text)) → Vec Difference Global → Vec Difference Global → Type 0
AddsLackingOf lack attributes others old new = AddsLackingAttributes lack (attributes_of attributes) (attributes_of others) old new
