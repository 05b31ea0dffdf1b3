-- The names that a list of names has.
use Rattle.std.specs.Prelude.{◌≡◌, Bool, List, [], ◌∷◌, map}
use Rattle.std.specs.HashSet.{contains_by}
use Rattle.std.specs.Str.{bytes_eq}
use denote.Ref.{Bor}
use Rattle.lint_findings.specs.Comparison.{union}
use Rattle.fluent_grammar.specs.Words.{Text, is_among}
use Rattle.lint_nodes.specs.declared.name_set.Names.{Names}

abbrev pub texts : List (Bor Text) → List Text
texts names = map (λ s. s.now) names

-- whether a name is in the set, which is what is looked up
abbrev pub is_in_set : Names → Text → Bool
is_in_set names name = contains_by (λ k. bytes_eq name k.now) names.set

-- These names are listed, and are those that are known.
pub record HasNames (names : Names) (xs : List Text) : Type 0 where
  pub listed : texts names.list.items ≡ xs
  pub known : (name : Text) → is_in_set names name ≡ is_among name xs

-- after this name was added, if it was new
abbrev pub GetsName : Names → Text → Names → Type 0
GetsName old name new = (xs : List Text) → HasNames old xs → HasNames new (union xs (name ∷ []))

-- whether this name is one of those that are listed
abbrev pub IsListed : Names → Text → Bool → Type 0
IsListed names name is_listed = (xs : List Text) → HasNames names xs → is_listed ≡ is_among name xs
