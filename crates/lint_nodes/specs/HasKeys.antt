-- The keys that a set of keys has.
use Rattle.std.specs.Prelude.{◌≡◌, Bool, not, List, ◌∷◌}
use Rattle.std.specs.List.{list_any}
use Rattle.std.specs.Ordering.{nat_cmp}
use Rattle.std.specs.Cmp.Lexicographic.{slice_cmp}
use Rattle.std.specs.BTreeSet.{contains_by}
use Rattle.fluent_grammar.specs.Tree as t
use Rattle.fluent_grammar.specs.Words.{Text}
use Rattle.fluent_meaning.specs.Same.{same_key}
use Rattle.lint_nodes.specs.declared.keys.Keys.{Keys}

-- A set has just these keys.
pub record HasKeys (keys : Keys) (ks : List t.VariantKey) : Type 0 where
  pub identifiers : (name : Text) → contains_by (λ k. slice_cmp nat_cmp name k.now) keys.identifiers ≡ list_any (same_key (t.identifier_key name)) ks
  pub numbers : (name : Text) → contains_by (λ k. slice_cmp nat_cmp name k.now) keys.numbers ≡ list_any (same_key (t.number_key name)) ks

-- whether this key is none of those that the set has
abbrev pub IsNewKey : Keys → t.VariantKey → Bool → Type 0
IsNewKey keys k is_new = (ks : List t.VariantKey) → HasKeys keys ks → is_new ≡ not (list_any (same_key k) ks)

-- after a set has got this key, it has those that it had and this one
abbrev pub GetsKey : Keys → t.VariantKey → Keys → Type 0
GetsKey old k new = (ks : List t.VariantKey) → HasKeys old ks → HasKeys new (k ∷ ks)
