-- The terms that a catalog refers to.
use Rattle.std.specs.Prelude.{◌≡◌, ℕ, Bool, List, [], ◌∷◌, ◌++◌, map, Option}
use Rattle.std.specs.HashSet.{contains_by}
use Rattle.std.specs.Option.{option_to_list}
use Rattle.std.specs.Str.{bytes_eq}
use Rattle.fluent_grammar.specs.Tree.{Entry}
use Rattle.fluent_grammar.specs.Words.{Text, is_among}
use Rattle.lint_findings.specs.View.{finding_view}
use Rattle.lint_findings.specs.declared.records.Finding as code
use Rattle.lint_findings.specs.UnusedTerms.{unused_findings}
use Rattle.lint_entries.specs.declared.terms.ReferredTerms.{ReferredTerms}

-- the catalog refers to the term of this id
abbrev pub is_referred : ReferredTerms → Text → Bool
is_referred terms id = contains_by (λ k. bytes_eq id k.now) terms.ids

-- it refers to the terms of just these ids
abbrev pub AreTermsOf : ReferredTerms → List Text → Type 0
AreTermsOf terms ids = (id : Text) → is_referred terms id ≡ is_among id ids

-- and after one more
abbrev pub GetsTerm : ReferredTerms → Text → ReferredTerms → Type 0
GetsTerm old id new = (ids : List Text) → AreTermsOf old ids → AreTermsOf new (ids ++ id ∷ [])

-- the finding of a term that the catalog doesn't refer to, if the entry at this offset is one
abbrev pub IsUnusedFinding : ReferredTerms → Entry → ℕ → Option code.Finding → Type 0
IsUnusedFinding terms e at found = map finding_view (option_to_list found) ≡ unused_findings (is_referred terms) e at
