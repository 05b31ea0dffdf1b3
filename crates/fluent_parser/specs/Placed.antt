-- What reading a source gives, with the places of its entries and without.
use Rattle.std.specs.Prelude.{◌≡◌, ℕ, List, ◌++◌, true, Result, Ok, Err}
use Rattle.fluent_ast.specs.declared.Resource.{Resource}
use Rattle.fluent_parsed.specs.declared.error.Error.{Error}
use Rattle.fluent_parser.specs.declared.placed.PlacedTree.{PlacedTree}
use Rattle.fluent_parser.specs.declared.starts.Starts.{Starts}

-- these starts were put after those that were there, if they are kept
abbrev pub Adds : Starts → Starts → List ℕ → Type 0
Adds old new more = old.is_keeping ≡ true → new.all.items ≡ old.all.items ++ more

module _ (S : Type 0) where
  -- a tree alone, or why there is none
  abbrev pub unplaced : Result (PlacedTree S) (Error S) → Result (Resource S) (Error S)
  unplaced (Ok placed) = Ok placed.tree
  unplaced (Err e) = Err e
