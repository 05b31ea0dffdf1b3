-- Arguments as plain data: pairs of a name and a value, in the order of the names' bytes.
use Rattle.std.specs.Prelude.{ℕ, List, [], ◌∷◌, Option, None, Some}
use Rattle.std.specs.declared.cmp.Ordering.{Ordering}
use Rattle.std.specs.Ordering.{nat_cmp}
use Rattle.std.specs.Cmp.Lexicographic.{slice_cmp}
use Rattle.std.specs.List.Sorted.{IsStrictlySortedBy}
use Rattle.std.specs.BTreeMap.{insert_entry, is_at}
use Rattle.std.specs.Map.{lookup}
use Rattle.fluent_number.specs.Number.{Number}
use Rattle.fluent_value.specs.Value.{Value, text, number, custom, none, error}

-- the order of names: that of their bytes, the first difference counting
abbrev pub order : List ℕ → List ℕ → Ordering
order = slice_cmp nat_cmp

-- each name is below those after it
abbrev pub IsAscending : List (List ℕ) → Type 0
IsAscending names = IsStrictlySortedBy order names

-- arguments in which this name has this value: in the place of its old one, or else at its place in the order
abbrev pub with_argument : {S : Type 0} → List ℕ → Value S → List (List ℕ × Value S) → List (List ℕ × Value S)
with_argument name value args = insert_entry order args name value

-- the value of a name
abbrev pub argument : {S : Type 0} → List ℕ → List (List ℕ × Value S) → Option (Value S)
argument name args = lookup (is_at (order name)) args

-- the text that a value is, if it is one
abbrev pub text_of : {S : Type 0} → Option (Value S) → Option (List ℕ)
text_of None = None
text_of (Some (text s)) = Some s
text_of (Some (number n)) = None
text_of (Some (custom c)) = None
text_of (Some none) = None
text_of (Some error) = None

-- the number that a value is, if it is one
abbrev pub number_of : {S : Type 0} → Option (Value S) → Option Number
number_of None = None
number_of (Some (text s)) = None
number_of (Some (number n)) = Some n
number_of (Some (custom c)) = None
number_of (Some none) = None
number_of (Some error) = None

-- arguments after some were set, one after the other
abbrev pub all_set : {S : Type 0} → List (List ℕ × Value S) → List (List ℕ × Value S) → List (List ℕ × Value S)
all_set args [] = args
all_set args (pair ∷ pairs) = all_set (with_argument pair.0 pair.1 args) pairs
