-- What the ids of a bundle stand for: messages, terms and functions share one map.
use Rattle.std.specs.Prelude.{Bool, false, not, ◌&&◌, if◌then◌else◌, List, [], ◌∷◌, ◌++◌, Option, Some, None, is_some, codes}
use Rattle.std.specs.BTreeMap.{insert_entry, is_at}
use Rattle.std.specs.Map.{lookup}
use Rattle.std.specs.Str.{bytes_eq}
use Rattle.fluent_grammar.specs.Words.{Text}
use Rattle.fluent_grammar.specs.Tree as t
use Rattle.fluent_errors.specs.Errors as e
use Rattle.fluent_value.specs.Args.{order}

-- what an id stands for: `NUMBER`, a function of the caller, a message or a term
pub data Meaning (F : Type 0) : Type 0 where
  number_function : Meaning F
  function : F → Meaning F
  message : t.Message → Meaning F
  term : t.Term → Meaning F

-- the map of ids: pairs of an id and what it stands for, in the order of the ids' bytes
abbrev pub Ids : Type 0 → Type 0
Ids F = List (Text × Meaning F)

-- what an id stands for, if it is there
abbrev pub find : {F : Type 0} → Ids F → Text → Option (Meaning F)
find ids id = lookup (is_at (order id)) ids

-- the kind of what an id stands for
abbrev pub kind_of : {F : Type 0} → Meaning F → e.Kind
kind_of number_function = e.function
kind_of (function f) = e.function
kind_of (message m) = e.message
kind_of (term m) = e.term

-- the function that every bundle may have
abbrev pub number_pair : {F : Type 0} → Text × Meaning F
number_pair = (codes "NUMBER", number_function)

-- a map with one pair more: the first of an id stays, or with `overriding` the last
abbrev pub with_id : {F : Type 0} → Bool → Ids F → Text × Meaning F → Ids F
with_id overriding ids pair =
    if is_some (find ids pair.0) && not overriding then ids else insert_entry order ids pair.0 pair.1

-- a map with pairs put in, one after the other
abbrev pub with_ids : {F : Type 0} → Bool → Ids F → List (Text × Meaning F) → Ids F
with_ids overriding ids [] = ids
with_ids overriding ids (pair ∷ pairs) = with_ids overriding (with_id overriding ids pair) pairs

-- whether an id was there is reported with the kind of the pair that was to come
abbrev pub notice : {F : Type 0} → Ids F → Text × Meaning F → List e.Reported
notice ids pair = if is_some (find ids pair.0) then e.overriding (kind_of pair.1) pair.0 ∷ [] else []

-- a notice for each pair whose id was there, in the order of the pairs: if the first of an id stays
abbrev pub notices : {F : Type 0} → Ids F → List (Text × Meaning F) → List e.Reported
notices ids [] = []
notices ids (pair ∷ pairs) = notice ids pair ++ notices (with_id false ids pair) pairs

-- the messages and terms of entries by id, in order; a term's id is its name without the minus
abbrev pub entries_by_id : {F : Type 0} → List t.Entry → List (Text × Meaning F)
entries_by_id [] = []
entries_by_id (t.message m ∷ es) = (m.id, message m) ∷ entries_by_id es
entries_by_id (t.term m ∷ es) = (m.id, term m) ∷ entries_by_id es
entries_by_id (t.comment c ∷ es) = entries_by_id es
entries_by_id (t.group_comment c ∷ es) = entries_by_id es
entries_by_id (t.resource_comment c ∷ es) = entries_by_id es
entries_by_id (t.junk s ∷ es) = entries_by_id es

-- the first attribute of a name
abbrev pub attribute_named : Text → List t.Attribute → Option t.Elements
attribute_named name [] = None
attribute_named name (a ∷ as') = if bytes_eq a.id name then Some a.value else attribute_named name as'
