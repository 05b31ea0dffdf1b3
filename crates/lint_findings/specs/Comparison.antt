-- How a catalog differs from its reference, the catalog that it translates.
use Rattle.std.specs.Prelude.{ℕ, zero, suc, Bool, true, false, ◌&&◌, not, if◌then◌else◌, List, [], ◌∷◌, ◌++◌, length, map, filter, Option, Some, None, is_some}
use Rattle.std.specs.List.{flat_map, list_any}
use Rattle.std.specs.Option.{option_to_list}
use Rattle.fluent_grammar.specs.Words.{Text, is_among}
use Rattle.fluent_grammar.specs.Tree as t
use Rattle.fluent_grammar.specs.Tree.{Elements, Inline}
use Rattle.fluent_meaning.specs.Ids.{Ids, Meaning, number_function, function, message, term, find}
use Rattle.fluent_meaning.specs.Same.{same_elements}
use Rattle.fluent_value.specs.Matching.{same_option}
use Rattle.lint_findings.specs.References.{elements_references}
use Rattle.lint_findings.specs.Shown.{elements_show}

-- how a message differs from that of the reference with the same id
pub data Difference : Type 0 where
  missing_message : Difference
  obsolete_message : Difference
  missing_value : Difference
  obsolete_value : Difference
  missing_attribute : Text → Difference
  obsolete_attribute : Text → Difference
  -- a variable that the message of the reference isn't shown with, one that only that message shows, and one that only
  -- that message is shown with
  unknown_variable : Text → Difference
  missing_variable : Text → Difference
  unused_variable : Text → Difference
  -- equal values and attributes
  untranslated : Difference

-- ---- the variables that a message is shown with

abbrev pub variable_of : Inline → List Text
variable_of (t.variable_reference x) = x ∷ []
variable_of _ = []

abbrev pub message_of : Inline → List Text
message_of (t.message_reference id a) = id ∷ []
message_of _ = []

abbrev pub message_patterns : t.Message → List Elements
message_patterns m = option_to_list m.value ++ map (λ (a : t.Attribute). a.value) m.attributes

-- the references of a message; terms have none that count here
abbrev pub references_of : {F : Type 0} → Option (Meaning F) → List Inline
references_of None = []
references_of (Some number_function) = []
references_of (Some (function f)) = []
references_of (Some (term m)) = []
references_of (Some (message m)) = flat_map elements_references (message_patterns m)

-- a list, then what only the other has, each once
abbrev pub union : List Text → List Text → List Text
union xs [] = xs
union xs (y ∷ ys) = if is_among y xs then union xs ys else union (xs ++ y ∷ []) ys

-- these messages and those that they refer to, in at most this number of steps
unfoldable pub messages_within : {F : Type 0} → ℕ → Ids F → List Text → List Text
messages_within zero ids known = known
messages_within (suc n) ids known =
    messages_within n ids (union known (flat_map (λ id. flat_map message_of (references_of (find ids id))) known))

-- a message and all that it refers to, at any remove
abbrev pub messages_of : {F : Type 0} → Ids F → Text → List Text
messages_of ids id = messages_within (length ids) ids (id ∷ [])

-- Its variables and those of the messages that it refers to, which get the same arguments. A term gets only its own.
abbrev pub variables_of : {F : Type 0} → Ids F → Text → List Text
variables_of ids id =
    union [] (flat_map (λ other. flat_map variable_of (references_of (find ids other))) (messages_of ids id))

-- ---- two messages of an id

abbrev pub attribute_names : t.Message → List Text
attribute_names m = map (λ (a : t.Attribute). a.id) m.attributes

abbrev pub without : List Text → List Text → List Text
without xs ys = filter (λ x. not (is_among x ys)) xs

abbrev pub value_difference : Option Elements → Option Elements → List Difference
value_difference None None = []
value_difference None (Some es) = missing_value ∷ []
value_difference (Some es) None = obsolete_value ∷ []
value_difference (Some es) (Some fs) = []

abbrev pub same_attributes : List t.Attribute → List t.Attribute → Bool
same_attributes [] [] = true
same_attributes (a ∷ as') (b ∷ bs) = is_among a.id (b.id ∷ []) && (same_elements a.value b.value && same_attributes as' bs)
same_attributes _ _ = false

abbrev pub same_message : t.Message → t.Message → Bool
same_message m o = same_option same_elements m.value o.value && same_attributes m.attributes o.attributes

-- whether a text of a message shows a variable
abbrev pub message_shows : t.Message → Text → Bool
message_shows o x = list_any (elements_show x) (message_patterns o)

-- Of a variable of the message o of the reference that the catalog's isn't shown with. If that one has an unknown variable,
-- it may be the one that is meant.
abbrev pub lost_variable : Bool → t.Message → Text → Difference
lost_variable has_unknown o x = if not has_unknown && message_shows o x then missing_variable x else unused_variable x

-- whether one of these isn't among the others
abbrev pub has_new : List Text → List Text → Bool
has_new xs ys = list_any (λ x. not (is_among x ys)) xs

-- of the variables of a message, compared with those of the message o of the reference
abbrev pub variable_differences : t.Message → List Text → List Text → List Difference
variable_differences o xs ys =
    map unknown_variable (without xs ys) ++ map (lost_variable (has_new xs ys) o) (without ys xs)

-- a message m of a catalog with the message o of the reference
abbrev pub message_differences : {F : Type 0} → Ids F → Ids F → Text → t.Message → t.Message → List Difference
message_differences ids reference id m o =
    value_difference m.value o.value
    ++ (map missing_attribute (without (attribute_names o) (attribute_names m))
    ++ (map obsolete_attribute (without (attribute_names m) (attribute_names o))
    ++ (variable_differences o (variables_of ids id) (variables_of reference id)
    ++ (if same_message m o then untranslated ∷ [] else []))))

-- what an id stands for, if it is a message
abbrev pub as_message : {F : Type 0} → Option (Meaning F) → Option t.Message
as_message None = None
as_message (Some number_function) = None
as_message (Some (function f)) = None
as_message (Some (term m)) = None
as_message (Some (message m)) = Some m

-- by the message of an id in both, if there is one
abbrev pub differences_between : {F : Type 0} → Ids F → Ids F → Text → Option t.Message → Option t.Message →
    List Difference
differences_between ids reference id None None = []
differences_between ids reference id None (Some o) = missing_message ∷ []
differences_between ids reference id (Some m) None = obsolete_message ∷ []
differences_between ids reference id (Some m) (Some o) = message_differences ids reference id m o

-- how an id of a catalog differs from that of the reference
abbrev pub differences : {F : Type 0} → Ids F → Ids F → Text → List Difference
differences ids reference id =
    differences_between ids reference id (as_message (find ids id)) (as_message (find reference id))

abbrev pub id_differences : {F : Type 0} → Ids F → Ids F → Text → List (Text × Difference)
id_differences ids reference id = map (λ d. (id, d)) (differences ids reference id)

-- each difference with its id: of the ids of the catalog, then of those that only the reference has
abbrev pub all_differences : {F : Type 0} → Ids F → Ids F → List (Text × Difference)
all_differences ids reference =
    flat_map (λ pair. id_differences ids reference pair.0) ids
    ++ flat_map (λ pair. if is_some (find ids pair.0) then [] else id_differences ids reference pair.0) reference
