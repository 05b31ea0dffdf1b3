-- Entities without the `;` that ends them.
use Rattle.std.specs.Prelude.{ℕ, suc, ◌==◌, ◌+◌, Bool, not, ◌&&◌, ◌||◌, if◌then◌else◌, List, [], ◌∷◌, ◌++◌, drop, take, length, map, Option, Some, None, is_some, codes}
use Rattle.std.specs.List.{flat_map, list_any, prefix_len}
use Rattle.std.specs.Option.{option_or, option_to_list}
use Rattle.fluent_grammar.specs.Words.{Text, number_sign, is_letter, is_digit, is_hex_digit, begins, begins_with}
use Rattle.lint_findings.specs.Doubts.{Spotted, broken_entity, spotted_at}

abbrev pub ampersand : ℕ
ampersand = 38

abbrev pub semicolon : ℕ
semicolon = 59

-- how many bytes a number of this kind has after as many others, 0 if there is none
abbrev pub number_len : ℕ → (ℕ → Bool) → Text → ℕ
number_len before passes s = let n = prefix_len passes (drop before s) in if n == 0 then 0 else before + n

-- the length of the name of an entity at the front: letters and digits, or a number after its sign
abbrev pub entity_len : Text → ℕ
entity_len s =
    if begins is_letter s then prefix_len (λ c. is_letter c || is_digit c) s
    else if not (begins_with number_sign s) then 0
    else if begins (λ c. c == 88 || c == 120) (drop 1 s) then number_len 2 is_hex_digit s
    else number_len 1 is_digit s

-- the name of the entity at the front, if it is one
abbrev pub name_at : Text → Option Text
name_at s =
    let n = entity_len (drop 1 s) in
    if begins_with ampersand s && not (n == 0) then Some (take n (drop 1 s)) else None

abbrev pub is_ended : Text → Text → Bool
is_ended s name = begins_with semicolon (drop (suc (length name)) s)

-- that name, if `;` follows it
abbrev pub ended_at : Text → Option Text → List Text
ended_at s None = []
ended_at s (Some name) = if is_ended s name then name ∷ [] else []

-- the names of the entities of a text
abbrev pub entities_in : Text → List Text
entities_in [] = []
entities_in (c ∷ s) = ended_at (c ∷ s) (name_at (c ∷ s)) ++ entities_in s

-- an entity that isn't ended: its name, and the text from its sign on
pub record Unended : Type 0 where
  pub name : Text
  pub at : Text

abbrev pub unended_at : Text → Option Text → Option Unended
unended_at s None = None
unended_at s (Some name) = if is_ended s name then None else Some (record { name = name; at = s })

abbrev pub unended_in : Text → Option Unended
unended_in [] = None
unended_in (c ∷ s) = option_or (unended_at (c ∷ s) (name_at (c ∷ s))) (unended_in s)

abbrev pub first_unended : List Text → Option Unended
first_unended [] = None
first_unended (s ∷ texts) = option_or (unended_in s) (first_unended texts)

-- ---- what is said

abbrev pub with_known : List Text → List Text → List Spotted
with_known texts [] = []
with_known texts (name ∷ names) =
    map (λ (u : Unended). spotted_at u.at (broken_entity (name ∷ names) u.name)) (option_to_list (first_unended texts))

-- Of texts, if those of the reference have an entity. Otherwise `&` may mark an access key.
abbrev pub broken_entities : List Text → List Text → List Spotted
broken_entities texts others = with_known texts (flat_map entities_in others)
