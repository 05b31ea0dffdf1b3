-- Patterns without the names that stand for the same folder or the one above.
use Rattle.std.specs.Prelude.{ℕ, suc, Bool, true, false, ◌==◌, ◌&&◌, if◌then◌else◌, not, List, [], ◌∷◌, ◌++◌, Option, Some, None, map, take}
use Rattle.fluent_project.specs.declared.part.Part.{Part}
use Rattle.fluent_project.specs.declared.part.Part.TheVariants as part
use Rattle.fluent_project.specs.declared.part.Wildcard.TheVariants.{Star, Folders, Rest}
use Rattle.fluent_project.specs.Patterns.{Text, is_slash}

-- ---- the names of a pattern

-- A name ends before a slash, and after `**/`.
abbrev pub onto_first : Part → List (List Part) → List (List Part)
onto_first p [] = (p ∷ []) ∷ []
onto_first p (name ∷ rest) = (p ∷ name) ∷ rest

abbrev pub names : List Part → List (List Part)
names [] = [] ∷ []
names (part.Byte byte ∷ parts) = if is_slash byte then [] ∷ names parts else onto_first (part.Byte byte) (names parts)
names (part.Locale ∷ parts) = onto_first part.Locale (names parts)
names (part.Wildcard Folders ∷ parts) = (part.Wildcard Folders ∷ []) ∷ names parts
names (part.Wildcard Star ∷ parts) = onto_first (part.Wildcard Star) (names parts)
names (part.Wildcard Rest ∷ parts) = onto_first (part.Wildcard Rest) (names parts)

-- the length of the first, and what follows it and its slash
abbrev pub name_len : List Part → ℕ
name_len [] = 0
name_len (part.Byte byte ∷ parts) = if is_slash byte then 0 else suc (name_len parts)
name_len (part.Locale ∷ parts) = suc (name_len parts)
name_len (part.Wildcard Folders ∷ parts) = 1
name_len (part.Wildcard Star ∷ parts) = suc (name_len parts)
name_len (part.Wildcard Rest ∷ parts) = suc (name_len parts)

abbrev pub after_name : List Part → Option (List Part)
after_name [] = None
after_name (part.Byte byte ∷ parts) = if is_slash byte then Some parts else after_name parts
after_name (part.Locale ∷ parts) = after_name parts
after_name (part.Wildcard Folders ∷ parts) = Some parts
after_name (part.Wildcard Star ∷ parts) = after_name parts
after_name (part.Wildcard Rest ∷ parts) = after_name parts

abbrev pub first_name : List Part → List Part
first_name parts = take (name_len parts) parts

-- the names after the first, if there are some
abbrev pub rest_names : Option (List Part) → List (List Part)
rest_names None = []
rest_names (Some rest) = names rest

-- ---- where they lead

abbrev pub is_dot : Part → Bool
is_dot (part.Byte byte) = byte == 46
is_dot part.Locale = false
is_dot (part.Wildcard wildcard) = false

-- the folder itself: no name, or `.`
abbrev pub is_same_folder : List Part → Bool
is_same_folder [] = true
is_same_folder (p ∷ []) = is_dot p
is_same_folder (p ∷ q ∷ parts) = false

-- the folder above: `..`
abbrev pub is_above : List Part → Bool
is_above [] = false
is_above (p ∷ []) = false
is_above (p ∷ q ∷ []) = is_dot p && is_dot q
is_above (p ∷ q ∷ r ∷ parts) = false

-- A step up is one more after a path: above the root there is no folder, and above a path that goes up only another step up.
abbrev pub goes_up : Bool → List (List Part) → Bool
goes_up rooted [] = not rooted
goes_up rooted (name ∷ []) = is_above name
goes_up rooted (name ∷ next ∷ path) = goes_up rooted (next ∷ path)

abbrev pub without_last : List (List Part) → List (List Part)
without_last [] = []
without_last (name ∷ []) = []
without_last (name ∷ next ∷ path) = name ∷ without_last (next ∷ path)

abbrev pub up : Bool → List (List Part) → List Part → List (List Part)
up rooted path name = if goes_up rooted path then path ++ name ∷ [] else without_last path

abbrev pub step : Bool → List (List Part) → List Part → List (List Part)
step rooted path name = if is_same_folder name then path else if is_above name then up rooted path name else path ++ name ∷ []

abbrev pub walk : Bool → List (List Part) → List (List Part) → List (List Part)
walk rooted path [] = path
walk rooted path (name ∷ rest) = walk rooted (step rooted path name) rest

-- ---- the names put together

abbrev pub is_folders : Part → Bool
is_folders (part.Wildcard Folders) = true
is_folders (part.Wildcard Star) = false
is_folders (part.Wildcard Rest) = false
is_folders (part.Byte byte) = false
is_folders part.Locale = false

abbrev pub ends_folders : List Part → Bool
ends_folders [] = false
ends_folders (p ∷ []) = is_folders p
ends_folders (p ∷ q ∷ parts) = ends_folders (q ∷ parts)

-- a slash after a name, which `**/` has itself
abbrev pub slash_after : List Part → List Part
slash_after name = if ends_folders name then [] else part.Byte 47 ∷ []

abbrev pub joined : List (List Part) → List Part
joined [] = []
joined (name ∷ []) = name
joined (name ∷ other ∷ rest) = name ++ (slash_after name ++ joined (other ∷ rest))

abbrev pub is_rooted : List Part → Bool
is_rooted [] = false
is_rooted (part.Byte byte ∷ parts) = is_slash byte
is_rooted (part.Locale ∷ parts) = false
is_rooted (part.Wildcard wildcard ∷ parts) = false

abbrev pub root : List Part → List Part
root parts = if is_rooted parts then part.Byte 47 ∷ [] else []

-- the pattern that leads to the same files
abbrev pub normal : List Part → List Part
normal parts = root parts ++ joined (walk (is_rooted parts) [] (names parts))

-- a pattern in a folder, unless it begins with a slash
abbrev pub in_folder : Text → List Part → List Part
in_folder [] parts = parts
in_folder (byte ∷ folder) parts = if is_rooted parts then parts else (map part.Byte (byte ∷ folder) ++ part.Byte 47 ∷ []) ++ parts
