-- How a path is taken by a pattern, part by part.
use Rattle.std.specs.Prelude.{ℕ, suc, Bool, true, false, not, ◌&&◌, ◌==◌, if◌then◌else◌, List, [], ◌∷◌, Option, Some, None, is_some, take, drop}
use Rattle.std.specs.Option.{option_map_or}
use Rattle.fluent_project.specs.declared.part.Part.{Part}
use Rattle.fluent_project.specs.declared.part.Part.TheVariants as part
use Rattle.fluent_project.specs.declared.part.Wildcard.{Wildcard}
use Rattle.fluent_project.specs.declared.part.Wildcard.TheVariants.{Star, Folders, Rest}
use Rattle.fluent_project.specs.Patterns.{Text, is_slash}

abbrev pub is_none : Text → Bool
is_none [] = true
is_none (byte ∷ text) = false

-- what follows a text at the start of a path
abbrev pub after : Text → Text → Option Text
after [] path = Some path
after (byte ∷ text) [] = None
after (byte ∷ text) (first ∷ path) = if first == byte then after text path else None

-- whether a wildcard may go on over a byte
abbrev pub goes_on : Wildcard → ℕ → Bool
goes_on Star byte = not (is_slash byte)
goes_on Folders byte = true
goes_on Rest byte = true

-- whether it may end after a byte
abbrev pub may_end : Wildcard → ℕ → Bool
may_end Star byte = true
may_end Folders byte = is_slash byte
may_end Rest byte = true

abbrev pub if_here : Bool → Option ℕ
if_here here = if here then Some 0 else None

abbrev pub one_more_or : Option ℕ → Option ℕ → Option ℕ
one_more_or (Some len) here = Some (suc len)
one_more_or None here = here

abbrev pub if_going : Bool → Option ℕ → Option ℕ
if_going on len = if on then len else None

-- the most bytes of a path that a wildcard may stand for, so that what follows them passes
abbrev pub longest : Wildcard → (Text → Bool) → Bool → Text → Option ℕ
longest wildcard passes ends [] = if_here (ends && passes [])
longest wildcard passes ends (byte ∷ path) =
    one_more_or (if_going (goes_on wildcard byte) (longest wildcard passes (may_end wildcard byte) path)) (if_here (ends && passes (byte ∷ path)))

-- whether a path is taken as a whole
abbrev pub takes : Text → List Part → Text → Bool
takes locale [] path = is_none path
takes locale (part.Byte byte ∷ parts) [] = false
takes locale (part.Byte byte ∷ parts) (first ∷ path) = first == byte && takes locale parts path
takes locale (part.Locale ∷ parts) path = option_map_or (takes locale parts) (after locale path) false
takes locale (part.Wildcard wildcard ∷ parts) path = is_some (longest wildcard (takes locale parts) true path)

abbrev pub cut : (Text → List Text) → Option ℕ → Text → List Text
cut texts None path = []
cut texts (Some len) path = take len path ∷ texts (drop len path)

-- what its wildcards take of a path that is taken
abbrev pub taken : Text → List Part → Text → List Text
taken locale [] path = []
taken locale (part.Byte byte ∷ parts) [] = []
taken locale (part.Byte byte ∷ parts) (first ∷ path) = taken locale parts path
taken locale (part.Locale ∷ parts) path = option_map_or (taken locale parts) (after locale path) []
taken locale (part.Wildcard wildcard ∷ parts) path =
    cut (taken locale parts) (longest wildcard (takes locale parts) true path) path
