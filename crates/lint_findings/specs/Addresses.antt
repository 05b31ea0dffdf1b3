-- Addresses in texts: of pages, and of mail. Of each counts what its host ends with.
use Rattle.std.specs.Prelude.{ℕ, ◌==◌, nat_le, Bool, not, ◌&&◌, ◌||◌, if◌then◌else◌, List, [], ◌∷◌, ◌++◌, drop, take, filter, length, map, Option, Some, None, codes}
use Rattle.std.specs.List.{flat_map, list_all, list_any, prefix_len}
use Rattle.std.specs.Option.{option_to_list}
use Rattle.std.specs.Str.{bytes_eq}
use Rattle.fluent_grammar.specs.Words.{Text, dot, hyphen, is_digit, is_letter, is_among, begins_with}
use Rattle.lint_findings.specs.Comparison.{union, without}
use Rattle.lint_findings.specs.Doubts.{Doubt, Spotted, changed_url, on_text, spotted_at}
use Rattle.lint_findings.specs.Keys.{small}

-- what the host ends with, and the text from the address on
pub record Address : Type 0 where
  pub host : Text
  pub at : Text

abbrev pub at_sign : ℕ
at_sign = 64

-- ---- hosts

abbrev pub is_host_byte : ℕ → Bool
is_host_byte c = is_letter c || (is_digit c || (c == dot || c == hyphen))

abbrev pub dots : Text → ℕ
dots s = length (filter (λ c. c == dot) s)

-- without the dots at its end
abbrev pub trim_dots : Text → Text
trim_dots [] = []
trim_dots (c ∷ s) = if list_all (λ d. d == dot) (c ∷ s) then [] else c ∷ trim_dots s

-- what stands after the last dot but one
abbrev pub last_labels : Text → Text
last_labels [] = []
last_labels (c ∷ s) = if nat_le (dots (c ∷ s)) 1 then c ∷ s else last_labels s

-- the host at the front
abbrev pub host_text : Text → Text
host_text s = trim_dots (take (prefix_len is_host_byte s) s)

-- what it ends with, in small letters
abbrev pub host_end : Text → Text
host_end s = map small (last_labels (host_text s))

-- ---- addresses

-- how many bytes the beginning of the address of a page has, 0 if none is at the front
abbrev pub scheme_len : Text → ℕ
scheme_len s =
    if bytes_eq (take 7 s) (codes "http://") then 7
    else if bytes_eq (take 8 s) (codes "https://") then 8
    else if bytes_eq (take 6 s) (codes "ftp://") then 6
    else 0

-- after so many bytes
abbrev pub address_after : Text → ℕ → List Address
address_after s n = record { host = host_end (drop n s); at = s } ∷ []

abbrev pub has_dot : Text → Bool
has_dot s = not (dots (host_text s) == 0)

abbrev pub address_at : Text → List Address
address_at s =
    if begins_with at_sign s && has_dot (drop 1 s) then address_after s 1
    else if scheme_len s == 0 then []
    else address_after s (scheme_len s)

abbrev pub addresses_in : Text → List Address
addresses_in [] = []
addresses_in (c ∷ s) = address_at (c ∷ s) ++ addresses_in s

abbrev pub addresses : List Text → List Address
addresses texts = flat_map addresses_in texts

abbrev pub hosts : List Address → List Text
hosts as' = union [] (map (λ (a : Address). a.host) as')

-- ---- beside the reference

abbrev pub first_new : List Text → List Address → Option Text
first_new known [] = None
first_new known (a ∷ as') = if is_among a.host known then first_new known as' else Some a.at

abbrev pub at_new : Doubt → Option Text → Spotted
at_new d None = on_text d
at_new d (Some at) = spotted_at at d

-- of the first host that is gone, at the first address of another
abbrev pub first_gone : List Text → List Address → List Text → List Spotted
first_gone known mine [] = []
first_gone known mine (host ∷ hosts) = at_new (changed_url host) (first_new known mine) ∷ []

abbrev pub urls_beside : List Text → List Text → List Spotted
urls_beside texts others =
    let mine = addresses texts in
    let known = hosts (addresses others) in
    first_gone known mine (without known (hosts mine))
