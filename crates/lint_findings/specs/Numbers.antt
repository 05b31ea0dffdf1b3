-- Numbers in texts, outside of tags and of the addresses of pages.
use Rattle.std.specs.Prelude.{ℕ, zero, suc, ◌+◌, ◌-◌, ◌==◌, nat_lt, Bool, true, false, not, ◌&&◌, ◌||◌, if◌then◌else◌, List, [], ◌∷◌, ◌++◌, drop, take, length, map, Option, Some, None, codes}
use Rattle.std.specs.List.{flat_map, list_any, prefix_len}
use Rattle.fluent_grammar.specs.Words.{Text, is_digit, is_among, begins}
use Rattle.lint_findings.specs.Addresses.{at_new, scheme_len}
use Rattle.lint_findings.specs.Comparison.{union, without}
use Rattle.lint_findings.specs.Doubts.{Spotted, changed_number}
use Rattle.lint_findings.specs.Tags.{Tag, is_blank_byte, tag_at}

-- ---- what is outside of tags

abbrev pub tag_len : Option Tag → ℕ
tag_len None = 0
tag_len (Some tag) = suc (suc (length tag.element + length tag.inside)) + (if tag.closes then 1 else 0)

-- what stands between tags, after such a part and so many bytes of a tag
abbrev pub parts_after : Text → ℕ → Text → List Text
parts_after part n [] = part ∷ []
parts_after part (suc n) (c ∷ s) = parts_after part n s
parts_after part zero (c ∷ s) =
    if tag_len (tag_at (c ∷ s)) == 0 then parts_after (part ++ c ∷ []) zero s
    else part ∷ parts_after [] (tag_len (tag_at (c ∷ s)) - 1) s

-- the parts of a text that tags part
abbrev pub plain_parts : Text → List Text
plain_parts s = parts_after [] 0 s

-- a text without its tags
abbrev pub untagged : Text → Text
untagged s = flat_map (λ part. part) (plain_parts s)

-- ---- numbers

-- its digits without zeros at the front, and the text from it on
pub record Number : Type 0 where
  pub digits : Text
  pub at : Text

-- without the zeros at the front, but for the last digit
abbrev pub without_zeros : Text → Text
without_zeros [] = []
without_zeros (c ∷ []) = c ∷ []
without_zeros (c ∷ d ∷ s) = if c == 48 then without_zeros (d ∷ s) else c ∷ d ∷ s

abbrev pub number_at : Text → Number
number_at s = record { digits = without_zeros (take (prefix_len is_digit s) s); at = s }

-- how many bytes of an address are at the front
abbrev pub address_len : Text → ℕ
address_len s = if scheme_len s == 0 then 0 else prefix_len (λ c. not (is_blank_byte c)) s

-- of an end of a part: after a digit, or in an address of so many bytes
abbrev pub numbers_from : Bool → ℕ → Text → List Number
numbers_from after n [] = []
numbers_from after (suc n) (c ∷ s) = numbers_from false n s
numbers_from after zero (c ∷ s) =
    if is_digit c then (if after then [] else number_at (c ∷ s) ∷ []) ++ numbers_from true zero s
    else numbers_from false (address_len (c ∷ s) - 1) s

abbrev pub numbers_in : Text → List Number
numbers_in s = flat_map (numbers_from false 0) (plain_parts s)

abbrev pub numbers : List Text → List Number
numbers texts = flat_map numbers_in texts

abbrev pub digits_of : List Number → List Text
digits_of ns = union [] (map (λ (n : Number). n.digits) ns)

-- ---- beside the reference

-- 0, 1 and 2 are often words
abbrev pub is_great : Text → Bool
is_great s = nat_lt 1 (length s) || begins (λ c. nat_lt 50 c) s

abbrev pub first_new : List Text → List Number → Option Text
first_new known [] = None
first_new known (n ∷ ns) = if is_among n.digits known then first_new known ns else Some n.at

abbrev pub first_gone : List Text → List Number → List Text → List Spotted
first_gone known mine [] = []
first_gone known mine (s ∷ gone) = at_new (changed_number s) (first_new known mine) ∷ []

-- as many are gone as are new, and one that is gone is above 2
abbrev pub are_changed : List Text → List Text → Bool
are_changed gone new = length gone == length new && list_any is_great gone

abbrev pub numbers_beside : List Text → List Text → List Spotted
numbers_beside texts others =
    let mine = numbers texts in
    let known = digits_of (numbers others) in
    let gone = without known (digits_of mine) in
    if are_changed gone (without (digits_of mine) known) then first_gone known mine gone else []
