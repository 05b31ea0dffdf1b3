-- What a language tag is: a Unicode language identifier (UTS 35, `unicode_language_id`), with `-` or `_` between its parts and letters
-- of either case.
use Rattle.std.specs.Prelude.{ℕ, Bool, true, false, ◌&&◌, ◌||◌, ◌==◌, nat_le, List, [], ◌∷◌, Option, Some, None, if◌then◌else◌, length, map}
use Rattle.std.specs.Char.{to_ascii_lowercase, is_ascii_alphabetic, is_ascii_digit, is_ascii_alphanumeric}
use denote.Ref.{Bor}
use Rattle.fluent_languages.specs.declared.tag.LanguageTag.{LanguageTag}
use Rattle.fluent_languages.specs.declared.variants.Variants.{Variants}

-- a text by its bytes
abbrev pub Text : Type 0
Text = List ℕ

-- `-` (45) and `_` (95)
abbrev pub is_separator : ℕ → Bool
is_separator byte = byte == 45 || byte == 95

-- a byte as it is compared, if separators are the same and case is, too
abbrev pub folded : ℕ → ℕ
folded byte = if is_separator byte then 45 else to_ascii_lowercase byte

-- the parts of a text, between its separators
abbrev pub onto : ℕ → List Text → List Text
onto byte [] = (byte ∷ []) ∷ []
onto byte (part ∷ parts) = (byte ∷ part) ∷ parts

abbrev pub parts : Text → List Text
parts [] = [] ∷ []
parts (byte ∷ text) = if is_separator byte then [] ∷ parts text else onto byte (parts text)

-- the first part alone
abbrev pub first_part : Text → Text
first_part [] = []
first_part (byte ∷ text) = if is_separator byte then [] else byte ∷ first_part text

abbrev pub all_of : {X : Type 0} → (X → Bool) → List X → Bool
all_of test [] = true
all_of test (x ∷ xs) = test x && all_of test xs

-- two, three or five to eight letters
abbrev pub is_language : Text → Bool
is_language part =
    (length part == 2 || length part == 3 || (nat_le 5 (length part) && nat_le (length part) 8)) && all_of is_ascii_alphabetic part

-- four letters
abbrev pub is_script : Text → Bool
is_script part = length part == 4 && all_of is_ascii_alphabetic part

-- two letters or three digits
abbrev pub is_region : Text → Bool
is_region part = (length part == 2 && all_of is_ascii_alphabetic part) || (length part == 3 && all_of is_ascii_digit part)

abbrev pub begins_with_digit : Text → Bool
begins_with_digit [] = false
begins_with_digit (byte ∷ part) = is_ascii_digit byte

-- five to eight letters and digits, or four of which the first is a digit
abbrev pub is_variant : Text → Bool
is_variant part =
    ((nat_le 5 (length part) && nat_le (length part) 8) || (length part == 4 && begins_with_digit part)) && all_of is_ascii_alphanumeric part

-- a part in the place of one that may be there, and the parts after it
abbrev pub taken : (Text → Bool) → List Text → Text
taken test [] = []
taken test (part ∷ parts) = if test part then part else []

abbrev pub left : (Text → Bool) → List Text → List Text
left test [] = []
left test (part ∷ parts) = if test part then parts else part ∷ parts

-- A tag, in small letters. An empty script or region is none.
pub record Tag : Type 0 where
  pub language : Text
  pub script : Text
  pub region : Text
  pub variants : List Text

abbrev pub small : Text → Text
small = map to_ascii_lowercase

-- the tag of a language and of the parts after it: a script, a region and variants, in this order
abbrev pub tag_from : Text → List Text → Option Tag
tag_from language rest =
    if is_language language && all_of is_variant (left is_region (left is_script rest)) then Some (record {
      language = small language;
      script = small (taken is_script rest);
      region = small (taken is_region (left is_script rest));
      variants = map small (left is_region (left is_script rest));
    }) else None

abbrev pub tag_of_parts : List Text → Option Tag
tag_of_parts [] = None
tag_of_parts (language ∷ rest) = tag_from language rest

-- The tag that a text is, if it is one. A longer text is none.
abbrev pub read_tag : Text → Option Tag
read_tag text = if nat_le (length text) 255 then tag_of_parts (parts text) else None

-- what follows the first part: nothing, or a separator and the other parts
abbrev pub more_parts : Text → List Text
more_parts [] = []
more_parts (_ ∷ text) = parts text

-- a text is what follows a part
abbrev pub follows_part : Text → Bool
follows_part [] = true
follows_part (byte ∷ text) = is_separator byte

-- the variants that are left to go through
abbrev pub variants_left : Variants → List Text
variants_left it = more_parts it.rest.now

-- what the code has of a tag
abbrev pub tag_of : LanguageTag → Tag
tag_of tag = record {
  language = small tag.language.now;
  script = small tag.script.now;
  region = small tag.region.now;
  variants = map small (variants_left tag.variants);
}

-- whether two texts are the same, byte by byte
abbrev pub same_text : Text → Text → Bool
same_text [] [] = true
same_text [] (_ ∷ _) = false
same_text (_ ∷ _) [] = false
same_text (x ∷ xs) (y ∷ ys) = x == y && same_text xs ys

abbrev pub same_texts : List Text → List Text → Bool
same_texts [] [] = true
same_texts [] (_ ∷ _) = false
same_texts (_ ∷ _) [] = false
same_texts (x ∷ xs) (y ∷ ys) = same_text x y && same_texts xs ys

abbrev pub is_empty : {X : Type 0} → List X → Bool
is_empty xs = length xs == 0

abbrev pub same_tag : Tag → Tag → Bool
same_tag a b = same_text a.language b.language && same_text a.script b.script && same_text a.region b.region && same_texts a.variants b.variants

-- a part, unless it is left out
abbrev pub named : Text → Option Text
named [] = None
named (byte ∷ part) = Some (byte ∷ part)

-- the first of two that is there
abbrev pub or_else : Text → Text → Text
or_else [] other = other
or_else (byte ∷ text) other = byte ∷ text

abbrev pub texts : List (Bor Text) → List Text
texts = map (λ text. text.now)
