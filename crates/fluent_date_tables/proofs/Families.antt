-- The tags of a language are looked through by what follows the language in a text.
use Rattle.std.proofs.Common.{◌≡◌, ◌∙◌, ℕ, Bool, true, false, ◌&&◌, ◌==◌, if◌then◌else◌, List, [], ◌∷◌, ◌++◌, Option, Some, None, refl, ap, ap₂, sym}
use Rattle.fluent_plurals.specs.Lookup.{begins_with_tag, ends_here, folded}
use Rattle.fluent_date_tables.specs.Tables.{Tagged, Text, after_tag, all_tags, first_after, first_of, first_row, longer, or_else, row_after, row_in, tags_of, tags_with}
use Rattle.fluent_date_tables.specs.declared.tables.Family as code_family

-- whether what is after a tag begins with another
abbrev fits_after : Text → Option Text → Bool
fits_after tag None = false
fits_after tag (Some rest) = begins_with_tag tag rest

abbrev rest_if : Bool → Option Text → Option Text
rest_if test rest = if test then rest else None

after_test : (test : Bool) (tag : Text) (rest : Option Text) → (test && fits_after tag rest) ≡ fits_after tag (rest_if test rest)
after_test true tag rest = refl
after_test false tag rest = refl

-- a tag of two parts is begun with if the second begins what is after the first
begins_after : (a b text : Text) → begins_with_tag (a ++ b) text ≡ fits_after b (after_tag a text)
begins_after [] b text = refl
begins_after (x ∷ a) b [] = refl
begins_after (x ∷ a) b (y ∷ text) =
    ap (λ more. x == folded y && more) (begins_after a b text) ∙ after_test (x == folded y) b (after_tag a text)

begins_alone : (a text : Text) → begins_with_tag a text ≡ fits_after [] (after_tag a text)
begins_alone [] text = refl
begins_alone (x ∷ a) [] = refl
begins_alone (x ∷ a) (y ∷ text) =
    ap (λ more. x == folded y && more) (begins_alone a text) ∙ after_test (x == folded y) [] (after_tag a text)

abbrev first_in_rest : List Tagged → Option Text → Option ℕ
first_in_rest more None = None
first_in_rest more (Some rest) = first_after more rest

abbrev nothing : Option ℕ
nothing = None

none_if : (test : Bool) → nothing ≡ (if test then nothing else nothing)
none_if true = refl
none_if false = refl

none_after : (rest : Option Text) → nothing ≡ first_in_rest [] rest
none_after None = refl
none_after (Some []) = refl
none_after (Some (sign ∷ text)) = none_if (45 == folded sign)

sign_test : (test fits : Bool) (row : ℕ) (more : Option ℕ)
    → (if test && fits then Some row else (if test then more else None)) ≡ (if test then (if fits then Some row else more) else None)
sign_test true fits row more = refl
sign_test false fits row more = refl

next_after : (tagged : Tagged) (more : List Tagged) (rest : Option Text)
    → (if fits_after (45 ∷ tagged.0) rest then Some tagged.1 else first_in_rest more rest) ≡ first_in_rest (tagged ∷ more) rest
next_after tagged more None = refl
next_after tagged more (Some []) = refl
next_after tagged more (Some (sign ∷ text)) = sign_test (45 == folded sign) (begins_with_tag tagged.0 text) tagged.1 (first_of more text)

-- the longer tags of a language are those that follow it
longer_after : (language : Text) (more : List Tagged) (text : Text) → first_of (longer language more) text ≡ first_in_rest more (after_tag language text)
longer_after language [] text = none_after (after_tag language text)
longer_after language (tagged ∷ more) text =
    ap₂ (λ test row. if test then Some tagged.1 else row) (begins_after language (45 ∷ tagged.0) text) (longer_after language more text)
    ∙ next_after tagged more (after_tag language text)

or_else_if : (test : Bool) (row : ℕ) (more last : Option ℕ)
    → (if test then Some row else or_else more last) ≡ or_else (if test then Some row else more) last
or_else_if true row more last = refl
or_else_if false row more last = refl

-- tags are looked through one list after the other
pub first_of_both : (these those : List Tagged) (text : Text) → first_of (these ++ those) text ≡ or_else (first_of these text) (first_of those text)
first_of_both [] those text = refl
first_of_both (tagged ∷ these) those text =
    ap (λ more. if begins_with_tag tagged.0 text then Some tagged.1 else more) (first_of_both these those text)
    ∙ or_else_if (begins_with_tag tagged.0 text) tagged.1 (first_of these text) (first_of those text)

abbrev rows_after : ℕ → List Tagged → Option Text → Option ℕ
rows_after row more None = None
rows_after row more (Some rest) = row_after row more rest

language_after : (row : ℕ) (more : List Tagged) (rest : Option Text)
    → or_else (first_in_rest more rest) (if fits_after [] rest then Some row else None) ≡ rows_after row more rest
language_after row more None = refl
language_after row more (Some rest) = refl

-- the tags of a language are looked through by what follows its letters in the text
pub family_row : (family : code_family.Family) (text : Text)
    → row_in family text ≡ rows_after family.row (tags_of family.more.now) (after_tag family.language.now text)
unfolding row_in
family_row family text =
    let language = family.language.now in
    let more = tags_of family.more.now in
    first_of_both (longer language more) ((language, family.row) ∷ []) text
    ∙ ap₂ or_else (longer_after language more text) (ap (λ test. if test then Some family.row else None) (begins_alone language text))
    ∙ language_after family.row more (after_tag language text)

-- the tags of languages are looked through language by language
pub all_rows : (families : List code_family.Family) (text : Text) → first_row families text ≡ first_of (all_tags families) text
unfolding row_in
all_rows [] text = refl
all_rows (family ∷ rest) text =
    ap (or_else (row_in family text)) (all_rows rest text) ∙ sym (first_of_both (tags_with family) (all_tags rest) text)
