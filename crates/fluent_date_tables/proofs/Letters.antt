-- Tags are looked through by their first letter.
use Rattle.std.proofs.Common.{◌≡◌, ◌∙◌, ℕ, Bool, true, false, ◌&&◌, not, ◌==◌, if◌then◌else◌, List, [], ◌∷◌, Option, Some, None, refl, ap, ap₂, sym, map}
use Rattle.std.proofs.lemmas.Bool.{and_parts, eqb-true, eq-eqb}
use Rattle.std.specs.Char.{encode_utf8}
use Rattle.fluent_plurals.specs.Lookup.{begins_with_tag, folded}
use Rattle.fluent_date_tables.specs.Letters.{lettered}
use Rattle.fluent_date_tables.specs.Tables.{Tagged, Text, at_letter, first_folded, first_in, first_of, or_else}
use Rattle.fluent_date_tables.specs.Tags.{tags_a, tags_b, tags_c, tags_d, tags_e, tags_f, tags_g, tags_h, tags_i, tags_j, tags_k, tags_l, tags_m, tags_n, tags_o, tags_p, tags_q, tags_r, tags_s, tags_t, tags_u, tags_v, tags_w, tags_x, tags_y, tags_z, row_for}

-- whether each tag begins with a letter
abbrev begins_by : ℕ → Text → Bool
begins_by letter [] = false
begins_by letter (byte ∷ tag) = byte == letter

abbrev all_begin_by : ℕ → List Tagged → Bool
all_begin_by letter [] = true
all_begin_by letter (tagged ∷ tags) = begins_by letter tagged.0 && all_begin_by letter tags

-- whether no list is of a letter
abbrev is_without : ℕ → List (ℕ × List Tagged) → Bool
is_without letter [] = true
is_without letter (of ∷ more) = not (letter == of.0) && is_without letter more

-- whether lists are of their letters, each of another one
abbrev are_lettered : List (ℕ × List Tagged) → Bool
are_lettered [] = true
are_lettered (of ∷ more) = all_begin_by of.0 of.1 && (is_without of.0 more && are_lettered more)

other_letter : (test : Bool) (byte letter first : ℕ) → (byte == first) ≡ test → (byte == letter) ≡ true → (first == letter) ≡ false → test ≡ false
other_letter false byte letter first is own other = refl
other_letter true byte letter first is own other =
    let same : first ≡ letter = sym (eqb-true byte first is) ∙ eqb-true byte letter own in
    absurd (let no : false ≡ true = sym other ∙ eq-eqb first letter same in cc)

begins_not : (letter : ℕ) (tag text : Text) → begins_by letter tag ≡ true → (first_folded text == letter) ≡ false → begins_with_tag tag text ≡ false
begins_not letter [] text own other = absurd (let no : false ≡ true = own in cc)
begins_not letter (byte ∷ tag) [] own other = refl
begins_not letter (byte ∷ tag) (c ∷ text) own other =
    ap (λ test. test && begins_with_tag tag text) (other_letter (byte == folded c) byte letter (folded c) refl own other)

-- no tag of another letter fits
none_of : (letter : ℕ) (tags : List Tagged) (text : Text) → all_begin_by letter tags ≡ true → (first_folded text == letter) ≡ false → first_of tags text ≡ None
none_of letter [] text own other = refl
none_of letter (tagged ∷ tags) text own other =
    let both = and_parts (begins_by letter tagged.0) (all_begin_by letter tags) own in
    ap₂ (λ test row. if test then Some tagged.1 else row) (begins_not letter tagged.0 text both.0 other) (none_of letter tags text both.1 other)

abbrev lists_of : List (ℕ × List Tagged) → List (List Tagged)
lists_of lists = map (λ of. of.1) lists

not_true : (test : Bool) → not test ≡ true → test ≡ false
not_true true h = absurd (let no : false ≡ true = h in cc)
not_true false h = refl

-- no tag of lists without its letter fits
none_among : (letter : ℕ) (lists : List (ℕ × List Tagged)) (text : Text)
    → are_lettered lists ≡ true → is_without letter lists ≡ true → first_folded text ≡ letter → first_in (lists_of lists) text ≡ None
none_among letter [] text own other is = refl
none_among letter (of ∷ more) text own other is =
    let owns = and_parts (all_begin_by of.0 of.1) (is_without of.0 more && are_lettered more) own in
    let others = and_parts (not (letter == of.0)) (is_without letter more) other in
    let differs = ap (λ first. first == of.0) is ∙ not_true (letter == of.0) others.0 in
    ap₂ or_else (none_of of.0 of.1 text owns.0 differs)
    (none_among letter more text (and_parts (is_without of.0 more) (are_lettered more) owns.1).1 others.1 is)

or_none : (row : Option ℕ) → row ≡ or_else row None
or_none None = refl
or_none (Some row) = refl

letter_test : (test : Bool) (letter : ℕ) (tags : List Tagged) (more : List (ℕ × List Tagged)) (text : Text)
    → (first_folded text == letter) ≡ test → are_lettered ((letter, tags) ∷ more) ≡ true
    → at_letter more (first_folded text) text ≡ first_in (lists_of more) text
    → (if test then first_of tags text else at_letter more (first_folded text) text) ≡ or_else (first_of tags text) (first_in (lists_of more) text)
letter_test true letter tags more text is own rest =
    let owns = and_parts (is_without letter more) (are_lettered more) (and_parts (all_begin_by letter tags) (is_without letter more && are_lettered more) own).1 in
    or_none (first_of tags text)
    ∙ ap (or_else (first_of tags text)) (sym (none_among letter more text owns.1 owns.0 (eqb-true (first_folded text) letter is)))
letter_test false letter tags more text is own rest =
    let owns = and_parts (all_begin_by letter tags) (is_without letter more && are_lettered more) own in
    rest ∙ ap (λ row. or_else row (first_in (lists_of more) text)) (sym (none_of letter tags text owns.0 is))

-- the list of the text's first letter is enough
at_its_letter : (lists : List (ℕ × List Tagged)) (text : Text)
    → are_lettered lists ≡ true → at_letter lists (first_folded text) text ≡ first_in (lists_of lists) text
at_its_letter [] text own = refl
at_its_letter (of ∷ more) text own =
    let owns = and_parts (all_begin_by of.0 of.1) (is_without of.0 more && are_lettered more) own in
    letter_test (first_folded text == of.0) of.0 of.1 more text refl own
    (at_its_letter more text (and_parts (is_without of.0 more) (are_lettered more) owns.1).1)

all_are_lettered : are_lettered lettered ≡ true
unfolding tags_a tags_b tags_c tags_d tags_e tags_f tags_g tags_h tags_i tags_j tags_k tags_l tags_m tags_n tags_o tags_p tags_q tags_r tags_s tags_t tags_u tags_v tags_w tags_x tags_y tags_z encode_utf8
all_are_lettered = refl

pub row_by_letter : (text : Text) → at_letter lettered (first_folded text) text ≡ row_for text
row_by_letter text = at_its_letter lettered text all_are_lettered
