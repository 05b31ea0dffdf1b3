-- Normal texts of worked sources, by computing.
use Rattle.std.proofs.Common.{◌≡◌, true, false, List, [], ◌∷◌, Some, None, refl, sym, ap, ◌∙◌}
use Rattle.std.specs.Prelude.{codes}
use Rattle.fluent_grammar.specs.Words.{Text}
use Rattle.fluent_grammar.specs.Refusal as r
use Rattle.fluent_grammar.specs.Tree as t
use Rattle.fluent_grammar.specs.Tiling.{tree, errors}
use Rattle.fluent_grammar.specs.Written.{written}
use Rattle.fluent_grammar.proofs.Computing.{computing}
use Rattle.fluent_tidy_laws.specs.Cut.{cut}
use Rattle.fluent_tidy_laws.proofs.Slices.{damage_is_local}
use Rattle.fluent_tidy_laws.specs.Normal.{IsCanonical, IsNormalText}

-- ---- a select by a message's attribute: the source, its normal text, and the tree of both

by_gender : Text
by_gender = codes "brand = Firefox\n    .gender = masculine\nupd = { brand.gender ->\n    [masculine] He\n   *[other] It\n }\n"

by_gender_normally : Text
by_gender_normally = codes "brand = Firefox\n    .gender = masculine\nupd =\n    { brand.gender ->\n        [masculine] He\n       *[other] It\n    }\n"

tree_by_gender : List t.Entry
tree_by_gender =
    t.message (record {
      id = codes "brand";
      value = Some (t.text (codes "Firefox") t.no_elements);
      attributes = record { id = codes "gender"; value = t.text (codes "masculine") t.no_elements } ∷ [];
      comment = None;
    })
    ∷ t.message (record {
      id = codes "upd";
      value = Some (t.placeable (t.select (t.message_reference (codes "brand") (Some (codes "gender")))
          (t.variant (t.identifier_key (codes "masculine")) (t.text (codes "He") t.no_elements) false (t.variant (t.identifier_key (codes "other")) (t.text (codes "It") t.no_elements) true t.no_variants))) t.no_elements);
      attributes = [];
      comment = None;
    }) ∷ []

by_gender-read : tree by_gender ≡ tree_by_gender
unfolding computing by_gender tree_by_gender
by_gender-read = refl

by_gender-whole : errors by_gender ≡ []
unfolding computing by_gender
by_gender-whole = refl

by_gender-written : written tree_by_gender ≡ by_gender_normally
unfolding computing tree_by_gender by_gender_normally
by_gender-written = refl

by_gender_normally-read : tree by_gender_normally ≡ tree_by_gender
unfolding computing by_gender_normally tree_by_gender
by_gender_normally-read = refl

by_gender_normally-whole : errors by_gender_normally ≡ []
unfolding computing by_gender_normally
by_gender_normally-whole = refl

tree_by_gender-canonical : IsCanonical tree_by_gender
tree_by_gender-canonical = record { no_junk = ap errors by_gender-written ∙ by_gender_normally-whole; read_back = ap tree by_gender-written ∙ by_gender_normally-read }

by_gender-cut : tree (cut by_gender) ≡ tree_by_gender
by_gender-cut = ap tree ((damage_is_local by_gender).clean_stays by_gender-whole) ∙ by_gender-read

at : {es fs : List t.Entry} → es ≡ fs → IsCanonical fs → IsCanonical es
at e c = rw e c

by_gender-normal : IsNormalText by_gender by_gender_normally
by_gender-normal = record { canonical = at by_gender-cut tree_by_gender-canonical; is = sym (ap written by_gender-cut ∙ by_gender-written) }

-- ---- a select by a message itself, which no source gives: what is written of it is junk

tree_by_message : List t.Entry
tree_by_message =
    t.message (record {
      id = codes "a";
      value = Some (t.placeable (t.select (t.message_reference (codes "b") None) (t.variant (t.identifier_key (codes "d")) (t.text (codes "e") t.no_elements) true t.no_variants)) t.no_elements);
      attributes = [];
      comment = None;
    }) ∷ []

by_message : Text
by_message = codes "a =\n    { b ->\n       *[d] e\n    }\n"

by_message-written : written tree_by_message ≡ by_message
unfolding computing tree_by_message by_message
by_message-written = refl

by_message-refused : errors by_message ≡ record { kind = r.message_reference_as_selector; pos_start = 12; pos_end = 13; slice_start = 0; slice_end = 35 } ∷ []
unfolding computing by_message
by_message-refused = refl

tree_by_message-not_canonical : IsCanonical tree_by_message → ⊥
tree_by_message-not_canonical c = let none = sym (ap errors by_message-written ∙ by_message-refused) ∙ c.no_junk in absurd cc
