-- The properties of a style, part by part.
use Rattle.std.proofs.Common.{◌≡◌, ◌∙◌, ℕ, ◌+◌, ◌<◌, ◌≤◌, Bool, true, false, not, ◌&&◌, if◌then◌else◌, List, ◌++◌, length, map, drop, take, get_or, Option, Some, None, option_map, refl, ap, sym, add-one, drop-cons, append-nil, Bor}
use Rattle.std.specs.Prelude.{◌==◌, option_and_then}
use Rattle.std.specs.List.{list_any}
use Rattle.std.proofs.lemmas.List.{drop_all}
use Rattle.fluent_grammar.specs.Words.{Text, begins_with, colon}
use Rattle.lint_findings.specs.Styles as s
use Rattle.lint_findings.specs.Tags.{skip_blanks}
use Rattle.lint_markup.specs.Pieces.{value_after}

texts : List (Bor Text) → List Text
texts parts = map (λ t. t.now) parts

module _ (old new : List s.Property) (text : Text) (is_read : Bool)
    (adds : (ps : List s.Property) → option_map (λ qs. old ++ qs) (s.add_property text ps) ≡ (if is_read then Some (new ++ ps) else None)) where
  read_by : (later : Option (List s.Property)) → is_read ≡ true → option_map (λ ps. old ++ ps) (option_and_then (s.add_property text) later) ≡ option_map (λ ps. new ++ ps) later
  read_by None h = refl
  read_by (Some ps) h = adds ps ∙ ap (λ b. if b then Some (new ++ ps) else None) h

  unread_by : (later : Option (List s.Property)) → is_read ≡ false → option_map (λ ps. old ++ ps) (option_and_then (s.add_property text) later) ≡ None
  unread_by None h = refl
  unread_by (Some ps) h = adds ps ∙ ap (λ b. if b then Some (new ++ ps) else None) h

module _ (parts : List (Bor Text)) (i : ℕ) (default : Bor Text) (inside : i < length parts) (old : List s.Property) where
  front : s.properties_of (map (λ t. t.now) (drop i parts)) ≡ option_and_then (s.add_property (skip_blanks (get_or parts i default).now)) (s.properties_of (map (λ t. t.now) (drop (i + 1) parts)))
  front = ap (λ (ps : List (Bor Text)). s.properties_of (map (λ t. t.now) ps)) (drop-cons parts i default inside) ∙ rw add-one refl

  -- the next part was read
  pub part_read : (new : List s.Property) (text : Text) (is_read : Bool) → text ≡ skip_blanks (get_or parts i default).now →
      ((ps : List s.Property) → option_map (λ qs. old ++ qs) (s.add_property text ps) ≡ (if is_read then Some (new ++ ps) else None)) → is_read ≡ true →
      option_map (λ ps. new ++ ps) (s.properties_of (map (λ t. t.now) (drop (i + 1) parts))) ≡ option_map (λ ps. old ++ ps) (s.properties_of (map (λ t. t.now) (drop i parts)))
  part_read new text is_read is adds h =
      let later = s.properties_of (map (λ t. t.now) (drop (i + 1) parts)) in
      sym (ap (option_map (λ ps. old ++ ps)) (front ∙ ap (λ u. option_and_then (s.add_property u) later) (sym is)) ∙ read_by old new text is_read adds later h)

  pub part_unread : (new : List s.Property) (text : Text) (is_read : Bool) → text ≡ skip_blanks (get_or parts i default).now →
      ((ps : List s.Property) → option_map (λ qs. old ++ qs) (s.add_property text ps) ≡ (if is_read then Some (new ++ ps) else None)) → is_read ≡ false →
      option_map (λ ps. old ++ ps) (s.properties_of (map (λ t. t.now) (drop i parts))) ≡ None
  part_unread new text is_read is adds h =
      let later = s.properties_of (map (λ t. t.now) (drop (i + 1) parts)) in
      ap (option_map (λ ps. old ++ ps)) (front ∙ ap (λ u. option_and_then (s.add_property u) later) (sym is)) ∙ unread_by old new text is_read adds later h

pub all_read : (parts : List (Bor Text)) (i : ℕ) (old : List s.Property) → length parts ≤ i → option_map (λ ps. old ++ ps) (s.properties_of (map (λ t. t.now) (drop i parts))) ≡ Some old
all_read parts i old end =
    ap (λ (ps : List (Bor Text)). option_map (λ qs. old ++ qs) (s.properties_of (map (λ t. t.now) ps))) (drop_all i parts end) ∙ ap Some (append-nil old)

-- ---- the property at the front

by_tests : {A B : Type 0} (f : A → B) (v : A) (none colons plain : Bool) →
    (if not none && (colons && plain) then Some (f v) else None) ≡ (if none then None else option_map f (if colons then if plain then Some v else None else None))
by_tests f v true colons plain = refl
by_tests f v false true true = refl
by_tests f v false true false = refl
by_tests f v false false plain = refl

module _ (text : Text) (n : ℕ) where
  abbrev made : Text → s.Property
  made v = record { name = take n text; unit = s.unit_of v }

  by_value : s.property_named text n ≡ (if n == 0 then None else option_map made (value_after (skip_blanks (drop n text))))
  by_value =
      let u = skip_blanks (drop n text) in
      let v = skip_blanks (drop 1 u) in
      by_tests made v (n == 0) (begins_with colon u) (not (length v == 0) && not (list_any (λ c. c == colon) v))

  pub unnamed : (n == 0) ≡ true → s.property_named text n ≡ None
  unnamed e = by_value ∙ ap (λ b. if b then None else option_map made (value_after (skip_blanks (drop n text)))) e

  pub valued : (found : Option Text) → (n == 0) ≡ false → value_after (skip_blanks (drop n text)) ≡ found → s.property_named text n ≡ option_map (λ v. record { name = take n text; unit = s.unit_of v }) found
  valued found e h = by_value ∙ ap (λ b. if b then None else option_map made (value_after (skip_blanks (drop n text)))) e ∙ ap (option_map made) h
