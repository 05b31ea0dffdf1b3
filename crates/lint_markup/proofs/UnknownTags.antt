-- Elements and names that aren't known, tag by tag.
use Rattle.std.proofs.Common.{◌≡◌, ◌∙◌, ℕ, ◌+◌, ◌<◌, Bool, true, false, ◌||◌, if◌then◌else◌, List, [], ◌∷◌, ◌++◌, length, map, drop, get_or, Option, Some, None, refl, ap, sym, add-one, drop-cons}
use Rattle.std.specs.Str.{bytes_eq}
use Rattle.fluent_grammar.specs.Words.{Text, is_among}
use Rattle.lint_findings.specs.Comparison.{union}
use Rattle.lint_findings.specs.Doubts as d
use Rattle.lint_findings.specs.Markup as m
use Rattle.lint_findings.specs.Tags as t
use Rattle.lint_nodes.specs.HasNames.{HasNames, is_in_set}
use Rattle.lint_nodes.specs.declared.name_set.Names.{Names}
use Rattle.lint_markup.specs.InCode.{AreNames, said, spotted_views, tag_view, tags_of, texts_in}
use Rattle.lint_markup.specs.declared.spotted.Spotted.{Spotted}
use Rattle.lint_markup.specs.declared.tags.Tag.{Tag}
use Rattle.lint_markup.proofs.Listed.{first_said}
use Rattle.lint_markup.proofs.Known.{Same, among_both, or_comm, or_nil}

same_more : (y : Text) (xs ys : List Text) → Same xs ys → Same (y ∷ xs) (y ∷ ys)
same_more y xs ys same x = ap (λ b. bytes_eq y x || b) (same x)

-- a name that is added
pub same_added : (seen : List Text) (y : Text) → Same (union seen (y ∷ [])) (y ∷ seen)
same_added seen y x =
    among_both x seen (y ∷ [])
    ∙ ap (λ b. is_among x seen || b) (or_nil (bytes_eq y x))
    ∙ or_comm (is_among x seen) (bytes_eq y x)

-- ---- elements

module _ (known : List Text) where
  pub elements_any_order : (xs ys : List Text) (ts : List t.Tag) → Same xs ys → m.unknown_elements known xs ts ≡ m.unknown_elements known ys ts
  elements_any_order xs ys [] same = refl
  elements_any_order xs ys (tag ∷ ts) same =
      by (is_among tag.element known) (is_among tag.element xs) (is_among tag.element ys) (same tag.element)
      (elements_any_order xs ys ts same) (elements_any_order (tag.element ∷ xs) (tag.element ∷ ys) ts (same_more tag.element xs ys same))
    where
      by : (k a b : Bool) → a ≡ b → m.unknown_elements known xs ts ≡ m.unknown_elements known ys ts →
          m.unknown_elements known (tag.element ∷ xs) ts ≡ m.unknown_elements known (tag.element ∷ ys) ts →
          (if k || a then m.unknown_elements known xs ts else d.spotted_at tag.at (d.unknown_element known tag.element) ∷ m.unknown_elements known (tag.element ∷ xs) ts)
          ≡ (if k || b then m.unknown_elements known ys ts else d.spotted_at tag.at (d.unknown_element known tag.element) ∷ m.unknown_elements known (tag.element ∷ ys) ts)
      by true a b e old new = old
      by false true true e old new = old
      by false false false e old new = ap (λ xs. d.spotted_at tag.at (d.unknown_element known tag.element) ∷ xs) new
      by false true false e old new = absurd cc
      by false false true e old new = absurd cc

  pub elements_front : (xs : List Tag) (i : ℕ) (default : Tag) → i < length xs → (seen : List Text) →
      m.unknown_elements known seen (tags_of (drop i xs)) ≡ m.unknown_elements known seen (tag_view (get_or xs i default) ∷ tags_of (drop (i + 1) xs))
  elements_front xs i default inside seen = ap (λ ys. m.unknown_elements known seen (tags_of ys)) (drop-cons xs i default inside) ∙ rw add-one refl

by_sets : (known seen : Names) (xs : List Text) (x : Text) (b : Bool) → AreNames known → HasNames seen xs → (is_in_set known x || is_in_set seen x) ≡ b →
    (is_among x (texts_in known) || is_among x xs) ≡ b
by_sets known seen xs x b are has h =
    ap (λ k. k || is_among x xs) (sym (are.known x)) ∙ ap (λ s. is_in_set known x || s) (sym (has.known x)) ∙ h

module _ (known seen : Names) (xs : List Text) (tag : t.Tag) (ts : List t.Tag) where
  abbrev names : List Text
  names = texts_in known

  abbrev element : d.Spotted
  element = d.spotted_at tag.at (d.unknown_element names tag.element)

  -- it is known, or was seen
  pub element_skipped : (found : List Spotted) → AreNames known → HasNames seen xs → (is_in_set known tag.element || is_in_set seen tag.element) ≡ true →
      spotted_views found ++ map said (m.unknown_elements (texts_in known) xs ts) ≡ spotted_views found ++ map said (m.unknown_elements (texts_in known) xs (tag ∷ ts))
  element_skipped found are has h =
      ap (λ (ds : List d.Spotted). spotted_views found ++ map said ds)
      (sym (ap (λ b. if b then m.unknown_elements names xs ts else element ∷ m.unknown_elements names (tag.element ∷ xs) ts) (by_sets known seen xs tag.element true are has h)))

  pub element_added : (old new : List Spotted) → AreNames known → HasNames seen xs → (is_in_set known tag.element || is_in_set seen tag.element) ≡ false →
      spotted_views new ≡ spotted_views old ++ map said (d.spotted_at tag.at (d.unknown_element (texts_in known) tag.element) ∷ []) →
      spotted_views new ++ map said (m.unknown_elements (texts_in known) (union xs (tag.element ∷ [])) ts) ≡ spotted_views old ++ map said (m.unknown_elements (texts_in known) xs (tag ∷ ts))
  element_added old new are has h added =
      first_said (element ∷ []) (m.unknown_elements names (union xs (tag.element ∷ [])) ts) (m.unknown_elements names xs (tag ∷ ts)) old new
      (ap (λ b. if b then m.unknown_elements names xs ts else element ∷ m.unknown_elements names (tag.element ∷ xs) ts) (by_sets known seen xs tag.element false are has h)
      ∙ ap (λ ys. element ∷ ys) (sym (elements_any_order names (union xs (tag.element ∷ [])) (tag.element ∷ xs) ts (same_added xs tag.element))))
      added

-- ---- names

module _ (known : List Text) where
  same_if : (xs ys : List Text) (tag : t.Tag) (name : Option Text) → Same xs ys → m.if_unknown known xs tag name ≡ m.if_unknown known ys tag name
  same_if xs ys tag None same = refl
  same_if xs ys tag (Some n) same = ap (λ b. if is_among n known || b then [] else d.spotted_at tag.at (d.unknown_name known n) ∷ []) (same n)

  same_with : (xs ys : List Text) (name : Option Text) → Same xs ys → Same (m.seen_with xs name) (m.seen_with ys name)
  same_with xs ys None same = same
  same_with xs ys (Some n) same = same_more n xs ys same

  pub names_any_order : (xs ys : List Text) (ts : List t.Tag) → Same xs ys → m.unknown_names known xs ts ≡ m.unknown_names known ys ts
  names_any_order xs ys [] same = refl
  names_any_order xs ys (tag ∷ ts) same =
      ap (λ s. s ++ m.unknown_names known (m.seen_with xs (t.tag_name tag)) ts) (same_if xs ys tag (t.tag_name tag) same)
      ∙ ap (λ s. m.if_unknown known ys tag (t.tag_name tag) ++ s)
      (names_any_order (m.seen_with xs (t.tag_name tag)) (m.seen_with ys (t.tag_name tag)) ts (same_with xs ys (t.tag_name tag) same))

  pub names_front : (xs : List Tag) (i : ℕ) (default : Tag) → i < length xs → (seen : List Text) →
      m.unknown_names known seen (tags_of (drop i xs)) ≡ m.unknown_names known seen (tag_view (get_or xs i default) ∷ tags_of (drop (i + 1) xs))
  names_front xs i default inside seen = ap (λ ys. m.unknown_names known seen (tags_of ys)) (drop-cons xs i default inside) ∙ rw add-one refl

module _ (known seen : Names) (xs : List Text) (tag : t.Tag) (ts : List t.Tag) where
  abbrev of_name : Option Text → List d.Spotted
  of_name name = m.if_unknown (texts_in known) xs tag name ++ m.unknown_names (texts_in known) (m.seen_with xs name) ts

  -- it has no name
  pub nameless : (found : List Spotted) → t.tag_name tag ≡ None →
      spotted_views found ++ map said (m.unknown_names (texts_in known) xs ts) ≡ spotted_views found ++ map said (m.unknown_names (texts_in known) xs (tag ∷ ts))
  nameless found h = ap (λ (ds : List d.Spotted). spotted_views found ++ map said ds) (sym (ap of_name h))

  abbrev one_name : Text → Bool → List d.Spotted
  one_name n b = if b then [] else d.spotted_at tag.at (d.unknown_name (texts_in known) n) ∷ []

  pub name_added : (n : Text) (old new : List Spotted) → AreNames known → HasNames seen xs → t.tag_name tag ≡ Some n →
      spotted_views new ≡ spotted_views old ++ map said (if is_in_set known n || is_in_set seen n then [] else d.spotted_at tag.at (d.unknown_name (texts_in known) n) ∷ []) →
      spotted_views new ++ map said (m.unknown_names (texts_in known) (union xs (n ∷ [])) ts) ≡ spotted_views old ++ map said (m.unknown_names (texts_in known) xs (tag ∷ ts))
  name_added n old new are has h added =
      first_said (one_name n (is_in_set known n || is_in_set seen n)) (m.unknown_names (texts_in known) (union xs (n ∷ [])) ts) (m.unknown_names (texts_in known) xs (tag ∷ ts)) old new
      (ap of_name h
      ∙ ap (λ b. one_name n b ++ m.unknown_names (texts_in known) (n ∷ xs) ts) (by_sets known seen xs n (is_in_set known n || is_in_set seen n) are has refl)
      ∙ ap (λ ys. one_name n (is_in_set known n || is_in_set seen n) ++ ys) (sym (names_any_order (texts_in known) (union xs (n ∷ [])) (n ∷ xs) ts (same_added xs n))))
      added
