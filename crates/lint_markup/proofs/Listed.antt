-- The tags of a list, one after the other: their elements and names, and what is said of each.
use Rattle.std.proofs.Common.{◌≡◌, ◌∙◌, ℕ, suc, Bool, true, false, ◌||◌, Some, if◌then◌else◌, String, string_bytes, ◌+◌, ◌<◌, List, [], ◌∷◌, ◌++◌, length, map, drop, take, get_or, refl, ap, sym, add-one, drop-cons, append_assoc, Bor}
use Rattle.std.specs.Global.{Global}
use Rattle.std.specs.List.{count_by, filter, flat_map, list_any}
use Rattle.std.proofs.lemmas.List.Sums.{length-filter}
use Rattle.std.specs.Str.{bytes_eq}
use Rattle.std.specs.Option.{option_to_list}
use Rattle.std.proofs.lemmas.List.{append-nil, get_or_default, map-append}
use Rattle.std.proofs.lemmas.List.Concat.{flat_map-append}
use Rattle.fluent_ast.proofs.Copied.{map-take_more}
use Rattle.fluent_grammar.specs.Words.{Text}
use Rattle.lint_nodes.specs.HasNames.{texts}
use Rattle.lint_nodes.proofs.Unions.{union-append}
use Rattle.lint_findings.specs.Comparison.{union}
use Rattle.lint_findings.specs.Doubts as d
use Rattle.lint_findings.specs.Markup as m
use Rattle.lint_findings.specs.Tags as t
use Rattle.lint_markup.specs.InCode.{said, spotted_views, tag_view, tags_of, texts_of}
use Rattle.lint_markup.specs.declared.spotted.Spotted.{Spotted}
use Rattle.lint_markup.specs.declared.tags.Tag.{Tag}

-- ---- elements and names, each once

module _ (xs : List Tag) (i : ℕ) (default : Tag) (inside : i < length xs) where
  abbrev item : Tag
  item = get_or xs i default

  is : item ≡ get_or xs i item
  is = get_or_default xs i default item inside

  pub one_element : m.elements_of_tags (tags_of (take (i + 1) xs)) ≡ union (m.elements_of_tags (tags_of (take i xs))) ((get_or xs i default).element.now ∷ [])
  one_element =
      ap m.elements_of_tags (map-take_more tag_view xs i item inside is)
      ∙ ap (union []) (map-append (λ (tag : t.Tag). tag.element) (tags_of (take i xs)) (tag_view item ∷ []))
      ∙ union-append [] (map (λ (tag : t.Tag). tag.element) (tags_of (take i xs))) (item.element.now ∷ [])

  abbrev names_in : List t.Tag → List Text
  names_in ts = flat_map (λ tag. option_to_list (t.tag_name tag)) ts

  pub one_name : m.names_of_tags (tags_of (take (i + 1) xs)) ≡ union (m.names_of_tags (tags_of (take i xs))) (option_to_list (t.tag_name (tag_view (get_or xs i default))))
  one_name =
      let last = option_to_list (t.tag_name (tag_view item)) in
      ap m.names_of_tags (map-take_more tag_view xs i item inside is)
      ∙ ap (union []) (flat_map-append (λ tag. option_to_list (t.tag_name tag)) (tags_of (take i xs)) (tag_view item ∷ []) ∙ ap (λ ys. names_in (tags_of (take i xs)) ++ ys) (append-nil last))
      ∙ union-append [] (names_in (tags_of (take i xs))) last

-- ---- what is said of one thing after the other

-- what was added, then what is left
pub first_said : (here rest all : List d.Spotted) (old new : List Spotted) → all ≡ here ++ rest → spotted_views new ≡ spotted_views old ++ map said here →
    spotted_views new ++ map said rest ≡ spotted_views old ++ map said all
first_said here rest all old new is added =
    ap (λ xs. xs ++ map said rest) added
    ∙ append_assoc (spotted_views old) (map said here) (map said rest)
    ∙ ap (λ xs. spotted_views old ++ xs) (sym (map-append said here rest) ∙ sym (ap (map said) is))

-- two lists of doubts, one after the other
pub both_said : (first second : List d.Spotted) (old mid new : List Spotted) → spotted_views mid ≡ spotted_views old ++ map said first → spotted_views new ≡ spotted_views mid ++ map said second →
    spotted_views new ≡ spotted_views old ++ map said (first ++ second)
both_said first second old mid new one two = two ∙ first_said first second (first ++ second) old mid refl one

-- of the next name
pub one_said : (rule : Text → List d.Spotted) (names : List (Bor Text)) (i : ℕ) (default : Bor Text) (old new : List Spotted) →
    i < length names → spotted_views new ≡ spotted_views old ++ map said (rule (get_or names i default).now) →
    spotted_views new ++ map said (flat_map rule (texts (drop (i + 1) names))) ≡ spotted_views old ++ map said (flat_map rule (texts (drop i names)))
one_said rule names i default old new inside added =
    let here = rule (get_or names i default).now in
    let rest = flat_map rule (texts (drop (i + 1) names)) in
    let all : flat_map rule (texts (drop i names)) ≡ here ++ rest = ap (λ xs. flat_map rule (texts xs)) (drop-cons names i default inside) ∙ rw add-one refl in
    first_said here rest (flat_map rule (texts (drop i names))) old new all added

-- ---- how many tags pass

one_counted : (p : t.Tag → Bool) (b : Bool) (x : Tag) (xs : List Tag) → p (tag_view x) ≡ b → length (filter (λ (y : Tag). p (tag_view y)) xs) ≡ length (filter p (tags_of xs)) →
    length (filter (λ (y : Tag). p (tag_view y)) (x ∷ xs)) ≡ length (filter p (tags_of (x ∷ xs)))
one_counted p true x xs e h = rw e (ap suc h)
one_counted p false x xs e h = rw e h

passing : (p : t.Tag → Bool) (xs : List Tag) → length (filter (λ (x : Tag). p (tag_view x)) xs) ≡ length (filter p (tags_of xs))
passing p [] = refl
passing p (x ∷ xs) = one_counted p (p (tag_view x)) x xs refl (passing p xs)

pub tags_counted : (p : t.Tag → Bool) (xs : List Tag) → count_by (λ x. p (tag_view x)) xs ≡ length (filter p (tags_of xs))
tags_counted p xs = sym (length-filter (λ (x : Tag). p (tag_view x)) xs) ∙ passing p xs

-- ---- texts that close an element, one after the other

pub uneven_here : (x : Text) (xs : List (String Global)) (i : ℕ) (item : String Global) → i < length xs → item ≡ get_or xs i item → m.is_even x (string_bytes item) ≡ false →
    m.unbalanced x (texts_of (drop i xs)) ≡ m.unbalanced_in x (t.tags_in (string_bytes item))
uneven_here x xs i item inside is e =
    let rest = m.unbalanced x (texts_of (drop (suc i) xs)) in
    ap (λ ys. m.unbalanced x (texts_of ys)) (drop-cons xs i item inside)
    ∙ ap (λ (s : String Global). if m.is_even x (string_bytes s) then rest else m.unbalanced_in x (t.tags_in (string_bytes s))) (sym is)
    ∙ ap (λ (b : Bool). if b then rest else m.unbalanced_in x (t.tags_in (string_bytes item))) e

-- ---- a list of tags, without what was passed

module _ (xs : List Tag) (i : ℕ) (default : Tag) (inside : i < length xs) where
  tags_left : tags_of (drop i xs) ≡ tag_view (get_or xs i default) ∷ tags_of (drop (i + 1) xs)
  tags_left = ap tags_of (drop-cons xs i default inside) ∙ rw add-one refl

  -- none that passes was passed
  pub none_passed : (p : t.Tag → Bool) → p (tag_view (get_or xs i default)) ≡ false → list_any p (tags_of (drop (i + 1) xs)) ≡ list_any p (tags_of (drop i xs))
  none_passed p h = sym (ap (list_any p) tags_left ∙ ap (λ b. b || list_any p (tags_of (drop (i + 1) xs))) h)

  pub one_passes : (p : t.Tag → Bool) → p (tag_view (get_or xs i default)) ≡ true → list_any p (tags_of (drop i xs)) ≡ true
  one_passes p h = ap (list_any p) tags_left ∙ ap (λ b. b || list_any p (tags_of (drop (i + 1) xs))) h

  -- the first tag of an element
  pub first_later : (x : Text) → bytes_eq x (get_or xs i default).element.now ≡ false → m.first_of x (tags_of (drop (i + 1) xs)) ≡ m.first_of x (tags_of (drop i xs))
  first_later x h =
      let rest = m.first_of x (tags_of (drop (i + 1) xs)) in
      sym (ap (m.first_of x) tags_left ∙ ap (λ (b : Bool). if b then Some (tag_view (get_or xs i default)) else rest) h)

  pub first_here : (x : Text) → bytes_eq x (get_or xs i default).element.now ≡ true → m.first_of x (tags_of (drop i xs)) ≡ Some (tag_view (get_or xs i default))
  first_here x h =
      let rest = m.first_of x (tags_of (drop (i + 1) xs)) in
      ap (m.first_of x) tags_left ∙ ap (λ (b : Bool). if b then Some (tag_view (get_or xs i default)) else rest) h
