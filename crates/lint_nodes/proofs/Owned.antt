-- A list of patterns by their names, once those of an entry were added.
use Rattle.std.proofs.Common.{◌≡◌, ◌∙◌, ℕ, ◌+◌, ◌<◌, Bor, take, Bool, true, false, ◌&&◌, if◌then◌else◌, List, [], ◌∷◌, ◌++◌, length, map, Option, Some, None, refl, ap, sym, arith, get_or}
use Rattle.std.specs.List.{All}
use Rattle.std.specs.Prelude.{is_some, not}
use Rattle.std.specs.Str.{bytes_eq}
use Rattle.std.specs.Cmp.Lexicographic.{same_text}
use Rattle.std.specs.Option.{option_to_list}
use Rattle.std.proofs.lemmas.List.{get_or-map, length-map, map_more}
use Rattle.std.proofs.lemmas.List.Elements.{All-head}
use Rattle.fluent_ast.specs.Borrowed.{attribute_of, attributes_of}
use Rattle.fluent_ast.specs.declared.Attribute.{Attribute}
use Rattle.lint_findings.proofs.Lists.{all_right}
use Rattle.fluent_grammar.specs.Words.{Text}
use Rattle.fluent_grammar.specs.Tree as t
use Rattle.fluent_grammar.specs.Tree.{Elements}
use Rattle.fluent_meaning.specs.Ids.{attribute_named}
use Rattle.fluent_value.specs.Matching.{same_bool}
use Rattle.lint_nodes.specs.declared.entered.EnteredPatterns.{EnteredPatterns}
use Rattle.lint_nodes.specs.declared.indices.Indices.{Indices}
use Rattle.lint_nodes.specs.IndicesView.{same_names}
use Rattle.lint_nodes.specs.Holding.{Named, Holds, IsListed, IsWhole, has_first, or_else, own_pattern, with_pattern, with_entry}
use Rattle.lint_nodes.proofs.Held.{bools_are, names_are, or_none}

-- the same names may be given in another way
pub renamed : (others : List Elements) (indices : Indices) (ps : List Elements) (named other : Named) → ((t : Bool) (i : Text) (a : Option Text) → named t i a ≡ other t i a) → Holds others indices ps named → Holds others indices ps other
renamed others indices ps named other same holds = record {
  within = holds.within;
  at = λ t i a. holds.at t i a ∙ same t i a;
  known = holds.known;
}

or_in_turn : (n p q : Option Elements) → or_else (or_else n p) q ≡ or_else n (or_else p q)
or_in_turn None p q = refl
or_in_turn (Some es) p q = refl

none_either : (b : Bool) (n : Option Elements) → n ≡ or_else n (if b then None else None)
none_either true n = sym (or_none n)
none_either false n = sym (or_none n)

module _ (s : Bool) (j : Text) (named : Named) where
  -- an entry without patterns
  pub no_value : (t : Bool) (i : Text) (a : Option Text) → named t i a ≡ with_entry s j None [] named t i a
  no_value t i None = none_either (same_bool s t && bytes_eq j i) (named t i None)
  no_value t i (Some x) = none_either (same_bool s t && bytes_eq j i) (named t i (Some x))

  value_by : (b c : Bool) (n : Option Elements) (es : Elements) → or_else n (if b && (c && true) then Some es else None) ≡ or_else n (if b && c then Some es else None)
  value_by true true n es = refl
  value_by true false n es = refl
  value_by false c n es = refl

  others_by : (b c : Bool) (n : Option Elements) (es : Elements) → or_else n (if b && (c && false) then Some es else None) ≡ or_else n (if b && c then None else None)
  others_by true true n es = refl
  others_by true false n es = refl
  others_by false c n es = refl

  -- the value alone
  pub value_first : (es : Elements) (t : Bool) (i : Text) (a : Option Text) → with_pattern s j None es named t i a ≡ with_entry s j (Some es) [] named t i a
  value_first es t i None = value_by (same_bool s t) (bytes_eq j i) (named t i None) es
  value_first es t i (Some x) = others_by (same_bool s t) (bytes_eq j i) (named t i (Some x)) es

  named_step : (b : Bool) (a x : t.Attribute) (o p : Option Elements) → p ≡ or_else o (if b then Some x.value else None) → (c : Bool) → (if c then Some a.value else p) ≡ or_else (if c then Some a.value else o) (if b then Some x.value else None)
  named_step b a x o p e true = refl
  named_step b a x o p e false = e

  named_more : (y : Text) (as' : List t.Attribute) (x : t.Attribute) → attribute_named y (as' ++ x ∷ []) ≡ or_else (attribute_named y as') (if bytes_eq x.id y then Some x.value else None)
  named_more y [] x = refl
  named_more y (a ∷ as') x = named_step (bytes_eq x.id y) a x (attribute_named y as') (attribute_named y (as' ++ x ∷ [])) (named_more y as' x) (bytes_eq a.id y)

  more_by : (b c d : Bool) (n o p : Option Elements) (es : Elements) → p ≡ or_else o (if d then Some es else None) →
      or_else (or_else n (if b && c then o else None)) (if b && (c && d) then Some es else None) ≡ or_else n (if b && c then p else None)
  more_by true true d n o p es e = or_in_turn n o (if d then Some es else None) ∙ ap (or_else n) (sym e)
  more_by true false d n o p es e = or_none (or_else n None)
  more_by false c d n o p es e = or_none (or_else n None)

  -- an attribute more
  pub attribute_more : (value : Option Elements) (as' : List t.Attribute) (x : t.Attribute) (t : Bool) (i : Text) (a : Option Text) →
      with_pattern s j (Some x.id) x.value (with_entry s j value as' named) t i a ≡ with_entry s j value (as' ++ x ∷ []) named t i a
  attribute_more value as' x t i None = more_by (same_bool s t) (bytes_eq j i) false (named t i None) value value x.value (sym (or_none value))
  attribute_more value as' x t i (Some y) = more_by (same_bool s t) (bytes_eq j i) (bytes_eq x.id y) (named t i (Some y)) (attribute_named y as') (attribute_named y (as' ++ x ∷ [])) x.value (named_more y as' x)

-- ---- an entry of which a pattern is there

module _ (s : Bool) (j : Text) (v : Option Elements) (as' : List t.Attribute) (named : Named) (whole : IsWhole s j v as' named) (a : Option Text) (there : is_some (named s j a) ≡ true) where
  stays_by : (t : Bool) (i : Text) (b : Option Text) (c d : Bool) → same_bool s t ≡ c → bytes_eq j i ≡ d → named t i b ≡ or_else (named t i b) (if c && d then own_pattern v as' b else None)
  stays_by t i b true true k e =
      let kinds : s ≡ t = bools_are s t k in
      let ids : j ≡ i = same_text j i (sym e) in
      rw (← kinds, ← ids) (sym (whole a b there))
  stays_by t i b true false k e = sym (or_none (named t i b))
  stays_by t i b false d k e = sym (or_none (named t i b))

  stays : (t : Bool) (i : Text) (b : Option Text) → named t i b ≡ with_entry s j v as' named t i b
  stays t i b = stays_by t i b (same_bool s t) (bytes_eq j i) refl refl

  value_stays_by : (es : Elements) → v ≡ Some es → (t : Bool) (i : Text) (b : Option Text) (c : Bool) → same_names s j None t i b ≡ c → or_else (named t i b) (if c then Some es else None) ≡ named t i b
  value_stays_by es is t i b true e =
      let at : or_else (named s j None) (Some es) ≡ named s j None = ap (or_else (named s j None)) (sym is) ∙ whole a None there in
      names_are (λ t' i' b'. or_else (named t' i' b') (Some es) ≡ named t' i' b') s j None t i b e at
  value_stays_by es is t i b false e = or_none (named t i b)

  module _ (others : List Elements) (indices : Indices) (ps : List Elements) where
    pub all_there : Holds others indices ps named → Holds others indices ps (with_entry s j v as' named)
    all_there = renamed others indices ps named (with_entry s j v as' named) stays

    pub value_there : (es : Elements) → v ≡ Some es → Holds others indices ps (with_pattern s j None es named) → Holds others indices ps (with_entry s j v as' named)
    value_there es is =
        renamed others indices ps (with_pattern s j None es named) (with_entry s j v as' named)
        (λ t i b. value_stays_by es is t i b (same_names s j None t i b) refl ∙ stays t i b)

pub not_new : (b : Bool) → not b ≡ true → b ≡ false
not_new true e = absurd cc
not_new false e = refl

pub first_listed : (found : EnteredPatterns) (s : Bool) (j : Text) (as' : List t.Attribute) → has_first found s j as' ≡ true → IsListed found s j
first_listed found s j [] e = absurd cc
first_listed found s j (x ∷ xs) e = (Some x.id, e)

-- ---- the loop over the attributes

module _ (others : List Elements) (indices : Indices) (ps : List Elements) (named : Named) (s : Bool) (j : Text) (v : Option Elements) where
  pub begin_value : (es : Elements) → v ≡ Some es → Holds others indices ps (with_pattern s j None es named) → Holds others indices ps (with_entry s j v [] named)
  begin_value es e holds = rw e (renamed others indices ps (with_pattern s j None es named) (with_entry s j (Some es) [] named) (value_first s j named es) holds)

  pub begin_none : v ≡ None → Holds others indices ps named → Holds others indices ps (with_entry s j v [] named)
  begin_none e holds = rw e (renamed others indices ps named (with_entry s j None [] named) (no_value s j named) holds)

  pub next : (xs : List (Attribute (Bor Text))) (i : ℕ) (item : Attribute (Bor Text)) → i < length xs → item ≡ get_or xs i item →
      Holds others indices ps (with_pattern s j (Some (attribute_of item).id) (attribute_of item).value (with_entry s j v (attributes_of (take i xs)) named)) →
      Holds others indices ps (with_entry s j v (attributes_of (take (i + 1) xs)) named)
  next xs i item inside is holds =
      let more : attributes_of (take (i + 1) xs) ≡ attributes_of (take i xs) ++ attribute_of item ∷ [] = map_more attribute_of xs i item inside ∙ ap (λ y. attributes_of (take i xs) ++ attribute_of y ∷ []) (sym is) in
      rw more (renamed others indices ps _ (with_entry s j v (attributes_of (take i xs) ++ attribute_of item ∷ []) named) (attribute_more s j named v (attributes_of (take i xs)) (attribute_of item)) holds)

pub value_known : (P : Elements → Type 0) (v : Option Elements) (es : Elements) (rest : List Elements) → v ≡ Some es → All P (option_to_list v ++ rest) → P es
value_known P v es rest e h = All-head P es rest (rw e at h)

abbrev value_of : t.Attribute → Elements
value_of a = a.value

pub attribute_known : (P : Elements → Type 0) (v : Option Elements) (xs : List (Attribute (Bor Text))) (i : ℕ) (item : Attribute (Bor Text)) → i < length xs → item ≡ get_or xs i item →
    All P (option_to_list v ++ map value_of (attributes_of xs)) → P (attribute_of item).value
attribute_known P v xs i item inside is h =
    let all : All P (map value_of (attributes_of xs)) = all_right P (option_to_list v) (map value_of (attributes_of xs)) h in
    let plain : length (attributes_of xs) ≡ length xs = length-map xs attribute_of in
    let values : length (map value_of (attributes_of xs)) ≡ length (attributes_of xs) = length-map (attributes_of xs) value_of in
    let at : P (get_or (map value_of (attributes_of xs)) i (attribute_of item).value) = all i (attribute_of item).value (omega arith) in
    let found : get_or (map value_of (attributes_of xs)) i (attribute_of item).value ≡ (attribute_of (get_or xs i item)).value =
    get_or-map value_of (attributes_of xs) i (attribute_of item) (attribute_of item).value (omega arith) ∙ ap value_of (get_or-map attribute_of xs i item (attribute_of item) inside) in
    let same : get_or (map value_of (attributes_of xs)) i (attribute_of item).value ≡ (attribute_of item).value = found ∙ ap (λ y. (attribute_of y).value) (sym is) in
    rw same at at
