-- A list of patterns by their names, once one more pattern was added.
use Rattle.std.proofs.Common.{◌≡◌, ◌∙◌, ℕ, zero, suc, ◌+◌, ◌<◌, Bool, true, false, ◌&&◌, if◌then◌else◌, List, [], ◌∷◌, ◌++◌, length, Option, Some, None, option_map, refl, ap, sym, arith}
use Rattle.std.specs.Str.{bytes_eq}
use Rattle.std.specs.Cmp.Lexicographic.{same_text}
use Rattle.std.proofs.lemmas.List.Elements.{All-nil, All-cons, All-append}
use Rattle.std.proofs.lemmas.List.{map-append}
use Rattle.std.specs.Prelude.{is_some}
use Rattle.std.specs.Option.{unwrap_or}
use Rattle.fluent_ast.specs.Borrowed.{elements_of}
use Rattle.fluent_grammar.specs.Words.{Text}
use Rattle.fluent_grammar.specs.Tree.{Elements}
use Rattle.fluent_value.specs.Matching.{same_bool, same_option}
use Rattle.lint_findings.specs.Endless.{is_pattern_among}
use Rattle.lint_nodes.specs.declared.entered.EnteredPattern.{EnteredPattern}
use Rattle.lint_nodes.specs.declared.indices.Indices.{Indices}
use Rattle.lint_nodes.specs.IndicesView.{index_of, same_names, GetsIndex}
use Rattle.lint_nodes.specs.Holding.{pattern_at, patterns_of, Named, Holds, or_else, with_pattern}

first_of_both : (a b : Bool) → (a && b) ≡ true → a ≡ true
first_of_both true b e = refl
first_of_both false b e = absurd cc

second_of_both : (a b : Bool) → (a && b) ≡ true → b ≡ true
second_of_both true b e = e
second_of_both false b e = absurd cc

pub bools_are : (s t : Bool) → same_bool s t ≡ true → s ≡ t
bools_are true true e = refl
bools_are true false e = absurd cc
bools_are false true e = absurd cc
bools_are false false e = refl

attributes_are : (a b : Option Text) → same_option bytes_eq a b ≡ true → a ≡ b
attributes_are None None e = refl
attributes_are None (Some b) e = absurd cc
attributes_are (Some a) None e = absurd cc
attributes_are (Some a) (Some b) e = ap Some (same_text a b (sym e))

-- what is said of names holds of the same names
pub names_are : (P : Bool → Text → Option Text → Type 0) (s : Bool) (j : Text) (b : Option Text) (t : Bool) (i : Text) (a : Option Text) → same_names s j b t i a ≡ true → P s j b → P t i a
names_are P s j b t i a e h =
    let kinds : s ≡ t = bools_are s t (first_of_both (same_bool s t) _ e) in
    let rest : (bytes_eq j i && same_option bytes_eq b a) ≡ true = second_of_both (same_bool s t) _ e in
    let ids : j ≡ i = same_text j i (sym (first_of_both (bytes_eq j i) _ rest)) in
    let attributes : b ≡ a = attributes_are b a (second_of_both (bytes_eq j i) _ rest) in
    rw (← kinds, ← ids, ← attributes) h

pub or_none : (o : Option Elements) → or_else o None ≡ o
or_none None = refl
or_none (Some es) = refl

some_stays : (v : ℕ) (ps : List Elements) (o : Option ℕ) (n p : Option Elements) → o ≡ Some v → option_map (pattern_at ps) o ≡ n → n ≡ or_else n p
some_stays v ps o None p is at = absurd (let bad : option_map (pattern_at ps) (Some v) ≡ None = ap (option_map (pattern_at ps)) (sym is) ∙ at in cc)
some_stays v ps o (Some es) p is at = refl

none_gives : (ps : List Elements) (o : Option ℕ) (n p : Option Elements) → o ≡ None → option_map (pattern_at ps) o ≡ n → or_else n p ≡ p
none_gives ps o None p is at = refl
none_gives ps o (Some es) p is at = absurd (let bad : option_map (pattern_at ps) None ≡ Some es = ap (option_map (pattern_at ps)) (sym is) ∙ at in cc)

at_end : (ps : List Elements) (es : Elements) → pattern_at (ps ++ es ∷ []) (length ps) ≡ es
at_end [] es = refl
at_end (p ∷ ps) es = at_end ps es

before_end : (ps : List Elements) (es : Elements) (v : ℕ) → v < length ps → pattern_at (ps ++ es ∷ []) v ≡ pattern_at ps v
before_end [] es v h = absurd (omega arith)
before_end (p ∷ ps) es zero h = refl
before_end (p ∷ ps) es (suc v) h = before_end ps es v (omega arith)

one_longer : (ps : List Elements) (es : Elements) → length (ps ++ es ∷ []) ≡ length ps + 1
one_longer [] es = omega arith
one_longer (p ∷ ps) es = let rest = one_longer ps es in omega arith

module _ (others : List Elements) (ps : List Elements) (named : Named) (s : Bool) (j : Text) (b : Option Text) (es : Elements) where
  -- the names have a pattern already
  module _ (old new : Indices) (v : ℕ) (holds : Holds others old ps named) (is : index_of old s j b ≡ Some v) (gets : GetsIndex old new s j b v) where
    found_by : (t : Bool) (i : Text) (a : Option Text) → same_names s j b t i a ≡ true → index_of old t i a ≡ Some v
    found_by t i a e = names_are (λ t' i' a'. index_of old t' i' a' ≡ Some v) s j b t i a e is

    there_by : (t : Bool) (i : Text) (a : Option Text) (c : Bool) → same_names s j b t i a ≡ c → named t i a ≡ or_else (named t i a) (if c then Some es else None)
    there_by t i a true e = some_stays v ps (index_of old t i a) (named t i a) (Some es) (found_by t i a e) (holds.at t i a)
    there_by t i a false e = sym (or_none (named t i a))

    same_by : (t : Bool) (i : Text) (a : Option Text) (c : Bool) → same_names s j b t i a ≡ c → (if c then Some v else index_of old t i a) ≡ index_of old t i a
    same_by t i a true e = sym (found_by t i a e)
    same_by t i a false e = refl

    same : (t : Bool) (i : Text) (a : Option Text) → index_of new t i a ≡ index_of old t i a
    same t i a = gets t i a ∙ same_by t i a (same_names s j b t i a) refl

    pub already : Holds others new ps (with_pattern s j b es named)
    already = record {
      within = λ t i a w found. holds.within t i a w (sym (same t i a) ∙ found);
      at = λ t i a. ap (option_map (pattern_at ps)) (same t i a) ∙ holds.at t i a ∙ there_by t i a (same_names s j b t i a) refl;
      known = holds.known;
    }

  -- they get one
  module _ (old new : Indices) (holds : Holds others old ps named) (is : index_of old s j b ≡ None) (gets : GetsIndex old new s j b (length ps)) (among : is_pattern_among es others ≡ true) where
    within_by : (t : Bool) (i : Text) (a : Option Text) (v : ℕ) (c : Bool) → same_names s j b t i a ≡ c → (if c then Some (length ps) else index_of old t i a) ≡ Some v → v < length (ps ++ es ∷ [])
    within_by t i a v true e found = let same : length ps ≡ v = cc in let long = one_longer ps es in omega arith
    within_by t i a v false e found = let inner : v < length ps = holds.within t i a v found in let long = one_longer ps es in omega arith

    old_stay : (o : Option ℕ) → ((v : ℕ) → o ≡ Some v → v < length ps) → option_map (pattern_at (ps ++ es ∷ [])) o ≡ option_map (pattern_at ps) o
    old_stay None inner = refl
    old_stay (Some v) inner = ap Some (before_end ps es v (inner v refl))

    at_by : (t : Bool) (i : Text) (a : Option Text) (c : Bool) → same_names s j b t i a ≡ c →
        option_map (pattern_at (ps ++ es ∷ [])) (if c then Some (length ps) else index_of old t i a) ≡ or_else (named t i a) (if c then Some es else None)
    at_by t i a true e =
        let free : index_of old t i a ≡ None = names_are (λ t' i' a'. index_of old t' i' a' ≡ None) s j b t i a e is in
        ap Some (at_end ps es) ∙ sym (none_gives ps (index_of old t i a) (named t i a) (Some es) free (holds.at t i a))
    at_by t i a false e = old_stay (index_of old t i a) (holds.within t i a) ∙ holds.at t i a ∙ sym (or_none (named t i a))

    pub one_more : Holds others new (ps ++ es ∷ []) (with_pattern s j b es named)
    one_more = record {
      within = λ t i a v found. within_by t i a v (same_names s j b t i a) refl (sym (gets t i a) ∙ found);
      at = λ t i a. ap (option_map (pattern_at (ps ++ es ∷ []))) (gets t i a) ∙ at_by t i a (same_names s j b t i a) refl;
      known = All-append (λ x. is_pattern_among x others ≡ true) ps (es ∷ []) holds.known (All-cons (λ x. is_pattern_among x others ≡ true) es [] among (All-nil (λ x. is_pattern_among x others ≡ true)));
    }

pub pushed : (xs zs : List EnteredPattern) (p : EnteredPattern) → zs ≡ xs ++ p ∷ [] → patterns_of zs ≡ patterns_of xs ++ elements_of p.pattern.now ∷ []
pushed xs zs p is = ap patterns_of is ∙ map-append (λ (q : EnteredPattern). elements_of q.pattern.now) xs (p ∷ [])

-- the names were new if they got the index after all others
pub new_names : (o : Option ℕ) (n found : ℕ) → ((v : ℕ) → o ≡ Some v → v < n) → found ≡ unwrap_or o n → found ≡ n → o ≡ None
new_names None n found below is last = refl
new_names (Some v) n found below is last = absurd (let inside : v < n = below v refl in let here : found ≡ v = is in omega (arith, inside, here, last))

-- and otherwise they weren't
pub known_names : (o : Option ℕ) (n found : ℕ) → found ≡ unwrap_or o n → (found ≡ n → ⊥) → o ≡ Some found
known_names None n found is apart = absurd (apart is)
known_names (Some v) n found is apart = ap Some (sym is)

-- an index has a pattern
pub has_pattern : (ps : List Elements) (o : Option ℕ) (p : Option Elements) → option_map (pattern_at ps) o ≡ p → is_some o ≡ true → is_some p ≡ true
has_pattern ps None p at e = absurd cc
has_pattern ps (Some v) p at e = ap is_some (sym at)
