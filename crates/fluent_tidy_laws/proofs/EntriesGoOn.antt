-- Messages and terms go on.
use Rattle.std.proofs.Common.{◌≡◌, ℕ, zero, suc, ◌+◌, ◌≤◌, false, cond, List, [], ◌∷◌, length, drop, Option, Some, None, refl, ap, arith}
use Rattle.std.specs.Prelude.{◌==◌}
use Rattle.fluent_grammar.specs.Words.{Text, number_sign, equals, dot, hyphen, begins_with, skip_spaces}
use Rattle.fluent_grammar.specs.Refusal.{Kind, Reading, got, refused, refuse, mapped, ◌>>=◌}
use Rattle.fluent_grammar.specs.Refusal as kinds
use Rattle.fluent_grammar.specs.Tree as t
use Rattle.fluent_grammar.specs.Lines.{value_of}
use Rattle.fluent_grammar.specs.Reading as g
use Rattle.fluent_grammar.specs.Reading.{readers, entry_at}
use Rattle.fluent_grammar.specs.Levels.{levels}
use Rattle.fluent_grammar.proofs.Cases.{cases}
use Rattle.fluent_grammar.proofs.Within.{end-le, end-drop, end-same}
use Rattle.fluent_grammar.proofs.Depth.{patterns_never_ask_the_bottom}
use Rattle.fluent_grammar.proofs.Repeated.{attributes_need_no_more_steps}
use Rattle.fluent_tidy_laws.proofs.GoingOn.{Next, refused_in, Before, At, at_before, at_next, Equal, equal, Goes, same_got, same_refused, crossed_got, crossed_refused, at-byte, at-drop, before-begins, before-drop, before-spaces, at-spaces, at-block, got-at, refuse-at, mapped-equal, goes-bind, goes-then}
use Rattle.fluent_tidy_laws.proofs.ReadersGoOn.{identifier-goes, pattern-goes, bottom, levels-go}

drop-le : (u : Text) → length (drop 1 u) ≤ length u
drop-le u = end-le (end-drop 1 (end-same u))

-- two lists of attributes, with what is left
record Paired (q next : Text) (x y : List t.Attribute × Text) : Type 0 where
  same : x.0 ≡ y.0
  left : At q next x.1 y.1

module _ {q next : Text} (n : Next q next) where
  pattern-read : (m m' : ℕ) {s s' : Text} → length s ≤ m → length s' ≤ m' → Before q s s' → Goes q next Equal (g.pattern_at (readers m) s) (g.pattern_at (readers m') s')
  pattern-read m m' {s} {s'} h h' b =
      let x : g.pattern_at (readers m) s ≡ g.pattern_at (levels bottom (length s + length s')) s = patterns_never_ask_the_bottom bottom m (length s + length s') s h (omega arith) in
      let y : g.pattern_at (readers m') s' ≡ g.pattern_at (levels bottom (length s + length s')) s' = patterns_never_ask_the_bottom bottom m' (length s + length s') s' h' (omega arith) in
      rw (x, y) (pattern-goes n (levels bottom (length s + length s')) (levels-go n (length s + length s')) b)

  pattern-behind : (u u' : Text) → Before q (drop 1 u) (drop 1 u') → Goes q next Equal (g.pattern_at (readers (suc (length u))) (drop 1 u)) (g.pattern_at (readers (suc (length u'))) (drop 1 u'))
  pattern-behind u u' b = pattern-read (suc (length u)) (suc (length u')) (omega (arith, drop-le u)) (omega (arith, drop-le u')) b

  pub head-goes : {s s' : Text} → Before q s s' → Goes q next Equal (g.head_at s) (g.head_at s')
  unfolding g.head_at
  head-goes h = goes-then _ _ (identifier-goes h) (λ id r r' m. value id m)
    where
      value : (id : Text) {r r' : Text} → Before q r r' → Goes q next {A = Text × t.Elements} Equal
          (cond (begins_with equals (skip_spaces r)) (mapped {B = Text × t.Elements} (λ value. (id, value)) (g.pattern_at (readers (suc (length (skip_spaces r)))) (drop 1 (skip_spaces r)))) (refuse (kinds.expected_token equals) (skip_spaces r)))
          (cond (begins_with equals (skip_spaces r')) (mapped {B = Text × t.Elements} (λ value. (id, value)) (g.pattern_at (readers (suc (length (skip_spaces r')))) (drop 1 (skip_spaces r')))) (refuse (kinds.expected_token equals) (skip_spaces r')))
      value id {r} {r'} m = let u = before-spaces m in cases (begins_with equals (skip_spaces r))
          (λ b. rw (before-begins (λ c. c == equals) u, b) (mapped-equal _ (pattern-behind (skip_spaces r) (skip_spaces r') (before-drop (λ c. c == equals) refl b u))))
          (λ b. rw (before-begins (λ c. c == equals) u, b) (same_refused u))

  attribute_of-goes : (id : Text) (value : t.Elements) {s s' : Text} → At q next s s' → Goes q next Equal (g.attribute_of id value s) (g.attribute_of id value s')
  attribute_of-goes id t.no_elements h = refuse-at h
  attribute_of-goes id (t.text x es) h = got-at _ h
  attribute_of-goes id (t.placeable x es) h = got-at _ h

  attribute-goes : (s s' : Text) → Before q (drop 1 (skip_spaces s)) (drop 1 (skip_spaces s')) → Goes q next Equal (g.attribute_at s) (g.attribute_at s')
  unfolding g.attribute_at
  attribute-goes s s' h = goes-then _ _ (identifier-goes h) (λ id r r' m. value id m)
    where
      value : (id : Text) {r r' : Text} → Before q r r' → Goes q next Equal
          (cond (begins_with equals (skip_spaces r)) (g.pattern_at (readers (suc (length (skip_spaces r)))) (drop 1 (skip_spaces r)) >>= (λ value. g.attribute_of id value.0 value.1)) (refuse (kinds.expected_token equals) (skip_spaces r)))
          (cond (begins_with equals (skip_spaces r')) (g.pattern_at (readers (suc (length (skip_spaces r')))) (drop 1 (skip_spaces r')) >>= (λ value. g.attribute_of id value.0 value.1)) (refuse (kinds.expected_token equals) (skip_spaces r')))
      value id {r} {r'} m = let u = before-spaces m in cases (begins_with equals (skip_spaces r))
          (λ b. rw (before-begins (λ c. c == equals) u, b) (goes-bind _ _ (pattern-behind (skip_spaces r) (skip_spaces r') (before-drop (λ c. c == equals) refl b u)) (λ v w w' o. attribute_of-goes id v o)))
          (λ b. rw (before-begins (λ c. c == equals) u, b) (same_refused u))

  more-goes : {s s' : Text} {x y : Reading t.Attribute} (left : Text → List t.Attribute × Text) → At q next s s' → Goes q next Equal x y → ((u u' : Text) → At q next u u' → Paired q next (left u) (left u')) →
      Paired q next (g.more_attributes left s x) (g.more_attributes left s' y)
  more-goes left h (same_got {a} {rest} {rest'} b) k = let p = k rest rest' (at_before b) in record { same = ap (λ z. a ∷ z) p.same; left = p.left }
  more-goes left h (same_refused b) k = record { same = refl; left = h }
  more-goes left h (crossed_got {a} equal) k = let p = k [] next at_next in record { same = ap (λ z. a ∷ z) p.same; left = p.left }
  more-goes left h (crossed_refused (refused_in b)) k = record { same = refl; left = h }

  attributes-goes : (m : ℕ) {s s' : Text} → At q next s s' → Paired q next (g.attributes_at m s) (g.attributes_at m s')
  unfolding g.attributes_at
  attributes-goes zero h = record { same = refl; left = h }
  attributes-goes (suc m) {s} {s'} h = let u = at-spaces n h in cases (begins_with dot (skip_spaces s))
      (λ b. rw (at-byte n dot refl u, b) (more-goes _ h (attribute-goes s s' (at-drop n dot refl b u)) (λ v v' o. attributes-goes m o)))
      (λ b. rw (at-byte n dot refl u, b) (record { same = refl; left = h }))

  message_of-goes : (id : Text) (value : Option t.Elements) (xs xs' : List t.Attribute) {s s' : Text} → xs ≡ xs' → At q next s s' → Goes q next Equal (g.message_of id value xs s) (g.message_of id value xs' s')
  message_of-goes id value xs xs' e h = rw e (by_parts value xs' h)
    where
      by_parts : (value : Option t.Elements) (xs : List t.Attribute) {s s' : Text} → At q next s s' → Goes q next Equal (g.message_of id value xs s) (g.message_of id value xs s')
      by_parts None [] h = refuse-at h
      by_parts None (a ∷ more) h = got-at _ h
      by_parts (Some v) xs h = got-at _ h

  term_of-goes : (id : Text) (value : Option t.Elements) (xs xs' : List t.Attribute) {s s' : Text} → xs ≡ xs' → At q next s s' → Goes q next Equal (g.term_of id value xs s) (g.term_of id value xs' s')
  term_of-goes id value xs xs' e h = rw e (by_parts value xs' h)
    where
      by_parts : (value : Option t.Elements) (xs : List t.Attribute) {s s' : Text} → At q next s s' → Goes q next Equal (g.term_of id value xs s) (g.term_of id value xs s')
      by_parts None xs h = refuse-at h
      by_parts (Some v) xs h = got-at _ h

  all-attributes : {u u' : Text} → At q next u u' → Paired q next (g.attributes_at (length u) u) (g.attributes_at (length u') u')
  all-attributes {u} {u'} h =
      let x : g.attributes_at (length u) u ≡ g.attributes_at (length u + length u') u = attributes_need_no_more_steps (length u) (length u + length u') u (omega arith) (omega arith) in
      let y : g.attributes_at (length u') u' ≡ g.attributes_at (length u + length u') u' = attributes_need_no_more_steps (length u') (length u + length u') u' (omega arith) (omega arith) in
      rw (x, y) (attributes-goes (length u + length u') h)

  pub message-goes : {s s' : Text} → Before q s s' → Goes q next Equal (g.message_at s) (g.message_at s')
  unfolding g.message_at
  message-goes h = goes-bind _ _ (head-goes h) (λ x r r' m. let p = all-attributes (at-block n m) in message_of-goes x.0 (value_of x.1) _ _ p.same p.left)

  pub term-goes : (s s' : Text) → Before q (drop 1 s) (drop 1 s') → Goes q next Equal (g.term_entry_at s) (g.term_entry_at s')
  unfolding g.term_entry_at
  term-goes s s' h = goes-bind _ _ (head-goes h) (λ x r r' m. let p = all-attributes (at-block n m) in term_of-goes x.0 (value_of x.1) _ _ p.same p.left)

  pub entry-goes : {s s' : Text} → begins_with number_sign s ≡ false → Before q s s' → Goes q next Equal (entry_at s) (entry_at s')
  unfolding entry_at
  entry-goes {s} {s'} e h = cases (begins_with hyphen s)
      (λ b. rw (before-begins (λ c. c == number_sign) h, e, before-begins (λ c. c == hyphen) h, b) (term-goes s s' (before-drop (λ c. c == hyphen) refl b h)))
      (λ b. rw (before-begins (λ c. c == number_sign) h, e, before-begins (λ c. c == hyphen) h, b) (message-goes h))
