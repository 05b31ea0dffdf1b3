-- The steps of reading an entry.
use Rattle.std.proofs.Common.{◌≡◌, suc, ◌<◌, Bool, true, false, cond, List, [], ◌∷◌, ◌++◌, length, drop, refl, sym, ap, ◌∙◌, arith, subst, Some, None, append_assoc}
use Rattle.fluent_grammar.specs.Words.{Text, number_sign, hyphen, dot, equals, begins_with, skip_spaces}
use Rattle.fluent_grammar.specs.Refusal.{Reading, got, refused, refuse, mapped, ◌>>=◌}
use Rattle.fluent_grammar.specs.Refusal as r
use Rattle.fluent_grammar.specs.Tree as t
use Rattle.fluent_grammar.specs.Lines.{value_of}
use Rattle.fluent_grammar.specs.Reading.{identifier_at, readers, pattern_at, attribute_of, attribute_at, attributes_at, more_attributes, head_at, message_at, term_entry_at, comment_at, entry_at}
use Rattle.fluent_grammar.proofs.Within.{end-same, end-le, end-spaces}
use Rattle.fluent_grammar.proofs.Taken.{Leaves, attribute-leaves}
use Rattle.fluent_grammar.proofs.Repeated.{attributes_need_no_more_steps, begins-some}
use Rattle.fluent_parser.specs.Reads.{whole, byte_at, Refuses, Fails}
use Rattle.fluent_parser.specs.Steps.{pattern_by}
use Rattle.fluent_parser.specs.Entries.{Head, head_by, attribute_with, attribute_by, attribute_or_none, next_attribute_by, attributes_left, attributes_by, message_by, term_by}
use Rattle.fluent_parser.specs.declared.fault.Fault.{Fault}
use Rattle.fluent_parser.specs.declared.fault.Fault.TheVariants as fault
use Rattle.fluent_parsed.specs.declared.errors.ErrorKind.{ErrorKind}
use Rattle.fluent_parser.proofs.Whole.{whole-pattern}

abbrev equals_if : Bool → Text → Reading (Unit {0})
equals_if b u = cond b (got tt (drop 1 u)) (refuse (r.expected_token equals) u)

after_equals : (u : Text) (b : Bool) → begins_with equals u ≡ b → b ≡ true → pattern_at (readers (suc (length u))) (drop 1 u) ≡ pattern_at whole (drop 1 u)
after_equals u b e f = whole-pattern (suc (length u)) (drop 1 u) (omega (arith, begins-some equals u (e ∙ f)))

module _ {A : Type 0} (k : Text → t.Elements → Text → Reading A) (next : Head × Text → Reading A) (same : (id : Text) (v : t.Elements) (rest : Text) → k id v rest ≡ next (record { id = id; value = value_of v }, rest)) where
  by_value : (id : Text) (p : Reading t.Elements) → (p >>= (λ v. k id v.0 v.1)) ≡ (mapped (λ value. let h : Head = record { id = id; value = value } in h) (mapped value_of p) >>= next)
  by_value id (got v rest) = same id v rest
  by_value id (refused f) = refl

  by_equals : (b : Bool) (id u : Text) → begins_with equals u ≡ b →
      cond b (pattern_at (readers (suc (length u))) (drop 1 u) >>= (λ v. k id v.0 v.1)) (refuse (r.expected_token equals) u)
      ≡ ((equals_if b u >>= (λ w. mapped (λ value. let h : Head = record { id = id; value = value } in h) (pattern_by w.1))) >>= next)
  by_equals true id u e = ap (λ (p : Reading t.Elements). p >>= (λ v. k id v.0 v.1)) (after_equals u true e refl) ∙ by_value id (pattern_at whole (drop 1 u))
  by_equals false id u e = refl

  by_head : (x : Reading Text) →
      (x >>= (λ id. let u = skip_spaces id.1 in cond (begins_with equals u) (pattern_at (readers (suc (length u))) (drop 1 u) >>= (λ v. k id.0 v.0 v.1)) (refuse (r.expected_token equals) u)))
      ≡ ((x >>= (λ id. byte_at equals (skip_spaces id.1) >>= (λ u. mapped (λ value. let h : Head = record { id = id.0; value = value } in h) (pattern_by u.1)))) >>= next)
  by_head (got id rest) = by_equals (begins_with equals (skip_spaces rest)) id (skip_spaces rest) refl
  by_head (refused f) = refl

attribute_same : (id : Text) (v : t.Elements) (rest : Text) → attribute_of id v rest ≡ attribute_with id (value_of v) rest
attribute_same id t.no_elements rest = refl
attribute_same id (t.text x es) rest = refl
attribute_same id (t.placeable x es) rest = refl

pub attribute_is : (s : Text) → attribute_at s ≡ attribute_by s
unfolding attribute_at attribute_by head_by
attribute_is s = by_head attribute_of (λ h. attribute_with h.0.id h.0.value h.1) attribute_same (identifier_at (drop 1 (skip_spaces s)))

module _ {A : Type 0} (k : (Text × t.Elements) × Text → Reading A) (next : Head × Text → Reading A) (same : (id : Text) (v : t.Elements) (rest : Text) → k ((id, v), rest) ≡ next (record { id = id; value = value_of v }, rest)) where
  pair_value : (id : Text) (p : Reading t.Elements) → (mapped (λ value. (id, value)) p >>= k) ≡ (mapped (λ value. let h : Head = record { id = id; value = value } in h) (mapped value_of p) >>= next)
  pair_value id (got v rest) = same id v rest
  pair_value id (refused f) = refl

  pair_equals : (b : Bool) (id u : Text) → begins_with equals u ≡ b →
      (cond b (mapped (λ value. (id, value)) (pattern_at (readers (suc (length u))) (drop 1 u))) (refuse (r.expected_token equals) u) >>= k)
      ≡ ((equals_if b u >>= (λ w. mapped (λ value. let h : Head = record { id = id; value = value } in h) (pattern_by w.1))) >>= next)
  pair_equals true id u e = ap (λ (p : Reading t.Elements). mapped (λ value. (id, value)) p >>= k) (after_equals u true e refl) ∙ pair_value id (pattern_at whole (drop 1 u))
  pair_equals false id u e = refl

  pair_head : (x : Reading Text) →
      ((x >>= (λ id. let u = skip_spaces id.1 in cond (begins_with equals u) (mapped (λ value. (id.0, value)) (pattern_at (readers (suc (length u))) (drop 1 u))) (refuse (r.expected_token equals) u))) >>= k)
      ≡ ((x >>= (λ id. byte_at equals (skip_spaces id.1) >>= (λ u. mapped (λ value. let h : Head = record { id = id.0; value = value } in h) (pattern_by u.1)))) >>= next)
  pair_head (got id rest) = pair_equals (begins_with equals (skip_spaces rest)) id (skip_spaces rest) refl
  pair_head (refused f) = refl

pub message_is : (s : Text) → message_at s ≡ message_by s
unfolding message_at head_at message_by head_by attributes_by attributes_left
message_is s = pair_head _ _ (λ id v rest. refl) (identifier_at s)

pub term_is : (s : Text) → term_entry_at s ≡ term_by s
unfolding term_entry_at head_at term_by head_by attributes_by attributes_left
term_is s = pair_head _ _ (λ id v rest. refl) (identifier_at (drop 1 s))

pub entry_is_term : (s : Text) → begins_with number_sign s ≡ false → begins_with hyphen s ≡ true → entry_at s ≡ term_by s
unfolding entry_at
entry_is_term s a b = ap (λ (p : Bool). cond p (comment_at s) (cond (begins_with hyphen s) (term_entry_at s) (message_at s))) a ∙ ap (λ (p : Bool). cond p (term_entry_at s) (message_at s)) b ∙ term_is s

pub entry_is_message : (s : Text) → begins_with number_sign s ≡ false → begins_with hyphen s ≡ false → entry_at s ≡ message_by s
unfolding entry_at
entry_is_message s a b = ap (λ (p : Bool). cond p (comment_at s) (cond (begins_with hyphen s) (term_entry_at s) (message_at s))) a ∙ ap (λ (p : Bool). cond p (term_entry_at s) (message_at s)) b ∙ message_is s

pub term_entry_fails : (e : Fault) (rest s : Text) → begins_with number_sign s ≡ false → begins_with hyphen s ≡ true → Fails e rest (term_by s) → Fails e rest (entry_at s)
term_entry_fails e rest s a b h = subst (Fails e rest) (sym (entry_is_term s a b)) h

pub message_entry_fails : (e : Fault) (rest s : Text) → begins_with number_sign s ≡ false → begins_with hyphen s ≡ false → Fails e rest (message_by s) → Fails e rest (entry_at s)
message_entry_fails e rest s a b h = subst (Fails e rest) (sym (entry_is_message s a b)) h

-- attributes
pub record NextAttribute (s : Text) (a : t.Attribute) (rest : Text) : Type 0 where
  pub left : attributes_left s ≡ (a ∷ (attributes_left rest).0, (attributes_left rest).1)
  pub shorter : length rest < length s

pub record NoAttribute (s rest : Text) : Type 0 where
  pub same : rest ≡ s
  pub left : attributes_left s ≡ ([], s)

got_some : (s : Text) (x : Reading t.Attribute) (a : t.Attribute) (rest : Text) → attribute_or_none s x ≡ got (Some a) rest → x ≡ got a rest
got_some s (got b u) a rest e = let f : b ≡ a = cc in let g : u ≡ rest = cc in ap (λ (z : t.Attribute). got z u) f ∙ ap (got a) g
got_some s (refused f) a rest e = absurd cc

step_by : (s : Text) (a : t.Attribute) (rest : Text) → begins_with dot (skip_spaces s) ≡ true → attribute_at s ≡ got a rest → NextAttribute s a rest
unfolding attributes_left attributes_at
step_by [] a rest b e = absurd cc
step_by (c ∷ cs) a rest b e =
    let s = c ∷ cs in
    let leaves : Leaves (got a rest) (drop 1 (skip_spaces s)) = subst (λ (x : Reading t.Attribute). Leaves x (drop 1 (skip_spaces s))) e (attribute-leaves s (end-same (drop 1 (skip_spaces s)))) in
    let less : length rest < length s = omega (arith, end-le leaves.parts, begins-some dot (skip_spaces s) b, end-le (end-spaces (end-same s))) in
    record {
      left = ap (λ (p : Bool). cond p (more_attributes (attributes_at (length cs)) s (attribute_at s)) ([], s)) b
          ∙ ap (more_attributes (attributes_at (length cs)) s) e
          ∙ ap (λ (o : List t.Attribute × Text). (a ∷ o.0, o.1)) (attributes_need_no_more_steps (length cs) (length rest) rest (omega (arith, less)) (omega arith));
      shorter = less;
    }

next_some : (b : Bool) (s : Text) (a : t.Attribute) (rest : Text) → begins_with dot (skip_spaces s) ≡ b → cond b (attribute_or_none s (attribute_by s)) (got None s) ≡ got (Some a) rest → NextAttribute s a rest
next_some true s a rest t e = step_by s a rest t (attribute_is s ∙ got_some s (attribute_by s) a rest e)
next_some false s a rest t e = absurd cc

pub next_attribute_is : (s : Text) (a : t.Attribute) (rest : Text) → next_attribute_by s ≡ got (Some a) rest → NextAttribute s a rest
unfolding next_attribute_by
next_attribute_is s a rest e = next_some (begins_with dot (skip_spaces s)) s a rest refl e

stop_by : (b : Bool) (s : Text) (x : Reading t.Attribute) (left : Text → List t.Attribute × Text) (rest : Text) → cond b (attribute_or_none s x) (got None s) ≡ got None rest → (rest ≡ s) × (cond b (more_attributes left s x) ([], s) ≡ ([], s))
stop_by true s (got a u) left rest e = absurd cc
stop_by true s (refused f) left rest e = (cc, refl)
stop_by false s x left rest e = (cc, refl)

pub no_attribute_is : (s rest : Text) → next_attribute_by s ≡ got None rest → NoAttribute s rest
unfolding next_attribute_by attributes_left attributes_at
no_attribute_is [] rest e = record { same = (stop_by false [] (attribute_by []) (λ u. ([], u)) rest e).0; left = refl }
no_attribute_is (c ∷ cs) rest e =
    let p = stop_by (begins_with dot (skip_spaces (c ∷ cs))) (c ∷ cs) (attribute_by (c ∷ cs)) (attributes_at (length cs)) rest e in
    record { same = p.0; left = ap (λ (x : Reading t.Attribute). cond (begins_with dot (skip_spaces (c ∷ cs))) (more_attributes (attributes_at (length cs)) (c ∷ cs) x) ([], c ∷ cs)) (attribute_is (c ∷ cs)) ∙ p.1 }

never_refused : (b : Bool) (kind : ErrorKind) (rest s : Text) (x : Reading t.Attribute) → Refuses kind rest (cond b (attribute_or_none s x) (got None s)) → ⊥
never_refused true kind rest s (got a u) h = h
never_refused true kind rest s (refused f) h = h
never_refused false kind rest s x h = h

-- the next attribute is missing for memory alone
pub next_attribute_fails : {A : Type 0} (e : Fault) (rest s : Text) (x : Reading A) → Fails e rest (next_attribute_by s) → Fails e rest x
unfolding next_attribute_by
next_attribute_fails fault.Memory rest s x h = tt
next_attribute_fails fault.TooDeep rest s x h = tt
next_attribute_fails (fault.Refused kind) rest s x h = absurd (never_refused (begins_with dot (skip_spaces s)) kind rest s (attribute_by s) h)

-- no attribute was read yet
pub attributes_begin : (s : Text) (none : List t.Attribute) → none ≡ [] → attributes_by s ≡ got (none ++ (attributes_left s).0) (attributes_left s).1
unfolding attributes_by
attributes_begin s none e = ap (λ (l : List t.Attribute). got (l ++ (attributes_left s).0) (attributes_left s).1) (sym e)

pub attributes_go_on : (s u rest : Text) (old new : List t.Attribute) (a : t.Attribute) → new ≡ old ++ a ∷ [] → next_attribute_by u ≡ got (Some a) rest
    → attributes_by s ≡ got (old ++ (attributes_left u).0) (attributes_left u).1 → attributes_by s ≡ got (new ++ (attributes_left rest).0) (attributes_left rest).1
attributes_go_on s u rest old new a e next before =
    let n = next_attribute_is u a rest next in
    before ∙ ap (λ (o : List t.Attribute × Text). got (old ++ o.0) o.1) n.left
    ∙ ap (λ (l : List t.Attribute). got l (attributes_left rest).1) (sym (append_assoc old (a ∷ []) (attributes_left rest).0))
    ∙ ap (λ (l : List t.Attribute). got (l ++ (attributes_left rest).0) (attributes_left rest).1) (sym e)

nothing_more : (l : List t.Attribute) → l ++ [] ≡ l
nothing_more [] = refl
nothing_more (x ∷ xs) = ap (λ (ys : List t.Attribute). x ∷ ys) (nothing_more xs)

pub attributes_end : (s u rest : Text) (old : List t.Attribute) → next_attribute_by u ≡ got None rest
    → attributes_by s ≡ got (old ++ (attributes_left u).0) (attributes_left u).1 → attributes_by s ≡ got old rest
attributes_end s u rest old next before =
    let n = no_attribute_is u rest next in
    before ∙ ap (λ (o : List t.Attribute × Text). got (old ++ o.0) o.1) n.left ∙ ap (λ (l : List t.Attribute). got l u) (nothing_more old) ∙ ap (got old) (sym n.same)
