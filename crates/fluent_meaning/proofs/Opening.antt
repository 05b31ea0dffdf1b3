-- A pattern's elements one by one, and a placeable part by part.
use Rattle.std.proofs.Common.{◌≡◌, ℕ, zero, suc, ◌+◌, ◌<◌, ◌≤◌, Bool, true, false, cond, List, [], ◌∷◌, ◌++◌, map, take, get_or, length, nat_lt, refl, ap, sym, subst, ◌∙◌, arith, append_assoc, append-nil}
use Rattle.std.specs.Prelude.{◌&&◌}
use Rattle.std.specs.Char.{encode_utf8}
use Rattle.std.proofs.Math.Seq.{take-suc}
use Rattle.std.proofs.lemmas.Bool.{false≢true}
use Rattle.std.proofs.lemmas.Bool.Decides.{Decides-ltb}
use Rattle.std.proofs.lemmas.List.{map-append, length-map}
use Rattle.fluent_grammar.specs.Words.{Text}
use Rattle.fluent_grammar.specs.Tree.{Elements, Expression}
use Rattle.fluent_ast.specs.View.{Element, text, placeable, elements_of}
use Rattle.fluent_meaning.specs.Environment.{Environment}
use Rattle.fluent_meaning.specs.Fallback.{braced, fallback}
use Rattle.fluent_meaning.specs.Steps.{Budget, may_open, shut, left, is_shut, Done, done, and_then, mapped, beside, opening, opens}
use Rattle.fluent_meaning.specs.Substitution as s
use Rattle.fluent_meaning.specs.Substitution.{Surroundings, Writer, several, rooted, rooted_path}
use Rattle.fluent_meaning.specs.Told.{State, Writes, Finds, after, budget_of}
use Rattle.fluent_meaning.specs.Weight.{elements_weight, expression_weight}
use Rattle.fluent_meaning.proofs.Falls.{Falls}
use Rattle.fluent_meaning.proofs.States.{IsWithin, after-done}
use Rattle.fluent_meaning.proofs.Writing.{writes-as, writes-then, after-then, elements-append}

plus_zero : (n : ℕ) → n + 0 ≡ n
plus_zero n = omega arith

zero_plus : (n : ℕ) → 0 + n ≡ n
zero_plus n = omega arith

one_plus : (n : ℕ) → suc 0 + n ≡ suc n
one_plus n = omega arith

-- a step before one that writes nothing
beside-nothing : (a : Done Text) → beside a (λ c. done [] c) ≡ a
beside-nothing a = λ i. record { value = append-nil a.value i; errors = append-nil a.errors i; budget = a.budget; opened = plus_zero a.opened i; entered = plus_zero a.entered i }

-- a placeable is opened, and then a step
opening-then : {A B : Type 0} (v : A) (b : Budget) (f : A → Budget → Done B) → and_then (opening (done v b)) f ≡ opening (f v b)
opening-then v b f = λ i. record { value = (f v b).value; errors = (f v b).errors; budget = (f v b).budget; opened = one_plus (f v b).opened i; entered = zero_plus (f v b).entered i }

-- the elements up to an index, and the one there
pub up-to : {A : Type 0} (view : A → Element) (xs : List A) (i : ℕ) (x : A) → i < length xs → x ≡ get_or xs i x → elements_of (map view (take i xs) ++ view x ∷ []) ≡ elements_of (map view (take (i + 1) xs))
up-to view xs i x h e =
    let next : suc i ≡ i + 1 = omega arith in
    ap elements_of (ap (λ y. map view (take i xs) ++ view y ∷ []) e ∙ sym (map-append view (take i xs) (get_or xs i x ∷ [])) ∙ ap (map view) (sym (take-suc xs i x h) ∙ ap (λ n. take n xs) next))

module _ {S F : Type 0} (env : Environment S F) (write : Writer env Expression) (whole : Elements) (place : Surroundings S) where
  one-text : (x : Text) (b : Budget) → s.elements_with env write whole (elements_of (text x ∷ [])) place b ≡ s.text_written env x b
  unfolding s.elements_with
  one-text x b = beside-nothing (s.text_written env x b)

  one-placeable : (e : Expression) (b : Budget) → s.elements_with env write whole (elements_of (placeable e ∷ [])) place b ≡ s.placeable_with env write whole e place b
  unfolding s.elements_with
  one-placeable e b = beside-nothing (s.placeable_with env write whole e place b)

  -- one element more
  next-element : (xs : List Element) (y : Element) {held now next : Text} {r u v : State} → Writes held now r u (λ b. s.elements_with env write whole (elements_of xs) place b) → Writes now next u v (λ b. s.elements_with env write whole (elements_of (y ∷ [])) place b) → Writes held next r v (λ b. s.elements_with env write whole (elements_of (xs ++ y ∷ [])) place b)
  next-element xs y {r = r} p q = writes-as _ _ (sym (elements-append env write whole place xs (y ∷ []) r.budget)) (writes-then (λ b. s.elements_with env write whole (elements_of xs) place b) (λ b. s.elements_with env write whole (elements_of (y ∷ [])) place b) p q)

  text-open : (x : Text) (b : Budget) → is_shut b ≡ false → s.text_written env x b ≡ done (env.transformed x) b
  text-open x shut h = absurd (false≢true (sym h))
  text-open x (may_open k) h = refl

  text-writes : (x : Text) (now : Text) (u : State) → IsWithin u → is_shut u.budget ≡ false → Writes now (now ++ env.transformed x) u u (λ b. s.elements_with env write whole (elements_of (text x ∷ [])) place b)
  text-writes x now u w h =
      let is = one-text x u.budget ∙ text-open x u.budget h in record {
        text = ap (λ (d : Done Text). now ++ d.value) (sym is);
        state = sym (after-done {A = Text} (env.transformed x) u w) ∙ ap (λ (d : Done Text). after u d) (sym is);
      }

  -- a text more, where the budget is not shut
  pub text-element : (xs : List Element) (x : Text) {held now next : Text} {r u : State} → Writes held now r u (λ b. s.elements_with env write whole (elements_of xs) place b) → IsWithin u → is_shut u.budget ≡ false → next ≡ now ++ env.transformed x → Writes held next r u (λ b. s.elements_with env write whole (elements_of (xs ++ text x ∷ [])) place b)
  text-element xs x {now = now} {u = u} p w h e =
      next-element xs (text x) p (record { text = e ∙ (text-writes x now u w h).text; state = (text-writes x now u w h).state })

  -- a placeable more
  pub placeable-element : (xs : List Element) (e : Expression) {held now next : Text} {r u v : State} → Writes held now r u (λ b. s.elements_with env write whole (elements_of xs) place b) → Writes now next u v (s.placeable_with env write whole e place) → Writes held next r v (λ b. s.elements_with env write whole (elements_of (xs ++ placeable e ∷ [])) place b)
  placeable-element xs e {u = u} p q = next-element xs (placeable e) p (writes-as _ _ (sym (one-placeable e u.budget)) q)

-- what an element weighs, and what stands after it
weight-head : (y : Element) (e : Expression) (ys : List Element) → y ≡ placeable e → suc (expression_weight e) ≤ elements_weight (elements_of (y ∷ ys))
unfolding elements_weight
weight-head y e ys h =
    let base : suc (expression_weight e) ≤ suc (expression_weight e + elements_weight (elements_of ys)) = omega arith in
    subst (λ z. suc (expression_weight e) ≤ elements_weight (elements_of (z ∷ ys))) (sym h) base

weight-behind : (y : Element) (ys : List Element) → elements_weight (elements_of ys) ≤ elements_weight (elements_of (y ∷ ys))
unfolding elements_weight
weight-behind (text x) ys = omega arith
weight-behind (placeable e) ys = omega arith

-- the placeable at an index weighs less than the pattern
pub weight-at : {A : Type 0} (view : A → Element) (e : Expression) (xs : List A) (i : ℕ) (x : A) → i < length xs → view (get_or xs i x) ≡ placeable e → suc (expression_weight e) ≤ elements_weight (elements_of (map view xs))
weight-at view e [] i x h at = absurd (omega arith)
weight-at view e (y ∷ ys) zero x h at = weight-head (view y) e (map view ys) at
weight-at view e (y ∷ ys) (suc i) x h at =
    let rest = weight-at view e ys i x (omega arith) at in
    let behind = weight-behind (view y) (map view ys) in omega arith

-- a step leaves no more than there was
pub writes-left : {x y : Text} {r u : State} (f : Budget → Done Text) → Writes x y r u f → Falls r.budget (f r.budget) → left u.budget ≤ left r.budget
writes-left {r = r} f p falls = subst (λ (z : State). left z.budget ≤ left r.budget) (sym p.state) falls.le

pub finds-left : {A : Type 0} {x : A} {r u : State} (f : Budget → Done A) → Finds x r u f → Falls r.budget (f r.budget) → left u.budget ≤ left r.budget
finds-left {r = r} f p falls = subst (λ (z : State). left z.budget ≤ left r.budget) (sym p.state) falls.le

-- whether a pattern has several elements, by how long their list is
pub several-long : (xs : List Element) → 1 < length xs → several (elements_of xs) ≡ true
several-long [] h = absurd (omega arith)
several-long (text x ∷ []) h = absurd (omega arith)
several-long (placeable e ∷ []) h = absurd (omega arith)
several-long (text x ∷ text y ∷ ys) h = refl
several-long (text x ∷ placeable y ∷ ys) h = refl
several-long (placeable x ∷ text y ∷ ys) h = refl
several-long (placeable x ∷ placeable y ∷ ys) h = refl

pub several-short : (xs : List Element) → length xs ≤ 1 → several (elements_of xs) ≡ false
several-short [] h = refl
several-short (text x ∷ []) h = refl
several-short (placeable e ∷ []) h = refl
several-short (text x ∷ text y ∷ ys) h = absurd (omega arith)
several-short (text x ∷ placeable y ∷ ys) h = absurd (omega arith)
several-short (placeable x ∷ text y ∷ ys) h = absurd (omega arith)
several-short (placeable x ∷ placeable y ∷ ys) h = absurd (omega arith)

several-by : (xs : List Element) (b : Bool) → b ≡ nat_lt 1 (length xs) → several (elements_of xs) ≡ b
several-by xs true h = several-long xs ((Decides-ltb 1 (length xs)).0 (sym h))
several-by xs false h =
    let never : 1 < length xs → ⊥ = λ l. false≢true (h ∙ (Decides-ltb 1 (length xs)).1 l) in several-short xs (omega (arith, never))

pub several-is : {A : Type 0} (view : A → Element) (xs : List A) (n : ℕ) (b : Bool) → n ≡ length xs → b ≡ nat_lt 1 n → several (elements_of (map view xs)) ≡ b
several-is view xs n b h e = several-by (map view xs) b (e ∙ ap (λ k. nat_lt 1 k) (h ∙ sym (length-map xs view)))

joined : (i z : Bool) (w front back behind : Text) (a : Done Text) → (((w ++ cond i front []) ++ a.value) ++ cond z behind []) ++ cond i back [] ≡ w ++ (opening (cond i (mapped (λ r. front ++ (r ++ back)) (cond z (mapped (λ r. r ++ behind) a) a)) (cond z (mapped (λ r. r ++ behind) a) a))).value
joined true true w front back behind a = simp append_assoc
joined true false w front back behind a = simp (append_assoc, append-nil)
joined false true w front back behind a = simp (append_assoc, append-nil)
joined false false w front back behind a = simp (append_assoc, append-nil)

same-after : (i z : Bool) (front back behind : Text) (r : State) (a : Done Text) → after r (opening a) ≡ after r (opening (cond i (mapped (λ q. front ++ (q ++ back)) (cond z (mapped (λ q. q ++ behind) a) a)) (cond z (mapped (λ q. q ++ behind) a) a)))
same-after true true front back behind r a = refl
same-after true false front back behind r a = refl
same-after false true front back behind r a = refl
same-after false false front back behind r a = refl

module _ {S F : Type 0} (env : Environment S F) (write : Writer env Expression) (whole : Elements) (e : Expression) (place : Surroundings S) where
  abbrev isolates : Bool
  isolates = s.is_isolated env whole e

  abbrev front : Text
  front = encode_utf8 0x2068

  abbrev back : Text
  back = encode_utf8 0x2069

  abbrev behind : Text
  behind = braced (fallback e)

  opened-by : (r : State) (b : Budget) (u v : State) (w0 w1 w2 w3 w4 : Text) (iso : Bool) → r.budget ≡ b → true ≡ (opens b).value → u ≡ after r (opens b) → iso ≡ isolates → w1 ≡ w0 ++ cond iso front [] → Writes w1 w2 u v (write e (rooted whole place)) → w3 ≡ w2 ++ cond (is_shut v.budget) behind [] → w4 ≡ w3 ++ cond iso back [] → Writes w0 w4 r v (s.placeable_with env write whole e place)
  opened-by r shut u v w0 w1 w2 w3 w4 iso at is_open found is_iso e1 p e3 e4 = absurd (false≢true (sym is_open))
  opened-by r (may_open zero) u v w0 w1 w2 w3 w4 iso at is_open found is_iso e1 p e3 e4 = absurd (false≢true (sym is_open))
  opened-by r (may_open (suc k)) u v w0 w1 w2 w3 w4 iso at is_open found is_iso e1 p e3 e4 =
      let f : Budget → Done Text = write e (rooted whole place) in
      let a : Done Text = f (may_open k) in
      let b1 : u.budget ≡ may_open k = ap (λ (x : State). x.budget) found in
      let text2 : w2 ≡ w1 ++ a.value = p.text ∙ ap (λ b. w1 ++ (f b).value) b1 in
      let state2 : v ≡ after r (opening a) = p.state ∙ ap (λ b. after u (f b)) b1 ∙ ap (λ x. after x a) found ∙ after-then r (opening (done true (may_open k))) (λ x c. f c) ∙ ap (after r) (opening-then true (may_open k) (λ x c. f c)) in
      let shut2 : is_shut v.budget ≡ is_shut a.budget = ap (λ (x : State). is_shut x.budget) state2 in
      let texts : w4 ≡ (((w0 ++ cond iso front []) ++ a.value) ++ cond (is_shut v.budget) behind []) ++ cond iso back [] = e4 ∙ ap (λ x. x ++ cond iso back []) (e3 ∙ ap (λ x. x ++ cond (is_shut v.budget) behind []) (text2 ∙ ap (λ x. x ++ a.value) e1)) in
      let same : w4 ≡ (((w0 ++ cond isolates front []) ++ a.value) ++ cond (is_shut a.budget) behind []) ++ cond isolates back [] = texts ∙ ap (λ z. (((w0 ++ cond iso front []) ++ a.value) ++ cond z behind []) ++ cond iso back []) shut2 ∙ ap (λ i. (((w0 ++ cond i front []) ++ a.value) ++ cond (is_shut a.budget) behind []) ++ cond i back []) is_iso in
      let step : Writes w0 w4 r v (λ c. s.placeable_with env write whole e place (may_open (suc k))) = record {
        text = same ∙ joined isolates (is_shut a.budget) w0 front back behind a;
        state = state2 ∙ same-after isolates (is_shut a.budget) front back behind r a;
      } in
      writes-as _ _ (ap (s.placeable_with env write whole e place) (sym at)) step

  -- a placeable that may be opened: its marks, its expression, and its fallback if that ended shut
  pub opened-writes : (r u v : State) (w0 w1 w2 w3 w4 : Text) (iso : Bool) → Finds true r u opens → iso ≡ isolates → w1 ≡ w0 ++ cond iso front [] → Writes w1 w2 u v (write e (rooted whole place)) → w3 ≡ w2 ++ cond (is_shut v.budget) behind [] → w4 ≡ w3 ++ cond iso back [] → Writes w0 w4 r v (s.placeable_with env write whole e place)
  opened-writes r u v w0 w1 w2 w3 w4 iso found = opened-by r r.budget u v w0 w1 w2 w3 w4 iso refl found.value found.state

  closed-text : (z : Bool) (w : Text) (a : Done Text) → (w ++ a.value) ++ cond z behind [] ≡ w ++ (cond z (mapped (λ r. r ++ behind) a) a).value
  closed-text true w a = simp append_assoc
  closed-text false w a = simp (append_assoc, append-nil)

  closed-after : (z : Bool) (r : State) (a : Done Text) → after r a ≡ after r (cond z (mapped (λ q. q ++ behind) a) a)
  closed-after true r a = refl
  closed-after false r a = refl

  -- a placeable that was opened before: its expression, and its fallback if that ended shut
  pub unmarked-writes : (r v : State) (w0 w1 w2 : Text) → Writes w0 w1 r v (write e (rooted whole place)) → w2 ≡ w1 ++ cond (is_shut v.budget) behind [] → Writes w0 w2 r v (s.unmarked_with env write whole e place)
  unmarked-writes r v w0 w1 w2 p h =
      let a : Done Text = write e (rooted whole place) r.budget in
      let shut1 : is_shut v.budget ≡ is_shut a.budget = ap (λ (x : State). is_shut x.budget) p.state in
      record {
        text = h ∙ ap (λ x. x ++ cond (is_shut v.budget) behind []) p.text ∙ ap (λ z. (w0 ++ a.value) ++ cond z behind []) shut1 ∙ closed-text (is_shut a.budget) w0 a;
        state = p.state ∙ closed-after (is_shut a.budget) r a;
      }

-- isolation marks, by its three parts
pub isolated-all : (a b c : Bool) → a ≡ true → b ≡ true → c ≡ (a && (b && c))
isolated-all true true c h e = refl
isolated-all true false c h e = absurd (false≢true e)
isolated-all false b c h e = absurd (false≢true h)

pub isolated-off : (a b c : Bool) → a ≡ false → false ≡ (a && (b && c))
isolated-off false b c h = refl
isolated-off true b c h = absurd (false≢true (sym h))

pub isolated-few : (a b c : Bool) → b ≡ false → false ≡ (a && (b && c))
isolated-few true false c h = refl
isolated-few false false c h = refl
isolated-few a true c h = absurd (false≢true (sym h))

pub is_shut-dirty : (b : Bool) (n : ℕ) → is_shut (budget_of b n) ≡ b
is_shut-dirty true n = refl
is_shut-dirty false n = refl

-- the path on which an expression of a placeable is written
pub path-first : {A : Type 0} (view : A → Elements) (x : A) (xs ys zs : List A) → xs ≡ ys → length xs ≡ 0 → zs ≡ xs ++ x ∷ [] → map view zs ≡ rooted_path (view x) (map view ys)
path-first view x [] ys zs h e n = ap (map view) n ∙ ap (λ vs. rooted_path (view x) (map view vs)) h
path-first view x (y ∷ xs) ys zs h e n = absurd (omega arith)

pub path-later : {A : Type 0} (view : A → Elements) (w : Elements) (xs ys zs : List A) → xs ≡ ys → (length xs ≡ 0 → ⊥) → zs ≡ xs → map view zs ≡ rooted_path w (map view ys)
path-later view w [] ys zs h e n = absurd (e refl)
path-later view w (x ∷ xs) ys zs h e n = ap (map view) n ∙ ap (λ vs. rooted_path w (map view vs)) h

-- the bytes of isolation marks
pub front-bytes : 226 ∷ 129 ∷ 168 ∷ [] ≡ encode_utf8 0x2068
unfolding encode_utf8
front-bytes = refl

pub back-bytes : 226 ∷ 129 ∷ 169 ∷ [] ≡ encode_utf8 0x2069
unfolding encode_utf8
back-bytes = refl
