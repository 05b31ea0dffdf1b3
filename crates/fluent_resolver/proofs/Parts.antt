-- Patterns and their parts, by what the code has done so far.
use Rattle.std.proofs.Common.{◌≡◌, ℕ, zero, suc, ◌+◌, ◌*◌, ◌<◌, ◌≤◌, Option, get_or, length, Bool, true, false, cond, List, [], ◌∷◌, ◌++◌, refl, ap, sym, subst, ◌∙◌, arith, append_assoc, append-nil}
use Rattle.std.specs.Prelude.{encode_utf8}
use Rattle.std.proofs.lemmas.Bool.{false≢true}
use Rattle.fluent_ast.specs.View.{Element, Named, placeable, elements_of, inlines_of, nameds_of}
use Rattle.fluent_errors.specs.Errors.{cyclic}
use Rattle.fluent_grammar.specs.Tree as t
use Rattle.fluent_grammar.specs.Tree.{Arguments, Elements, Expression, Inline, Inlines, MaybeArguments, Nameds, Variants}
use Rattle.fluent_grammar.specs.Words.{Text}
use Rattle.fluent_meaning.proofs.Refusals.{TakesNoLess, taken, tells-all, tells-fewer, tells-first, tells-like, tells-none, tells-then}
use Rattle.fluent_meaning.proofs.Writing.{after-then, elements-append, writes-as}
use Rattle.fluent_meaning.specs.Environment.{Environment}
use Rattle.fluent_meaning.specs.Fallback.{braced, fallback}
use Rattle.fluent_meaning.specs.Refused.{TellsSome}
use Rattle.fluent_meaning.specs.Steps.{Budget, may_open, shut, left, is_shut, Done, done, and_then, mapped, opening, entering, opens}
use Rattle.fluent_meaning.specs.Substitution as s
use Rattle.fluent_meaning.specs.Substitution.{Surroundings, Writer, rooted, is_on_path, deeper}
use Rattle.fluent_meaning.specs.Told.{State, Writes, Finds, after}
use Rattle.fluent_meaning.specs.Weight.{arguments_weight, expression_weight, inline_weight, inlines_weight, maybe_arguments_weight, nameds_weight}
use Rattle.std.proofs.Math.Nat.{mul-le-mul_right}

-- the same step, said otherwise
pub tells-as : {A : Type 0} {s t : State} {a b : Done A} → a ≡ b → TellsSome s t a → TellsSome s t b
tells-as {s = s} {t = t} e h = subst (λ d. TellsSome s t d) e h

-- the same step at a place that is the same
module _ {P : Type 0} {p q : P} (same : p ≡ q) {s t : State} where
  pub tells-at : {A : Type 0} (f : P → Budget → Done A) → TellsSome s t (f p s.budget) → TellsSome s t (f q s.budget)
  tells-at f h = subst (λ x. TellsSome s t (f x s.budget)) same h

  pub writes-at : {x y : Text} (f : P → Budget → Done Text) → Writes x y s t (f p) → Writes x y s t (f q)
  writes-at {x = x} {y = y} f h = subst (λ z. Writes x y s t (f z)) same h

-- what was written or found was told
pub written-tells : {x y : Text} {s t : State} (f : Budget → Done Text) → Writes x y s t f → TellsSome s t (f s.budget)
written-tells {s = s} f p = tells-all (f s.budget) p.state

pub found-tells : {A : Type 0} {v : A} {s t : State} (f : Budget → Done A) → Finds v s t f → TellsSome s t (f s.budget)
found-tells {s = s} f p = tells-all (f s.budget) p.state

-- a pattern more is entered
one_plus : (n : ℕ) → 0 + n ≡ n
one_plus n = omega arith

entering-then : {A : Type 0} (v : Bool) (b : Budget) (f : Budget → Done A) → and_then (entering (done v b)) (λ x c. f c) ≡ entering (f b)
entering-then v b f = λ i. record { value = (f b).value; errors = (f b).errors; budget = (f b).budget; opened = one_plus (f b).opened i; entered = plus_suc (f b).entered i }
  where
    plus_suc : (n : ℕ) → suc 0 + n ≡ suc n
    plus_suc n = omega arith

entered-takes : (v : Bool) (b : Budget) (f : Budget → Done Text) → TakesNoLess (and_then (entering (done v b)) (λ x c. f c)) (entering (f b))
entered-takes v b f = record { errors = refl; opened = omega arith; entered = omega arith }

same_budget : (s u : State) → u ≡ after s (entering (done true s.budget)) → u.budget ≡ s.budget
same_budget s u counted = ap (λ (x : State). x.budget) counted

module _ {s u t : State} (counted : u ≡ after s (entering (done true s.budget))) where
  pub entered-writes : {x y : Text} (f : Budget → Done Text) → Writes x y u t f → Writes x y s t (λ b. entering (f b))
  entered-writes {x = x} f p = record {
    text = p.text ∙ ap (λ b. x ++ (f b).value) (same_budget s u counted);
    state = p.state ∙ ap (λ b. after u (f b)) (same_budget s u counted) ∙ ap (λ z. after z (f s.budget)) counted ∙ after-then s (entering (done true s.budget)) (λ v c. f c) ∙ ap (after s) (entering-then true s.budget f);
  }

  pub entered-tells : (f : Budget → Done Text) → TellsSome u t (f u.budget) → TellsSome s t (entering (f s.budget))
  entered-tells f h = tells-fewer (entering (f s.budget)) (entered-takes true s.budget f) (tells-then (entering (done true s.budget)) (λ v c. f c) counted (tells-as (ap f (same_budget s u counted)) h))

-- elements that are written before others
module _ {S F : Type 0} (env : Environment S F) (write : Writer env Expression) (whole : Elements) (place : Surroundings S) (xs : List Element) {held now : Text} {r u : State} (p : Writes held now r u (λ b. s.elements_with env write whole (elements_of xs) place b)) where
  before-tells : {v : State} (ys : List Element) → TellsSome u v (s.elements_with env write whole (elements_of ys) place u.budget) → TellsSome r v (s.elements_with env write whole (elements_of (xs ++ ys)) place r.budget)
  before-tells {v = v} ys h =
      let a = s.elements_with env write whole (elements_of xs) place r.budget in
      let same : s.elements_with env write whole (elements_of ys) place u.budget ≡ s.elements_with env write whole (elements_of ys) place a.budget = ap (λ (x : State). s.elements_with env write whole (elements_of ys) place x.budget) p.state in
      tells-as (sym (elements-append env write whole place xs ys r.budget))
      (tells-then a (λ x c. mapped (λ q. x ++ q) (s.elements_with env write whole (elements_of ys) place c)) p.state
      (tells-like (mapped (λ q. a.value ++ q) (s.elements_with env write whole (elements_of ys) place a.budget)) refl (tells-as same h)))

  -- nothing was told and counted after them
  pub rest-refused : (ys : List Element) {v : State} → v ≡ u → TellsSome r v (s.elements_with env write whole (elements_of (xs ++ ys)) place r.budget)
  rest-refused ys h = before-tells ys (tells-none (s.elements_with env write whole (elements_of ys) place u.budget) h)

  -- a placeable after them was refused
  pub placeable-refused : (e : Expression) (ys : List Element) {v : State} → TellsSome u v (s.placeable_with env write whole e place u.budget) → TellsSome r v (s.elements_with env write whole (elements_of (xs ++ placeable e ∷ ys)) place r.budget)
  unfolding s.elements_with
  placeable-refused e ys h = before-tells (placeable e ∷ ys) (tells-first (λ x c. mapped (λ q. x ++ q) (s.elements_with env write whole (elements_of ys) place c)) h)

module _ {S F : Type 0} (env : Environment S F) (write : Writer env Expression) (whole : Elements) (e : Expression) (place : Surroundings S) where
  abbrev isolates : Bool
  isolates = s.is_isolated env whole e

  joined : (i : Bool) (w front back : Text) (a : Done Text) → ((w ++ cond i front []) ++ a.value) ++ cond i back [] ≡ w ++ (opening (cond i (mapped (λ q. front ++ (q ++ back)) a) a)).value
  joined true w front back a = simp append_assoc
  joined false w front back a = simp (append_assoc, append-nil)

  same-after : (i : Bool) (front back : Text) (r : State) (a : Done Text) → after r (opening a) ≡ after r (opening (cond i (mapped (λ q. front ++ (q ++ back)) a) a))
  same-after true front back r a = refl
  same-after false front back r a = refl

  opened-takes : (v : Bool) (b : Budget) (i : Bool) (front back : Text) (f : Budget → Done Text) → TakesNoLess (and_then (opening (done v b)) (λ x c. f c)) (opening (cond i (mapped (λ q. front ++ (q ++ back)) (f b)) (f b)))
  opened-takes v b true front back f = record { errors = refl; opened = omega arith; entered = omega arith }
  opened-takes v b false front back f = record { errors = refl; opened = omega arith; entered = omega arith }

  opening-then : (b : Budget) (f : Budget → Done Text) → and_then (opening (done true b)) (λ x c. f c) ≡ opening (f b)
  opening-then b f = λ i. record { value = (f b).value; errors = (f b).errors; budget = (f b).budget; opened = plus_suc (f b).opened i; entered = one_plus (f b).entered i }
    where
      plus_suc : (n : ℕ) → suc 0 + n ≡ suc n
      plus_suc n = omega arith

  marked-by : (r : State) (b : Budget) (u v : State) (w0 w1 w2 w3 : Text) (iso : Bool) → r.budget ≡ b → true ≡ (opens b).value → u ≡ after r (opens b) → iso ≡ isolates → w1 ≡ w0 ++ cond iso (encode_utf8 0x2068) [] → Writes w1 w2 u v (s.unmarked_with env write whole e place) → w3 ≡ w2 ++ cond iso (encode_utf8 0x2069) [] → Writes w0 w3 r v (s.placeable_with env write whole e place)
  marked-by r shut u v w0 w1 w2 w3 iso at is_open found is_iso e1 p e3 = absurd (false≢true (sym is_open))
  marked-by r (may_open zero) u v w0 w1 w2 w3 iso at is_open found is_iso e1 p e3 = absurd (false≢true (sym is_open))
  marked-by r (may_open (suc k)) u v w0 w1 w2 w3 iso at is_open found is_iso e1 p e3 =
      let f : Budget → Done Text = s.unmarked_with env write whole e place in
      let a : Done Text = f (may_open k) in
      let b1 : u.budget ≡ may_open k = ap (λ (x : State). x.budget) found in
      let text2 : w2 ≡ w1 ++ a.value = p.text ∙ ap (λ b. w1 ++ (f b).value) b1 in
      let state2 : v ≡ after r (opening a) = p.state ∙ ap (λ b. after u (f b)) b1 ∙ ap (λ x. after x a) found ∙ after-then r (opening (done true (may_open k))) (λ x c. f c) ∙ ap (after r) (opening-then (may_open k) f) in
      let texts : w3 ≡ ((w0 ++ cond iso (encode_utf8 0x2068) []) ++ a.value) ++ cond iso (encode_utf8 0x2069) [] = e3 ∙ ap (λ x. x ++ cond iso (encode_utf8 0x2069) []) (text2 ∙ ap (λ x. x ++ a.value) e1) in
      let same : w3 ≡ ((w0 ++ cond isolates (encode_utf8 0x2068) []) ++ a.value) ++ cond isolates (encode_utf8 0x2069) [] = texts ∙ ap (λ i. ((w0 ++ cond i (encode_utf8 0x2068) []) ++ a.value) ++ cond i (encode_utf8 0x2069) []) is_iso in
      let step : Writes w0 w3 r v (λ c. s.placeable_with env write whole e place (may_open (suc k))) = record {
        text = same ∙ joined isolates w0 (encode_utf8 0x2068) (encode_utf8 0x2069) a;
        state = state2 ∙ same-after isolates (encode_utf8 0x2068) (encode_utf8 0x2069) r a;
      } in
      record { text = step.text ∙ ap (λ b. w0 ++ (s.placeable_with env write whole e place b).value) (sym at); state = step.state ∙ ap (λ b. after r (s.placeable_with env write whole e place b)) (sym at) }

  -- a placeable that may be opened, between its marks
  pub marked-writes : (r u v : State) (w0 w1 w2 w3 : Text) (iso : Bool) → Finds true r u opens → iso ≡ isolates → w1 ≡ w0 ++ cond iso (encode_utf8 0x2068) [] → Writes w1 w2 u v (s.unmarked_with env write whole e place) → w3 ≡ w2 ++ cond iso (encode_utf8 0x2069) [] → Writes w0 w3 r v (s.placeable_with env write whole e place)
  marked-writes r u v w0 w1 w2 w3 iso found = marked-by r r.budget u v w0 w1 w2 w3 iso refl found.value found.state

  opened-by : (r : State) (b : Budget) (u v : State) → r.budget ≡ b → true ≡ (opens b).value → u ≡ after r (opens b) → TellsSome u v (s.unmarked_with env write whole e place u.budget) → TellsSome r v (s.placeable_with env write whole e place r.budget)
  opened-by r shut u v at is_open found h = absurd (false≢true (sym is_open))
  opened-by r (may_open zero) u v at is_open found h = absurd (false≢true (sym is_open))
  opened-by r (may_open (suc k)) u v at is_open found h =
      let f : Budget → Done Text = s.unmarked_with env write whole e place in
      let a : Done Text = f (may_open k) in
      let told : TellsSome u v a = tells-as (ap (λ (x : State). f x.budget) found) h in
      tells-as (ap (s.placeable_with env write whole e place) (sym at))
      (tells-fewer (s.placeable_with env write whole e place (may_open (suc k))) (opened-takes true (may_open k) isolates (encode_utf8 0x2068) (encode_utf8 0x2069) f) (tells-then (opening (done true (may_open k))) (λ x c. f c) found told))

  -- what was refused inside a placeable that was opened
  pub opened-tells : (r u v : State) → Finds true r u opens → TellsSome u v (s.unmarked_with env write whole e place u.budget) → TellsSome r v (s.placeable_with env write whole e place r.budget)
  opened-tells r u v found = opened-by r r.budget u v refl found.value found.state

  closed-taken : (z : Bool) (a : Done Text) → taken a ≡ taken (cond z (mapped (λ q. q ++ braced (fallback e)) a) a)
  closed-taken true a = refl
  closed-taken false a = refl

  -- an expression that was refused, in a placeable that was opened before
  pub unmarked-tells : (r v : State) → TellsSome r v (write e (rooted whole place) r.budget) → TellsSome r v (s.unmarked_with env write whole e place r.budget)
  unmarked-tells r v h =
      let a = write e (rooted whole place) r.budget in
      tells-like (s.unmarked_with env write whole e place r.budget) (closed-taken (is_shut a.budget) a) h

-- references
module _ {S F : Type 0} (env : Environment S F) (enter : Writer env Elements) (i : Inline) (es : Elements) (place : Surroundings S) (b : Budget) where
  pub referred-again : is_on_path es place.path ≡ true → s.fallen_back env i cyclic b ≡ s.referred env enter i es place b
  referred-again h = ap (λ c. cond c (s.fallen_back env i cyclic b) (entering (enter es (deeper es place) b))) (sym h)

  pub referred-first : is_on_path es place.path ≡ false → entering (enter es (deeper es place) b) ≡ s.referred env enter i es place b
  referred-first h = ap (λ c. cond c (s.fallen_back env i cyclic b) (entering (enter es (deeper es place) b))) (sym h)

-- a pattern that a reference enters, at a place that is inside it
module _ {S F : Type 0} (env : Environment S F) (enter : Writer env Elements) (i : Inline) (es : Elements) (place : Surroundings S) {r u v : State} (first : is_on_path es place.path ≡ false) (counted : u ≡ after r (entering (done true r.budget))) {at : Surroundings S} (inside : at ≡ deeper es place) where
  pub referred-writes : {x y : Text} {w : State} → w ≡ v → Writes x y u v (enter es at) → Writes x y r w (s.referred env enter i es place)
  referred-writes {x = x} {y = y} same h =
      let written : Writes x y u v (enter es (deeper es place)) = writes-at inside (enter es) h in
      writes-as _ _ (referred-first env enter i es place r.budget first) (entered-writes counted (enter es (deeper es place)) (record { text = written.text; state = same ∙ written.state }))

  pub referred-tells : TellsSome u v (enter es at u.budget) → TellsSome r v (s.referred env enter i es place r.budget)
  referred-tells h = tells-as (referred-first env enter i es place r.budget first) (entered-tells counted (enter es (deeper es place)) (tells-at inside (enter es) h))

-- measures: from a pattern to its placeable, and from a placeable to its opened expression
pub less-element : (k n w x y : ℕ) → k ≤ n → x < y → 4 * (k * w + x) + 4 < 4 * (n * w + y) + 1
less-element k n w x y h p = let more : k * w ≤ n * w = mul-le-mul_right w h in omega (arith, more, p)

pub less-placeable : (k n w x : ℕ) → suc k ≤ n → 4 * (suc k * w + x) + 3 < 4 * (n * w + x) + 4
less-placeable k n w x h = let more : suc k * w ≤ n * w = mul-le-mul_right w h in omega (arith, more)

pub weight-arguments : (ps : Inlines) (ns : Nameds) → arguments_weight (t.arguments ps ns) ≡ suc (inlines_weight ps + nameds_weight ns)
unfolding arguments_weight
weight-arguments ps ns = refl

pub weight-some : (a : Arguments) → maybe_arguments_weight (t.with_arguments a) ≡ suc (arguments_weight a)
unfolding arguments_weight
weight-some a = refl

pub weight-function : (id : Text) (a : Arguments) → inline_weight (t.function_reference id a) ≡ suc (arguments_weight a)
unfolding arguments_weight
weight-function id a = refl

pub weight-term : (id : Text) (attr : Option Text) (c : MaybeArguments) → inline_weight (t.term_reference id attr c) ≡ suc (maybe_arguments_weight c)
unfolding arguments_weight
weight-term id attr c = refl

pub weight-select : (i : Inline) (vs : Variants) → inline_weight i < expression_weight (t.select i vs)
unfolding arguments_weight
weight-select i vs = omega arith

-- an argument among others
pub weight-positional : (xs : List Inline) (i : ℕ) (x : Inline) → i < length xs → x ≡ get_or xs i x → inline_weight x < inlines_weight (inlines_of xs)
unfolding arguments_weight
weight-positional [] i x h e = absurd (omega arith)
weight-positional (y ∷ ys) zero x h e = let same : inline_weight x ≡ inline_weight y = ap inline_weight e in omega (arith, same)
weight-positional (y ∷ ys) (suc i) x h e = let rest = weight-positional ys i x (omega arith) e in omega arith

pub weight-named : (xs : List Named) (i : ℕ) (x : Named) → i < length xs → x ≡ get_or xs i x → inline_weight x.value < nameds_weight (nameds_of xs)
unfolding arguments_weight
weight-named [] i x h e = absurd (omega arith)
weight-named (y ∷ ys) zero x h e = let same : inline_weight x.value ≡ inline_weight y.value = ap (λ (n : Named). inline_weight n.value) e in omega (arith, same)
weight-named (y ∷ ys) (suc i) x h e = let rest = weight-named ys i x (omega arith) e in omega arith

-- a placeable that was opened leaves one less to open
pub opens-left : (r u : State) → Finds true r u opens → suc (left u.budget) ≤ left r.budget
opens-left r u found = left-by u.budget r.budget found.value (ap (λ (x : State). x.budget) found.state)
  where
    left-by : (c b : Budget) → true ≡ (opens b).value → c ≡ (opens b).budget → suc (left c) ≤ left b
    left-by c shut is_open e = absurd (false≢true (sym is_open))
    left-by c (may_open zero) is_open e = absurd (false≢true (sym is_open))
    left-by c (may_open (suc k)) is_open e = let same : left c ≡ k = ap left e in omega (arith, same)
