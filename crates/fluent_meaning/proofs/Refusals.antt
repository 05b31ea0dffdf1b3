-- What refused steps leave, one after another.
use Rattle.std.proofs.Common.{◌≡◌, ℕ, ◌+◌, ◌≤◌, arith, zero, suc, Bool, true, false, cond, List, [], ◌++◌, map, option_map, refl, ap, sym, subst, ◌∙◌, append_assoc, append-nil}
use Rattle.std.specs.Char.{encode_utf8}
use Rattle.std.proofs.lemmas.Bool.{false≢true}
use Rattle.fluent_grammar.specs.Words.{Text}
use Rattle.fluent_grammar.specs.Tree.{Elements, Expression}
use Rattle.fluent_errors.specs.Errors.{Unresolved, unresolved}
use Rattle.fluent_meaning.specs.Environment.{Environment}
use Rattle.fluent_meaning.specs.Fallback.{braced, fallback}
use Rattle.fluent_meaning.specs.Refused.{Begins, CountsSome, TellsSome, WritesSome}
use Rattle.fluent_meaning.specs.Steps.{Budget, may_open, shut, is_shut, Done, done, and_then, mapped, beside, opening, entering, opens}
use Rattle.fluent_meaning.specs.Substitution as s
use Rattle.fluent_meaning.specs.Substitution.{Surroundings, Writer, rooted}
use Rattle.fluent_meaning.specs.Told.{State, Writes, Finds, after, capped, in_byte}
use Rattle.fluent_meaning.specs.Work.{placeables_of, times_too_many}
use Rattle.fluent_meaning.proofs.ToldOnce.{times-append}
use Rattle.fluent_meaning.proofs.States.{nothing_told}
use Rattle.fluent_meaning.proofs.Writing.{told-told}

module _ {A : Type 0} where
  pub begins-none : (ys : List A) → Begins [] ys
  begins-none ys = record { rest = ys; is = refl }

  pub begins-all : (xs : List A) → Begins xs xs
  begins-all xs = record { rest = []; is = sym (append-nil xs) }

  -- more may follow
  pub begins-more : {xs ys : List A} (zs : List A) → Begins xs ys → Begins xs (ys ++ zs)
  begins-more {xs = xs} zs h = record { rest = h.rest ++ zs; is = ap (λ l. l ++ zs) h.is ∙ append_assoc xs h.rest zs }

  -- the same may stand before both
  pub begins-behind : {xs ys : List A} (zs : List A) → Begins xs ys → Begins (zs ++ xs) (zs ++ ys)
  begins-behind {xs = xs} zs h = record { rest = h.rest; is = ap (λ l. zs ++ l) h.is ∙ sym (append_assoc zs xs h.rest) }

  pub begins-as : {xs ys zs : List A} → ys ≡ zs → Begins xs ys → Begins xs zs
  begins-as e h = record { rest = h.rest; is = sym e ∙ h.is }

-- ---- counts

same-counted : (p q n : ℕ) → q ≡ p → q ≤ p + n
same-counted p q n h = omega (arith, h)

same-byte : (p q : ℕ) → q ≡ p → in_byte p ≤ q
same-byte p q h = omega (arith, h)

same-capped : (p q : ℕ) → q ≡ p → capped p ≤ q
same-capped p q h = omega (arith, h)

all-bytes : (p q n : ℕ) → q ≡ in_byte (p + n) → (q ≤ p + n) × (in_byte p ≤ q)
all-bytes p q n h = (omega (arith, h), omega (arith, h))

all-capped : (p q n : ℕ) → q ≡ capped (p + n) → (q ≤ p + n) × (capped p ≤ q)
all-capped p q n h = (omega (arith, h), omega (arith, h))

more-placeables : (p q m n k x y z : ℕ) → q ≤ p + (m + x) → z ≡ x + y → q ≤ p + ((m + n) + z)
more-placeables p q m n k x y z h e = omega (arith, h, e)

more-entered : (p q m n : ℕ) → q ≤ p + m → q ≤ p + (m + n)
more-entered p q m n h = omega (arith, h)

then-placeables : (p q r m n x y z : ℕ) → q ≡ in_byte (p + (m + x)) → r ≤ q + (n + y) → z ≡ x + y → r ≤ p + ((m + n) + z)
then-placeables p q r m n x y z h k e = omega (arith, h, k, e)

then-entered : (p q r m n : ℕ) → q ≡ capped (p + m) → r ≤ q + n → r ≤ p + (m + n)
then-entered p q r m n h k = omega (arith, h, k)

then-byte : (p q r n : ℕ) → q ≡ in_byte (p + n) → in_byte q ≤ r → in_byte p ≤ r
then-byte p q r n h k = omega (arith, h, k)

then-capped : (p q r n : ℕ) → q ≡ capped (p + n) → capped q ≤ r → capped p ≤ r
then-capped p q r n h k = omega (arith, h, k)

fewer-placeables : (p q m n x y : ℕ) → q ≤ p + (m + x) → m ≤ n → x ≡ y → q ≤ p + (n + y)
fewer-placeables p q m n x y h k e = omega (arith, h, k, e)

fewer-entered : (p q m n : ℕ) → q ≤ p + m → m ≤ n → q ≤ p + n
fewer-entered p q m n h k = omega (arith, h, k)

-- nothing was counted
pub counts-none : {A : Type 0} {s t : State} (a : Done A) → t.placeables ≡ s.placeables → t.entered ≡ s.entered → CountsSome s t a
counts-none {s = s} {t = t} a h k = record {
  placeables = same-counted s.placeables t.placeables (placeables_of a) h;
  entered = same-counted s.entered t.entered a.entered k;
  placeables_stay = same-byte s.placeables t.placeables h;
  entered_stay = same-capped s.entered t.entered k;
}

-- all was counted
pub counts-all : {A : Type 0} {s t : State} (a : Done A) → t ≡ after s a → CountsSome s t a
counts-all {s = s} {t = t} a h =
    let placeables = all-bytes s.placeables t.placeables (placeables_of a) (ap (λ (x : State). x.placeables) h) in
    let entered = all-capped s.entered t.entered a.entered (ap (λ (x : State). x.entered) h) in
    record { placeables = placeables.0; entered = entered.0; placeables_stay = placeables.1; entered_stay = entered.1 }

counts-first : {A B : Type 0} {s t : State} {a : Done A} (f : A → Budget → Done B) → CountsSome s t a → CountsSome s t (and_then a f)
counts-first {s = s} {t = t} {a = a} f h =
    let b = f a.value a.budget in record {
      placeables = more-placeables s.placeables t.placeables a.opened b.opened 0 (times_too_many a.errors) (times_too_many b.errors) (times_too_many (a.errors ++ b.errors)) h.placeables (times-append a.errors b.errors);
      entered = more-entered s.entered t.entered a.entered b.entered h.entered;
      placeables_stay = h.placeables_stay;
      entered_stay = h.entered_stay;
    }

counts-then : {A B : Type 0} {s t u : State} (a : Done A) (f : A → Budget → Done B) → t ≡ after s a → CountsSome t u (f a.value a.budget) → CountsSome s u (and_then a f)
counts-then {s = s} {t = t} {u = u} a f e h =
    let b = f a.value a.budget in
    let placeables = ap (λ (x : State). x.placeables) e in
    let entered = ap (λ (x : State). x.entered) e in record {
      placeables = then-placeables s.placeables t.placeables u.placeables a.opened b.opened (times_too_many a.errors) (times_too_many b.errors) (times_too_many (a.errors ++ b.errors)) placeables h.placeables (times-append a.errors b.errors);
      entered = then-entered s.entered t.entered u.entered a.entered b.entered entered h.entered;
      placeables_stay = then-byte s.placeables t.placeables u.placeables (placeables_of a) placeables h.placeables_stay;
      entered_stay = then-capped s.entered t.entered u.entered a.entered entered h.entered_stay;
    }

equal-le : {m n : ℕ} → m ≡ n → m ≤ n
equal-le h = omega (arith, h)

-- a step with the same errors that takes no less
pub record TakesNoLess {A B : Type 0} (a : Done A) (b : Done B) : Type 0 where
  pub errors : a.errors ≡ b.errors
  pub opened : a.opened ≤ b.opened
  pub entered : a.entered ≤ b.entered

counts-fewer : {A B : Type 0} {s t : State} {a : Done A} {b : Done B} → TakesNoLess a b → CountsSome s t a → CountsSome s t b
counts-fewer {s = s} {t = t} {a = a} {b = b} e h = record {
  placeables = fewer-placeables s.placeables t.placeables a.opened b.opened (times_too_many a.errors) (times_too_many b.errors) h.placeables e.opened (ap times_too_many e.errors);
  entered = fewer-entered s.entered t.entered a.entered b.entered h.entered e.entered;
  placeables_stay = h.placeables_stay;
  entered_stay = h.entered_stay;
}

-- ---- errors

-- nothing was told, and nothing counted
pub tells-none : {A : Type 0} {s t : State} (a : Done A) → t ≡ s → TellsSome s t a
tells-none {s = s} a h = record { told = []; first = begins-none a.errors; errors = ap (λ (x : State). x.errors) h ∙ sym (nothing_told s.errors); counts = counts-none a (ap (λ (x : State). x.placeables) h) (ap (λ (x : State). x.entered) h) }

-- all was told
pub tells-all : {A : Type 0} {s t : State} (a : Done A) → t ≡ after s a → TellsSome s t a
tells-all a h = record { told = a.errors; first = begins-all a.errors; errors = ap (λ (x : State). x.errors) h; counts = counts-all a h }

-- a step that was refused, before another
pub tells-first : {A B : Type 0} {s t : State} {a : Done A} (f : A → Budget → Done B) → TellsSome s t a → TellsSome s t (and_then a f)
tells-first {a = a} f h = record { told = h.told; first = begins-more (f a.value a.budget).errors h.first; errors = h.errors; counts = counts-first f h.counts }

-- a step that was refused, after another
pub tells-then : {A B : Type 0} {s t u : State} (a : Done A) (f : A → Budget → Done B) → t ≡ after s a → TellsSome t u (f a.value a.budget) → TellsSome s u (and_then a f)
tells-then {s = s} a f e h = record {
  told = a.errors ++ h.told;
  first = begins-behind a.errors h.first;
  errors = h.errors ∙ ap (λ (x : State). option_map (λ es. es ++ map unresolved h.told) x.errors) e ∙ told-told s.errors a.errors h.told;
  counts = counts-then a f e h.counts;
}

-- a step with the same errors that takes no less
pub tells-fewer : {A B : Type 0} {s t : State} {a : Done A} (b : Done B) → TakesNoLess a b → TellsSome s t a → TellsSome s t b
tells-fewer b e h = record { told = h.told; first = begins-as e.errors h.first; errors = h.errors; counts = counts-fewer e h.counts }

-- what a step tells and takes
abbrev pub taken : {A : Type 0} → Done A → List Unresolved × ℕ × ℕ
taken a = (a.errors, a.opened, a.entered)

pub no_less : {A B : Type 0} (a : Done A) (b : Done B) → taken a ≡ taken b → TakesNoLess a b
no_less a b e = record { errors = ap (λ x. x.0) e; opened = equal-le (ap (λ x. x.1) e); entered = equal-le (ap (λ x. x.2) e) }

-- a step with the same errors that takes the same
pub tells-like : {A B : Type 0} {s t : State} {a : Done A} (b : Done B) → taken a ≡ taken b → TellsSome s t a → TellsSome s t b
tells-like {a = a} b e h = tells-fewer b (no_less a b e) h

-- ---- texts

-- nothing was written, and nothing told
pub some-none : (x : Text) {s t : State} (f : Budget → Done Text) → t ≡ s → WritesSome x x s t f
some-none x {s = s} f h = record { written = []; first = begins-none (f s.budget).value; text = sym (append-nil x); tells = tells-none (f s.budget) h }

pub some-as : {x y : Text} {s t : State} (f g : Budget → Done Text) → f s.budget ≡ g s.budget → WritesSome x y s t f → WritesSome x y s t g
some-as {s = s} {t = t} f g e h = record { written = h.written; first = begins-as (ap (λ (d : Done Text). d.value) e) h.first; text = h.text; tells = subst (λ d. TellsSome s t d) e h.tells }

-- all of a text was written
pub some-all : {x y : Text} {s t : State} (f : Budget → Done Text) → Writes x y s t f → WritesSome x y s t f
some-all {s = s} f h = record {
  written = (f s.budget).value;
  first = begins-all (f s.budget).value;
  text = h.text;
  tells = tells-all (f s.budget) h.state;
}

-- a text that was refused, before another
pub some-first : {x y : Text} {s t : State} (f g : Budget → Done Text) → WritesSome x y s t f → WritesSome x y s t (λ b. beside (f b) g)
some-first {s = s} f g h = record {
  written = h.written;
  first = begins-more (g (f s.budget).budget).value h.first;
  text = h.text;
  tells = tells-first (λ v b. mapped (λ r. v ++ r) (g b)) h.tells;
}

-- a text that was refused, after another
pub some-then : {x y z : Text} {s t u : State} (f g : Budget → Done Text) → Writes x y s t f → WritesSome y z t u g → WritesSome x z s u (λ b. beside (f b) g)
some-then {x = x} {s = s} {t = t} {u = u} f g p h =
    let a = f s.budget in
    let same : t.budget ≡ a.budget = ap (λ (r : State). r.budget) p.state in record {
      written = a.value ++ h.written;
      first = begins-behind a.value (begins-as (ap (λ b. (g b).value) same) h.first);
      text = h.text ∙ ap (λ y. y ++ h.written) p.text ∙ append_assoc x a.value h.written;
      tells = tells-then a (λ v b. mapped (λ r. v ++ r) (g b)) p.state (tells-like (mapped (λ r. a.value ++ r) (g a.budget)) (ap (λ b. taken (g b)) same) h.tells);
    }

-- one pattern more was entered
entering-takes : {A : Type 0} (a : Done A) → TakesNoLess a (entering a)
entering-takes a = record { errors = refl; opened = omega arith; entered = omega arith }

pub some-entering : {x y : Text} {s t : State} (f : Budget → Done Text) → WritesSome x y s t f → WritesSome x y s t (λ b. entering (f b))
some-entering {s = s} f h = record { written = h.written; first = h.first; text = h.text; tells = tells-fewer (entering (f s.budget)) (entering-takes (f s.budget)) h.tells }

-- a value was refused that a text needs
pub some-unfound : {A : Type 0} (x : Text) {s t : State} (f : Budget → Done A) (g : A → Budget → Done Text) → TellsSome s t (f s.budget) → WritesSome x x s t (λ b. and_then (f b) g)
some-unfound x {s = s} f g h = record { written = []; first = begins-none (and_then (f s.budget) g).value; text = sym (append-nil x); tells = tells-first g h }

module _ {A : Type 0} {v : A} {s t : State} (f : Budget → Done A) (p : Finds v s t f) where
  next_same : {B : Type 0} (g : A → Budget → Done B) → g v t.budget ≡ g (f s.budget).value (f s.budget).budget
  next_same g = ap (λ (r : State). g v r.budget) p.state ∙ ap (λ x. g x (f s.budget).budget) p.value

  -- a text was refused after a value that it needs
  pub some-found : {x y : Text} {u : State} (g : A → Budget → Done Text) → WritesSome x y t u (g v) → WritesSome x y s u (λ b. and_then (f b) g)
  some-found {u = u} g h = record {
    written = h.written;
    first = begins-as (ap (λ (d : Done Text). d.value) (next_same g)) h.first;
    text = h.text;
    tells = tells-then (f s.budget) g p.state (subst (λ d. TellsSome t u d) (next_same g) h.tells);
  }

  -- a value was refused after another that it needs
  pub tells-found : {B : Type 0} {u : State} (g : A → Budget → Done B) → TellsSome t u (g v t.budget) → TellsSome s u (and_then (f s.budget) g)
  tells-found {u = u} g h = tells-then (f s.budget) g p.state (subst (λ d. TellsSome t u d) (next_same g) h)

-- ---- placeables

-- the part of a placeable's text that stands after its first mark
begins-marked : (i z : Bool) (front back behind part : Text) (a : Done Text) → Begins part (a.value ++ cond z behind []) → Begins (cond i front [] ++ part) (opening (cond i (mapped (λ q. front ++ (q ++ back)) (cond z (mapped (λ q. q ++ behind) a) a)) (cond z (mapped (λ q. q ++ behind) a) a))).value
begins-marked true true front back behind part a h = begins-behind front (begins-more back h)
begins-marked true false front back behind part a h = begins-behind front (begins-more back (begins-as (append-nil a.value) h))
begins-marked false true front back behind part a h = h
begins-marked false false front back behind part a h = begins-as (append-nil a.value) h

opened-takes : (v : Bool) (b : Budget) (i z : Bool) (front back behind : Text) (f : Budget → Done Text) → TakesNoLess (and_then (opening (done v b)) (λ x c. f c)) (opening (cond i (mapped (λ q. front ++ (q ++ back)) (cond z (mapped (λ q. q ++ behind) (f b)) (f b))) (cond z (mapped (λ q. q ++ behind) (f b)) (f b))))
opened-takes v b true true front back behind f = record { errors = refl; opened = omega arith; entered = omega arith }
opened-takes v b true false front back behind f = record { errors = refl; opened = omega arith; entered = omega arith }
opened-takes v b false true front back behind f = record { errors = refl; opened = omega arith; entered = omega arith }
opened-takes v b false false front back behind f = record { errors = refl; opened = omega arith; entered = omega arith }

module _ {S F : Type 0} (env : Environment S F) (write : Writer env Expression) (whole : Elements) (e : Expression) (place : Surroundings S) where
  abbrev isolates : Bool
  isolates = s.is_isolated env whole e

  abbrev front : Text
  front = encode_utf8 0x2068

  abbrev behind : Text
  behind = braced (fallback e)

  -- what is after the first mark, by how much of it was written
  part-by : (r : State) (b : Budget) (u v : State) (w0 w1 w2 part : Text) (iso : Bool) → r.budget ≡ b → true ≡ (opens b).value → u ≡ after r (opens b) → iso ≡ isolates → w1 ≡ w0 ++ cond iso front [] → w2 ≡ w1 ++ part → Begins part ((write e (rooted whole place) u.budget).value ++ cond (is_shut (write e (rooted whole place) u.budget).budget) behind []) → TellsSome u v (write e (rooted whole place) u.budget) → WritesSome w0 w2 r v (s.placeable_with env write whole e place)
  part-by r shut u v w0 w1 w2 part iso at is_open found is_iso e1 e2 h t = absurd (false≢true (sym is_open))
  part-by r (may_open zero) u v w0 w1 w2 part iso at is_open found is_iso e1 e2 h t = absurd (false≢true (sym is_open))
  part-by r (may_open (suc k)) u v w0 w1 w2 part iso at is_open found is_iso e1 e2 h t =
      let f : Budget → Done Text = write e (rooted whole place) in
      let a : Done Text = f (may_open k) in
      let same : f u.budget ≡ a = ap (λ (x : State). f x.budget) found in
      let h' : Begins part (a.value ++ cond (is_shut a.budget) behind []) = subst (λ (d : Done Text). Begins part (d.value ++ cond (is_shut d.budget) behind [])) same h in
      let t' : TellsSome u v a = subst (λ (d : Done Text). TellsSome u v d) same t in
      let step : WritesSome w0 w2 r v (λ c. s.placeable_with env write whole e place (may_open (suc k))) = record {
        written = cond isolates front [] ++ part;
        first = begins-marked isolates (is_shut a.budget) front (encode_utf8 0x2069) behind part a h';
        text = e2 ∙ ap (λ x. x ++ part) e1 ∙ ap (λ i. (w0 ++ cond i front []) ++ part) is_iso ∙ append_assoc w0 (cond isolates front []) part;
        tells = tells-fewer _ (opened-takes true (may_open k) isolates (is_shut a.budget) front (encode_utf8 0x2069) behind f) (tells-then (opening (done true (may_open k))) (λ x c. f c) found t');
      } in
      some-as _ _ (ap (s.placeable_with env write whole e place) (sym at)) step

  module _ (r u v : State) (w0 w1 w2 : Text) (iso : Bool) (found : Finds true r u opens) (is_iso : iso ≡ isolates) (e1 : w1 ≡ w0 ++ cond iso front []) where
    -- the expression of an opened placeable was refused
    pub inside-refused : WritesSome w1 w2 u v (write e (rooted whole place)) → WritesSome w0 w2 r v (s.placeable_with env write whole e place)
    inside-refused h =
        let a = write e (rooted whole place) u.budget in
        part-by r r.budget u v w0 w1 w2 h.written iso refl found.value found.state is_iso e1 h.text (begins-more (cond (is_shut a.budget) behind []) h.first) h.tells

    -- its fallback was refused, of which a part may stand, or its last mark, after the whole fallback
    pub behind-refused : (part w3 : Text) → Writes w1 w2 u v (write e (rooted whole place)) → w3 ≡ w2 ++ part → Begins part (cond (is_shut v.budget) behind []) → WritesSome w0 w3 r v (s.placeable_with env write whole e place)
    behind-refused part w3 p e3 h =
        let a = write e (rooted whole place) u.budget in
        let shut1 : is_shut v.budget ≡ is_shut a.budget = ap (λ (x : State). is_shut x.budget) p.state in
        part-by r r.budget u v w0 w1 w3 (a.value ++ part) iso refl found.value found.state is_iso e1
        (e3 ∙ ap (λ x. x ++ part) p.text ∙ append_assoc w1 a.value part)
        (begins-behind a.value (begins-as (ap (λ z. cond z behind []) shut1) h))
        (tells-all a p.state)
